use Rattle.std.proofs.Common.{◌≡◌, None, refl}
use Rattle.std.specs.Prelude.{IfOk}
use Rattle.reg_core.specs.Due.{overdue, overdue_report}
use Rattle.reg_office_cache.proofs.CachedCalls.{updates}
use Rattle.reg_office_reads.proofs.PublicLaws.{lent}
use Rattle.reg_office_reads.specs.Looking.{clock_refusal}
use Rattle.reg_office_cache.proofs.caching_office.CachingOffice.overdue.Goals as goal

pub returns : goal.returns
returns g c =
    updates g.C.Store g.S.Signer c.args.self.now.office _ c.args.self.now.undecided c.overdue_by.new.known
    (λ records. IfOk c.overdue_by.result (λ report. (clock_refusal records c.args.now ≡ None) × (report ≡ overdue_report (overdue records c.args.now))))
    (lent c.deref_mut.ensures.shows c.overdue_by.ensures) refl
