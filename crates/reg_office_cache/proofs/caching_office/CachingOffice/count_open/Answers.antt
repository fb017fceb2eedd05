use Rattle.std.proofs.Common.{◌≡◌, length, refl}
use Rattle.std.specs.Prelude.{IfOk, filter}
use Rattle.reg_core.specs.Due.{is_open}
use Rattle.reg_office_cache.proofs.CachedCalls.{updates}
use Rattle.reg_office_reads.proofs.PublicLaws.{lent}
use Rattle.reg_office_cache.proofs.caching_office.CachingOffice.count_open.Goals as goal

pub returns : goal.returns
returns g c =
    updates g.C.Store g.S.Signer c.args.self.now.office _ c.args.self.now.undecided c.open_count_by.new.known
    (λ records. IfOk c.open_count_by.result (λ count. count ≡ length (filter (is_open records c.args.now) records.requests)))
    (lent c.deref_mut.ensures.shows c.open_count_by.ensures) refl
