use Rattle.std.proofs.Common.{◌≡◌, length}
use Rattle.std.specs.Prelude.{IfOk, filter}
use Rattle.reg_core.specs.Due.{is_open}
use Rattle.reg_office_api.specs.LookUps.{HasOpen}
use Rattle.reg_office_cache.proofs.CachedCalls.{looks_then}
use Rattle.reg_office_cache.proofs.caching_office.CachingOfficeOffice.open_count.Goals as goal

pub returns-in-Err-clause-looks : goal.returns-in-Err-clause-looks
returns-in-Err-clause-looks g c =
    looks_then g.C.Store g.S.Signer c.args.self.now.office c.count_open.new.self.office c.open_count.new.self c.args.self.now.undecided c.count_open.new.self.undecided
    (λ records. IfOk c.count_open.result (λ count. count ≡ length (filter (is_open records c.args.now) records.requests)))
    (λ signers before after. HasOpen before c.args.now c.open_count.result × (after ≡ before))
    c.count_open.ensures (λ signers before after made. made.1) c.open_count.ensures.looks
