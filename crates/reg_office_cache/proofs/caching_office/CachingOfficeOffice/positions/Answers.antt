use Rattle.std.specs.Prelude.{IfOk}
use Rattle.reg_office_api.specs.Follows.{ArePositionsOf}
use Rattle.reg_office_cache.proofs.CachedCalls.{looks}
use Rattle.reg_office_cache.proofs.caching_office.CachingOfficeOffice.positions.Goals as goal

pub returns-clause-looks : goal.returns-clause-looks
returns-clause-looks g c =
    looks g.C.Store g.S.Signer c.args.self.now.office c.positions.new.self c.args.self.now.undecided
    (λ records. IfOk c.positions.result (ArePositionsOf records)) c.positions.ensures.looks
