use Rattle.reg_office_api.specs.LookUps.{HasChanges}
use Rattle.reg_office_cache.proofs.CachedCalls.{looks}
use Rattle.reg_office_cache.proofs.caching_office.CachingOfficeOffice.changes.Goals as goal

pub returns-clause-looks : goal.returns-clause-looks
returns-clause-looks g c =
    looks g.C.Store g.S.Signer c.args.self.now.office c.changes.new.self c.args.self.now.undecided
    (λ records. HasChanges records c.args.after.now c.changes.result) c.changes.ensures.looks
