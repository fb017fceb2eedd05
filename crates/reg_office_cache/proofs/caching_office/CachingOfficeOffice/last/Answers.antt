use Rattle.reg_office_api.specs.LookUps.{HasLastMoment}
use Rattle.reg_office_cache.proofs.CachedCalls.{looks}
use Rattle.reg_office_cache.proofs.caching_office.CachingOfficeOffice.last.Goals as goal

pub returns-clause-looks : goal.returns-clause-looks
returns-clause-looks g c =
    looks g.C.Store g.S.Signer c.args.self.now.office c.last.new.self c.args.self.now.undecided
    (λ records. HasLastMoment records c.last.result) c.last.ensures.looks
