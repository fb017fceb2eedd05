use Rattle.reg_office_api.specs.LookUps.{HasRequestLoad}
use Rattle.reg_office_cache.proofs.CachedCalls.{looks}
use Rattle.reg_office_cache.proofs.caching_office.CachingOfficeOffice.request_load.Goals as goal

pub returns-clause-looks : goal.returns-clause-looks
returns-clause-looks g c =
    looks g.C.Store g.S.Signer c.args.self.now.office c.request_load.new.self c.args.self.now.undecided
    (λ records. HasRequestLoad records c.args.now c.args.serial c.args.most c.request_load.result) c.request_load.ensures.looks
