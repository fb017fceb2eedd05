use Rattle.reg_office_api.specs.LookUps.{HasSummary}
use Rattle.reg_office_cache.proofs.CachedCalls.{looks}
use Rattle.reg_office_cache.proofs.caching_office.CachingOfficeOffice.summary.Goals as goal

pub returns-clause-looks : goal.returns-clause-looks
returns-clause-looks g c =
    looks g.C.Store g.S.Signer c.args.self.now.office c.summary.new.self c.args.self.now.undecided
    (λ records. HasSummary records c.summary.result) c.summary.ensures.looks
