use Rattle.reg_office_api.specs.LookUps.{HasLongest}
use Rattle.reg_office_cache.proofs.CachedCalls.{looks}
use Rattle.reg_office_cache.proofs.caching_office.CachingOfficeOffice.longest.Goals as goal

pub returns : goal.returns
returns g c =
    record {
      looks = looks g.C.Store g.S.Signer c.args.self.now.office c.longest.new.self c.args.self.now.undecided
          (λ records. HasLongest records c.args.order c.args.not_before c.longest.result) c.longest.ensures.looks;
    }
