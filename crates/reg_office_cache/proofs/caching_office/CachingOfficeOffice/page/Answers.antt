use Rattle.reg_office_api.specs.LookUps.{PageStep}
use Rattle.reg_office_cache.proofs.CachedCalls.{leaves}
use Rattle.reg_office_cache.proofs.caching_office.CachingOfficeOffice.page.Goals as goal

pub returns : goal.returns
returns g c =
    leaves g.C.Store g.S.Signer c.args.self.now.office c.page.new.self c.args.self.now.undecided
    (PageStep c.args.now c.args.most c.args.from c.page.result)
    (λ signers before after made. made.1) c.page.ensures.pages
