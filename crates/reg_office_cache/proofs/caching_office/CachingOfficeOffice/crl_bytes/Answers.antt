use Rattle.reg_office_api.specs.CallSteps.{CrlStep}
use Rattle.reg_office_api.specs.Items.{items_of}
use Rattle.reg_office_cache.proofs.CachedCalls.{leaves}
use Rattle.reg_office_cache.proofs.caching_office.CachingOfficeOffice.crl_bytes.Goals as goal

pub returns : goal.returns
returns g c =
    leaves g.C.Store g.S.Signer c.args.self.now.office c.crl_bytes.new.self c.args.self.now.undecided
    (CrlStep c.args.number (items_of c.crl_bytes.result))
    (λ signers before after made. made.1) c.crl_bytes.ensures.gives
