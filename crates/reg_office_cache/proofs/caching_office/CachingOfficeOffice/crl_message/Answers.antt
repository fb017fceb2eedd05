use Rattle.std.proofs.Common.{◌≡◌}
use Rattle.reg_office_cache.proofs.CachedCalls.{leaves}
use Rattle.reg_office_cache.proofs.caching_office.CachingOfficeOffice.crl_message.Goals as goal

pub returns : goal.returns
returns g c =
    leaves g.C.Store g.S.Signer c.args.self.now.office c.crl_message.new.self c.args.self.now.undecided
    (λ signers before after. after ≡ before)
    (λ signers before after made. made) c.crl_message.ensures.stays
