use Rattle.reg_office_api.specs.Settings.{SetsKeyIdentifier}
use Rattle.reg_office_cache.proofs.CachedCalls.{caches, identifier_kept}
use Rattle.reg_office_cache.proofs.caching_office.CachingOfficeOffice.set_key_identifier.Goals as goal

pub returns-clause-sets : goal.returns-clause-sets
returns-clause-sets g c =
    caches g.C.Store g.S.Signer c.args.self.now.office c.set_key_identifier.new.self c.args.self.now.undecided c.args.self.now.undecided
    (λ signers. SetsKeyIdentifier c.args.octets c.set_key_identifier.result) c.set_key_identifier.ensures.sets
    (λ signers. identifier_kept c.args.self.now.undecided c.args.octets c.set_key_identifier.result)
