use Rattle.reg_office_api.specs.CallSteps.{CommandStep}
use Rattle.reg_office_cache.proofs.CachedCalls.{caches}
use Rattle.reg_office_cache.proofs.caching_office.CachingOfficeOffice.run_one.Goals as goal

pub returns-clause-runs : goal.returns-clause-runs
returns-clause-runs g c =
    caches g.C.Store g.S.Signer c.args.self.now.office c.run_one-outcome.new.self c.args.self.now.undecided c.keep.new.known
    (CommandStep g.S.Signer.signs c.args.now c.args.command.now c.run_one-outcome.result) c.run_one-outcome.ensures.runs
    (λ signers before after happens. c.keep.ensures signers.crls before after c.args.now happens)
