use Rattle.reg_office_api.specs.CallSteps.{BatchStep}
use Rattle.reg_office_cache.proofs.CachedCalls.{caches, batch_kept}
use Rattle.reg_office_cache.proofs.caching_office.CachingOfficeOffice.run_batch.Goals as goal

pub returns : goal.returns
returns g c =
    caches g.C.Store g.S.Signer c.args.self.now.office c.run_batch.new.self c.args.self.now.undecided c.keep_before.new.known
    (BatchStep g.S.Signer.signs c.args.commands.now c.run_batch.result) c.run_batch.ensures.runs
    (batch_kept c.args.self.now.undecided c.keep_before.new.known c.keep_before.ensures.stays g.S.Signer.signs c.args.commands.now c.run_batch.result c.keep_before.ensures.ran)
