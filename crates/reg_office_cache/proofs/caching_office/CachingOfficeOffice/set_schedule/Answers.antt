use Rattle.reg_office_api.specs.Settings.{ReplacesSchedule}
use Rattle.reg_office_cache.proofs.CachedCalls.{caches, schedule_kept}
use Rattle.reg_office_cache.proofs.caching_office.CachingOfficeOffice.set_schedule.Goals as goal

pub returns-clause-sets : goal.returns-clause-sets
returns-clause-sets g c =
    caches g.C.Store g.S.Signer c.args.self.now.office c.set_schedule.new.self c.args.self.now.undecided c.args.self.now.undecided
    (λ signers. ReplacesSchedule c.args.schedule c.set_schedule.result) c.set_schedule.ensures.sets
    (λ signers. schedule_kept c.args.self.now.undecided c.args.schedule c.set_schedule.result)
