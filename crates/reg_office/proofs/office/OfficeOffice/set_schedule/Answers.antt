use Rattle.std.proofs.Common.{Ok, Err, refl}
use Rattle.reg_core.specs.Changes.{with_schedule}
use Rattle.reg_office_api.specs.Settings.{ReplacesSchedule}
use Rattle.reg_store_changes.specs.AfterStoppedChange.{IsScheduled}
use Rattle.reg_office.specs.AfterStoppedCommand.{schedule_call}
use Rattle.reg_office_reads.proofs.PublicLaws.{answer_of_fault}
use Rattle.reg_office.proofs.Following.{schedule_keeps_sound_for}
use Rattle.reg_office.proofs.Leading.{stops_lead}
use Rattle.reg_office.proofs.Setting.{set_change, set_stops, unset_change}
use Rattle.reg_office.proofs.office.OfficeOffice.set_schedule.Goals as goal

pub returns-in-Ok-clause-ok : goal.returns-in-Ok-clause-ok
returns-in-Ok-clause-ok g c records stands =
    let identity = g.S.Signer.identity c.args.self.now.signer in
    record {
      shown = c.in-Ok.ensures.ok records stands.shown;
      sound = schedule_keeps_sound_for g.S.Signer.signs identity records c.args.schedule stands.sound;
    }

pub returns-in-Ok-clause-stops : goal.returns-in-Ok-clause-stops
returns-in-Ok-clause-stops g c =
    set_stops g.C.Store g.S.Signer.signs _ _ _ _ (schedule_call c.args.schedule) (λ records. with_schedule records c.args.schedule) (ReplacesSchedule c.args.schedule)
    (λ done records. refl) (λ why records. refl) (λ records. refl) (λ identity records trees rests. rests)
    (IsScheduled g.C.Store c.args.self.now.store c.args.schedule)
    (λ held trees is_open leaves. g.met.C.Store.settled held.store trees is_open leaves) refl
    (λ records stands trees scheduled. scheduled records stands.shown)
    (Ok tt) (set_change tt c.in-Ok.ensures.changed) tt (λ records stands clean. returns-in-Ok-clause-ok g c records stands)

pub returns-in-Ok-clause-sets : goal.returns-in-Ok-clause-sets
returns-in-Ok-clause-sets g c =
    stops_lead g.C.Store g.S.Signer.signs (schedule_call c.args.schedule) _ (λ signers. ReplacesSchedule c.args.schedule (Ok tt)) _ _
    (returns-in-Ok-clause-stops g c)

pub returns-in-Err-clause-stops : goal.returns-in-Err-clause-stops
returns-in-Err-clause-stops g c =
    set_stops g.C.Store g.S.Signer.signs _ _ _ _ (schedule_call c.args.schedule) (λ records. with_schedule records c.args.schedule) (ReplacesSchedule c.args.schedule)
    (λ done records. refl) (λ why records. refl) (λ records. refl) (λ identity records trees rests. rests)
    (IsScheduled g.C.Store c.args.self.now.store c.args.schedule)
    (λ held trees is_open leaves. g.met.C.Store.settled held.store trees is_open leaves) refl
    (λ records stands trees scheduled. scheduled records stands.shown)
    (Err c.from.result) (unset_change c.in-Err.fault c.from.result c.in-Err.ensures.changed)
    (answer_of_fault c.in-Err.fault c.from.result c.from.ensures) (λ records stands clean. tt)

pub returns-in-Err-clause-sets : goal.returns-in-Err-clause-sets
returns-in-Err-clause-sets g c =
    stops_lead g.C.Store g.S.Signer.signs (schedule_call c.args.schedule) _ (λ signers. ReplacesSchedule c.args.schedule (Err c.from.result)) _ _
    (returns-in-Err-clause-stops g c)
