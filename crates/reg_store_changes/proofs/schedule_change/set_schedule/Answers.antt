use Rattle.std.proofs.Common.{rules, ap, refl}
use Rattle.reg_core.specs.Changes.{with_schedule}
use Rattle.reg_store_tables.specs.DerivedRows.{office_days}
use Rattle.reg_store_tables.specs.Shows.{IsShownBy}
use Rattle.reg_store_tables.proofs.PublicLaws.{changes, commits, keeps, keeps_days, turns, at_rest}
use Rattle.reg_store_changes.specs.AfterStoppedChange.{IsScheduled}
use Rattle.reg_store_changes.specs.ChangeSteps.{WritesSchedule}
use Rattle.reg_store_changes.proofs.Making.{schedule_not_set}
use Rattle.reg_store_changes.proofs.Stages.{staged_first, staged_shows, staged_both, kept_schedule}
use Rattle.reg_store_changes.proofs.schedule_change.set_schedule.Goals as goal

pub returns : goal.returns
returns g c =
    let old = c.args.conn.now in
    let steps = c.args.schedule.now in
    let done =
    commits g.S.Store old _ _ _ c.transaction-tx.ensures.begun c.write_schedule.ensures.stepped (WritesSchedule steps) c.in_ok-write_schedule.ensures.made _ c.commit.result c.commit.ensures (search rules) in
    record {
      ok = λ records kept.
          keeps done records (with_schedule records steps) kept.0 kept.0 kept.0 kept.1 (λ clean before after both on. staged_both before after records kept.0 steps both on) (λ clean. refl)
          (kept_schedule kept.0 records steps kept.2);
      shown = λ records shows.
          turns done (λ db. IsShownBy db records) (λ db. IsShownBy db (with_schedule records steps)) shows (λ clean before after shown on. staged_shows before after records steps shown on);
      days = λ records shows.
          keeps_days done (λ db. IsShownBy db records) shows (λ clean before after shown on. ap office_days ((staged_first before after records steps shown on).0.others 0 refl refl));
      changed = changes done (IsScheduled g.S.Store old steps) (λ clean up after trees is on records kept.
          let both = kept.1.tables clean up in
          at_rest after trees (with_schedule records steps) kept.0 is (staged_both _ after records kept.0 steps both on) (staged_first _ after records steps both.shown on).1
          (kept_schedule kept.0 records steps kept.2));
      err = done.stays;
      idle = λ was. search rules;
    }

pub returns-in_err-write_schedule : goal.returns-in_err-write_schedule
returns-in_err-write_schedule g c = schedule_not_set _ c.from_residual.ensures.0 (search rules) (search rules) (search rules)
