use Rattle.std.proofs.Common.{subst}
use Rattle.sqlite.specs.Held.{state}
use Rattle.reg_core.specs.Schedule.{IsSchedule}
use Rattle.reg_store_tables.specs.Staged.{IsStaged}
use Rattle.reg_store_tables.proofs.PublicLaws.{may_move, stepped_clean, then_moves, under_way}
use Rattle.reg_store_changes.proofs.schedule_change.write_schedule.Goals as goal

pub returns-clause-made : goal.returns-clause-made
returns-clause-made g c clean =
    let s2 = state g.S.Store c.put_schedule_steps.new.tx.conn.now in
    let first = c.in_ok-clear_schedule_steps.ensures.made (stepped_clean c.put_schedule_steps.ensures.stepped clean) in
    then_moves _ _ _ _ _ _ c.put_schedule_steps.result first (may_move _ _ _ c.put_schedule_steps.result (under_way first) (c.put_schedule_steps.ensures.made clean)) (λ _ on. record {
      sound = subst IsSchedule c.steps.ensures.steps c.steps.ensures.schedule;
      staged = λ base before was.
          let cleared = first.tables.0 base before was in
          (subst (λ l. IsStaged base l s2.now) c.steps.ensures.steps (on.0 base c.steps.ensures.schedule.ascending cleared), on.1.obeys cleared.schema (first.tables.1.obeys was.schema));
    })
