use Rattle.std.proofs.Common.{subst}
use Rattle.sqlite.specs.Held.{state}
use Rattle.reg_core.specs.Schedule.{IsSchedule}
use Rattle.reg_store_tables.specs.Staged.{IsStaged}
use Rattle.reg_store_tables.proofs.PublicLaws.{ok_if, then_moves, under_way}
use Rattle.reg_store_changes.proofs.Within.{steps_clean, steps_then}
use Rattle.reg_store_changes.proofs.settings.enter_schedule.Goals as goal

pub returns-clause-made : goal.returns-clause-made
returns-clause-made g c within clean =
    let s2 = state g.S.Store c.put_steps.new.conn in
    let first = c.in_ok-clear_steps.ensures.made within (steps_clean c.put_steps.ensures.stepped clean) in
    then_moves _ _ _ _ _ _ c.put_steps.result first (c.put_steps.ensures.made (under_way first) (c.clear_steps.ensures.stepped.within within) clean) (λ _ on. record {
      sound = subst IsSchedule c.steps.ensures.steps c.steps.ensures.schedule;
      staged = λ base before was.
          let cleared = first.tables.0 base before was in
          (subst (λ l. IsStaged base l s2.now) c.steps.ensures.steps (on.0 base c.steps.ensures.schedule.ascending cleared), on.1.obeys cleared.schema (first.tables.1.obeys was.schema));
    })

pub returns-clause-stepped : goal.returns-clause-stepped
returns-clause-stepped g c = steps_then c.clear_steps.ensures.stepped c.put_steps.ensures.stepped

pub returns-clause-under_way : goal.returns-clause-under_way
returns-clause-under_way g c = ok_if _ c.put_steps.result c.in_ok-clear_steps.ensures.under_way
