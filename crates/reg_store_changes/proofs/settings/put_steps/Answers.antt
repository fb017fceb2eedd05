use Rattle.std.proofs.Common.{◌<◌, ℕ, [], ◌∷◌, ◌++◌, take, length, sym, ap, subst, ◌∙◌}
use Rattle.std.proofs.lemmas.List.{take_all, take_more}
use Rattle.sqlite.specs.Held.{state}
use Rattle.reg_store_tables.specs.Staged.{IsStaged, AreBefore}
use Rattle.reg_store_tables.proofs.PublicLaws.{earlier_steps, leading, moves_in_place, moves_on}
use Rattle.reg_store_changes.proofs.Within.{no_step, steps_clean, steps_then}
use Rattle.reg_store_changes.proofs.settings.put_steps.Goals as goal

pub loop-step-init : goal.loop-step-init
loop-step-init g c = record {
  stepped = no_step;
  made = λ under within clean. moves_in_place under (λ base up before. before, record { schema = λ has. has; obeys = λ has obeyed. obeyed });
}

pub loop-step-preserved : goal.loop-step-preserved
loop-step-preserved g c =
    let s2 = state g.S.Store c.put_step.new.conn in
    let steps = c.args.steps.now in
    let at = c.loop-step.step-index in
    let step = c.step-item.result in
    let earlier = c.loop-step.invariant in
    let within_steps : at < length steps = c.loop-step-test.true in
    record {
      stepped = steps_then earlier.stepped c.put_step.ensures.stepped;
      made = λ under within clean.
          let first = earlier.made under within (steps_clean c.put_step.ensures.stepped clean) in
          let second = c.in_ok-put_step.ensures.made (earlier.stepped.within within) clean in
          leading (moves_on first second) (
            λ base up before.
                let below : AreBefore step.0 (take at steps) = subst (λ (x : ℕ × ℕ). AreBefore x.0 (take at steps)) (sym c.step-item.is) (earlier_steps steps at step up within_steps) in
                subst (λ l. IsStaged base l s2.now) (ap (λ (x : ℕ × ℕ). take at steps ++ x ∷ []) c.step-item.is ∙ sym (take_more steps at step within_steps)) (second.tables.0 base (take at steps) below (first.tables.0 base up before)),
            record { schema = λ has. second.tables.1.schema (first.tables.1.schema has); obeys = λ has obeyed. second.tables.1.obeys (first.tables.1.schema has) },
          );
    }

pub returns-clause-made : goal.returns-clause-made
returns-clause-made g c under within clean =
    let s1 = state g.S.Store c.loop-step.conn in
    let made = c.loop-step.invariant.made under within clean in
    leading made (λ base up before. subst (λ l. IsStaged base l s1.now) (take_all c.loop-step.step-index c.args.steps.now c.loop-step-test.false) (made.tables.0 base up before), made.tables.1)

pub returns-in_err-put_step-clause-stepped : goal.returns-in_err-put_step-clause-stepped
returns-in_err-put_step-clause-stepped g c = steps_then c.loop-step.invariant.stepped c.put_step.ensures.stepped
