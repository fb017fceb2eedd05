use Rattle.std.proofs.Common.{◌<◌, ℕ, [], ◌∷◌, ◌++◌, take, length, refl, rules, sym, ap, subst, ◌∙◌}
use Rattle.std.proofs.lemmas.List.{take_all, take_more}
use Rattle.sqlite.specs.Held.{state}
use Rattle.reg_store_tables.proofs.Staying.{stepped_then}
use Rattle.reg_store_tables.specs.Staged.{IsStaged, AreBefore}
use Rattle.reg_store_tables.proofs.Moving.{stepped_clean}
use Rattle.reg_store_tables.proofs.Stages.{earlier_steps}
use Rattle.reg_store_tables.proofs.schedule_rows.put_schedule_steps.Goals as goal

pub loop-step-init : goal.loop-step-init
loop-step-init g c = record {
  stepped = search rules;
  made = λ clean. record {
    is_open = (λ up. up, λ up. up);
    committed = refl;
    under_way = λ under. under;
    tables = (λ base up before. before, record { schema = λ has. has; obeys = λ has obeyed. obeyed });
  };
}

pub loop-step-preserved : goal.loop-step-preserved
loop-step-preserved g c =
    let s2 = state g.S.Store c.put_schedule_step.new.tx.conn.now in
    let steps = c.args.steps.now in
    let at = c.loop-step.step-index in
    let step = c.step-item.result in
    let within : at < length steps = c.loop-step-test.true in
    record {
      stepped = stepped_then c.loop-step.invariant.stepped c.put_schedule_step.ensures.stepped;
      made = λ clean.
          let first = c.loop-step.invariant.made (stepped_clean c.put_schedule_step.ensures.stepped clean) in
          let second = c.in_ok-put_schedule_step.ensures.made clean in
          record {
            is_open = (λ up. second.is_open, λ up. first.is_open.1 second.was_open);
            committed = second.committed ∙ first.committed;
            under_way = λ under. second.under_way;
            tables = (
              λ base up before.
                  let earlier : AreBefore step.0 (take at steps) = subst (λ (x : ℕ × ℕ). AreBefore x.0 (take at steps)) (sym c.step-item.is) (earlier_steps steps at step up within) in
                  subst (λ l. IsStaged base l s2.now) (ap (λ (x : ℕ × ℕ). take at steps ++ x ∷ []) c.step-item.is ∙ sym (take_more steps at step within)) (second.tables.0 base (take at steps) earlier (first.tables.0 base up before)),
              record { schema = λ has. second.tables.1.schema (first.tables.1.schema has); obeys = λ has obeyed. second.tables.1.obeys (first.tables.1.schema has) },
            );
          };
    }

pub returns-clause-made : goal.returns-clause-made
returns-clause-made g c clean =
    let s1 = state g.S.Store c.loop-step.tx.conn.now in
    let made = c.loop-step.invariant.made clean in
    record {
      is_open = made.is_open;
      committed = made.committed;
      under_way = made.under_way;
      tables = (λ base up before. subst (λ l. IsStaged base l s1.now) (take_all c.loop-step.step-index c.args.steps.now c.loop-step-test.false) (made.tables.0 base up before), made.tables.1);
    }
