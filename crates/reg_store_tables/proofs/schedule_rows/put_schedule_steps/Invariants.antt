use Rattle.std.proofs.Common.{[], take}
use Rattle.sqlite.specs.Effect.{Database}
use Rattle.sqlite.specs.Held.{state}
use Rattle.sqlite.specs.State.{HasCleanDisk}
use Rattle.sqlite_trees.specs.Tree.{Trees}
use Rattle.reg_core.specs.Schedule.{Ascends}
use Rattle.reg_store_tables.specs.Stays.{MayMove, Stepped}
use Rattle.reg_store_tables.specs.Staged.{IsStaged}
use Rattle.reg_store_tables.specs.Steps.{KeepsRows}
use Rattle.reg_store_tables.proofs.schedule_rows.put_schedule_steps.Given as goal

abbrev pub invariant-loop-step : goal.invariant-loop-step
invariant-loop-step g l =
    let old = state g.S.Store l.initial.tx.conn.now in
    let new = state g.S.Store l.tx.conn.now in
    record {
      stepped : Stepped g.S.Store l.initial.tx l.tx;
      made : HasCleanDisk new
          → MayMove old new (λ (db : Database). ((base : Trees) → Ascends l.steps → IsStaged base [] old.now → IsStaged base (take l.step-index l.steps) db) × KeepsRows old.now db);
    }
