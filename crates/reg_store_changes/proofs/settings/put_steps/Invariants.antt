use Rattle.std.proofs.Common.{[], take}
use Rattle.sqlite.specs.Effect.{Database}
use Rattle.sqlite.specs.Held.{state}
use Rattle.sqlite.specs.State.{HasCleanDisk}
use Rattle.sqlite_trees.specs.Tree.{Trees}
use Rattle.reg_core.specs.Schedule.{Ascends}
use Rattle.reg_store_changes.specs.WithinTransactions.{IsInTransaction, StepsWithin}
use Rattle.reg_store_tables.specs.Staged.{IsStaged}
use Rattle.reg_store_tables.specs.Stays.{Moves}
use Rattle.reg_store_tables.specs.Steps.{IsUnderWay, KeepsRows}
use Rattle.reg_store_changes.proofs.settings.put_steps.Given as goal

abbrev pub invariant-loop-step : goal.invariant-loop-step
invariant-loop-step g l =
    let old = state g.S.Store l.initial.conn in
    let new = state g.S.Store l.conn in
    record {
      stepped : StepsWithin g.S.Store l.initial.conn l.conn;
      made : IsUnderWay old → IsInTransaction old → HasCleanDisk new
          → Moves old new (λ (db : Database). ((base : Trees) → Ascends l.steps → IsStaged base [] old.now → IsStaged base (take l.step-index l.steps) db) × KeepsRows old.now db);
    }
