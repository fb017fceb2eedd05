-- Tables in a transaction that replaces the schedule.
use Rattle.std.specs.Prelude.{◌≡◌, ◌<◌, ◌==◌, ◌++◌, ◌∷◌, ℕ, true, false, List, [], map}
use Rattle.std.specs.List.{AllByRecursion, list_any}
use Rattle.sqlite_trees.specs.Tree.{Trees}
use Rattle.sqlite.specs.Effect.{Database}
use Rattle.reg_core.specs.Schedule.{Ascends}
use Rattle.reg_store_tables.specs.Schema.{register_schema, table_trees}
use Rattle.reg_store_tables.specs.Rows.{stored_step}

-- the table of the schedule has these steps, and each other table has the rows that it had
pub record IsStaged (base : Trees) (steps : List (ℕ × ℕ)) (db : Database) : Type 0 where
  pub schema : db.schema ≡ register_schema
  pub others : (n : ℕ) → list_any (λ t. t == n) table_trees ≡ true → (n == 17) ≡ false → db.trees n ≡ base n
  pub rows : db.trees 17 ≡ map stored_step steps

-- the steps are before a moment
abbrev pub AreBefore : ℕ → List (ℕ × ℕ) → Type 0
AreBefore moment steps = AllByRecursion (λ step. step.0 < moment) steps

-- a step is inserted; each step before it has an earlier moment
abbrev pub AddsStep : ℕ → ℕ → Database → Database → Type 0
AddsStep from days old new =
    (base : Trees) (steps : List (ℕ × ℕ)) → AreBefore from steps → IsStaged base steps old
    → IsStaged base (steps ++ (from, days) ∷ []) new

-- ascending steps are inserted into an empty table
abbrev pub AddsSteps : List (ℕ × ℕ) → Database → Database → Type 0
AddsSteps steps old new = (base : Trees) → Ascends steps → IsStaged base [] old → IsStaged base steps new
