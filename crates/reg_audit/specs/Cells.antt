-- Properties of the rows that were read of a table.
use Rattle.std.specs.Prelude.{◌≡◌, ℕ, ◌+◌, List, [], ◌∷◌}
use Rattle.sqlite_value.specs.Order.{Row, column}
use Rattle.reg_store_tables.specs.Rows.{number}
pub use Rattle.reg_store_tables.specs.ShownRows.{HasCells}

-- the row begins with the columns of some record, of which `well` holds
abbrev pub IsOfSomeRecord : {A : Type 0} → (A → Type 0) → (A → Row) → Row → Type 0
IsOfSomeRecord {A = A} well shown row = (it : A) × well it × HasCells 0 row (shown it)

-- the first columns are the numbers from `from` on, which rise by one
abbrev pub CountedFrom : ℕ → List Row → Type 0
CountedFrom from [] = Unit {0}
CountedFrom from (row ∷ rows) = (column row 0 ≡ number from) × CountedFrom (from + 1) rows
