-- The rows of the tables of any schema.
use Rattle.std.specs.Prelude.{◌≡◌, ◌==◌, ℕ, ℤ, cond, nat_lt, List, []}
use Rattle.std.specs.List.{AllByRecursion}
use Rattle.sqlite_value.specs.declared.value.Value.TheVariants.{Int}
use Rattle.sqlite_value.specs.Order.{Row}
use Rattle.sqlite_trees.specs.Tree.{Trees, rowid}
use Rattle.sqlite_schema.specs.declared.schema.Schema.{Schema}
use Rattle.sqlite.specs.Effect.{Database}

-- the rowid of a row is an integer, as in each SQL table
abbrev pub IsNumbered : Row → Type 0
IsNumbered row = (n : ℤ) × (rowid row ≡ Int n)

-- the tables of a schema, with these rows
pub record HasRows (tables : Schema) (trees : Trees) (db : Database) : Type 0 where
  pub schema : db.schema ≡ tables
  pub rows : AllByRecursion (λ table. db.trees table.tree ≡ trees table.tree) tables.tables

-- these trees, with other rows in one of them
abbrev pub with_rows : ℕ → List Row → Trees → Trees
with_rows tree those rows = λ n. cond (n == tree) those (rows n)

-- the rows of the tables of the office and the records, whose trees have the numbers below 12, and no rows in any other table
abbrev pub records_alone : Trees → Trees
records_alone rows = λ n. cond (nat_lt n 12) (rows n) []
