-- What the register's schema says of the rows of each table, which obey it.
use Rattle.std.proofs.Common.{◌≡◌, ℕ, true, Option, Some, None, List, [], ◌∷◌, drop, subst}
use Rattle.std.specs.List.{AllByRecursion}
use Rattle.sqlite_value.specs.Order.{Row}
use Rattle.sqlite_trees.specs.Tree.{Trees}
use Rattle.sqlite_schema.specs.Rules.{are_typed, are_present, has_computed, passes}
use Rattle.sqlite_schema.specs.declared.schema.Column.{Column}
use Rattle.sqlite_schema.specs.declared.schema.Constraint.TheVariants.{Datatype, NotNull}
use Rattle.sqlite_schema.specs.declared.schema.Schema.{Schema}
use Rattle.sqlite_schema.specs.declared.schema.Table.{Table}
use Rattle.sqlite_catalog.specs.Listing.{IsSound}
use Rattle.sqlite.specs.Effect.{Database}
use Rattle.reg_store_tables.specs.Schema.{register_schema, office, subscriber, orders, cert, request, revocation, crl, standing, kept, longest}
use Rattle.reg_audit.specs.Complete.{AreTables}
use Rattle.reg_audit.proofs.Cells.{and_left}

-- the row's cells have the types of these columns, and those that may not be NULL are not
pub record Fits (key : Option ℕ) (columns : List Column) (row : Row) : Type 0 where
  pub typed : are_typed key 0 columns (drop 1 row) ≡ true
  pub present : are_present key 0 columns row ≡ true

rows_fit : (schema : Schema) (trees : Trees) (table : Table) (rows : List Row) → AllByRecursion (λ row. passes Datatype schema trees table row ≡ true) rows → AllByRecursion (λ row. passes NotNull schema trees table row ≡ true) rows
    → AllByRecursion (Fits table.key table.columns) rows
rows_fit schema trees table [] typed present = tt
rows_fit schema trees table (row ∷ rows) typed present = (
  record { typed = and_left (are_typed table.key 0 table.columns (drop 1 row)) (has_computed table row) typed.0; present = present.0 },
  rows_fit schema trees table rows typed.1 present.1,
)

tables_fit : (schema : Schema) (trees : Trees) (tables : List Table) → AllByRecursion (λ t. AllByRecursion (λ row. passes Datatype schema trees t row ≡ true) (trees t.tree)) tables
    → AllByRecursion (λ t. AllByRecursion (λ row. passes NotNull schema trees t row ≡ true) (trees t.tree)) tables → AllByRecursion (λ t. AllByRecursion (Fits t.key t.columns) (trees t.tree)) tables
tables_fit schema trees [] typed present = tt
tables_fit schema trees (table ∷ tables) typed present = (rows_fit schema trees table (trees table.tree) typed.0 present.0, tables_fit schema trees tables typed.1 present.1)

module _ (db : Database) (are : AreTables db) where
  sound : IsSound register_schema db.trees
  sound = subst (λ (schema : Schema). IsSound schema db.trees) are.schema are.obeyed

  fit : AllByRecursion (λ (t : Table). AllByRecursion (Fits t.key t.columns) (db.trees t.tree)) register_schema.tables
  fit = tables_fit register_schema db.trees register_schema.tables (sound.obeys.rules Datatype) (sound.obeys.rules NotNull)

  pub office_fits : AllByRecursion (Fits (Some 0) office.columns) (db.trees 0)
  unfolding register_schema
  office_fits = fit.0

  pub subscribers_fit : AllByRecursion (Fits (Some 0) subscriber.columns) (db.trees 1)
  unfolding register_schema
  subscribers_fit = fit.1.0

  pub orders_fit : AllByRecursion (Fits (Some 0) orders.columns) (db.trees 3)
  unfolding register_schema
  orders_fit = fit.1.1.0

  pub certificates_fit : AllByRecursion (Fits None cert.columns) (db.trees 4)
  unfolding register_schema
  certificates_fit = fit.1.1.1.0

  pub requests_fit : AllByRecursion (Fits (Some 0) request.columns) (db.trees 7)
  unfolding register_schema
  requests_fit = fit.1.1.1.1.0

  pub revocations_fit : AllByRecursion (Fits None revocation.columns) (db.trees 8)
  unfolding register_schema
  revocations_fit = fit.1.1.1.1.1.0

  pub crls_fit : AllByRecursion (Fits (Some 0) crl.columns) (db.trees 11)
  unfolding register_schema
  crls_fit = fit.1.1.1.1.1.1.0

  pub letters_fit : AllByRecursion (Fits None standing.columns) (db.trees 12)
  unfolding register_schema
  letters_fit = fit.1.1.1.1.1.1.1.0

  pub counts_fit : AllByRecursion (Fits (Some 0) kept.columns) (db.trees 14)
  unfolding register_schema
  counts_fit = fit.1.1.1.1.1.1.1.1.0

  pub steps_fit : AllByRecursion (Fits (Some 0) longest.columns) (db.trees 17)
  unfolding register_schema
  steps_fit = fit.1.1.1.1.1.1.1.1.1.1.0
