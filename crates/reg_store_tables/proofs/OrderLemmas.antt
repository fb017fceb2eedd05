-- What the look-ups of orders show.
use Rattle.std.proofs.Common.{◌≤◌, ℕ, List, [], ◌∷◌, length, codes, refl, ◌∙◌, arith}
use Rattle.std.specs.Prelude.{◌==◌}
use Rattle.std.specs.List.{AllByRecursion}
use Rattle.sqlite_value.specs.Order.{Row}
use Rattle.sqlite_sql.specs.Term.{Term, col}
use Rattle.sqlite_sql.specs.Query.{Output}
use Rattle.sqlite.specs.Effect.{Database, Reads}
use Rattle.sqlite.specs.Listing.{understood}
use Rattle.sqlite_resolve.specs.Compile.{first}
use Rattle.sqlite_tied.specs.Compute.{everything}
use Rattle.reg_core.specs.Records.{Records, order_in}
use Rattle.reg_core.specs.declared.rows.OrderRow.{OrderRow}
use Rattle.reg_store_tables.specs.Schema.{register_schema}
use Rattle.reg_store_tables.specs.Rows.{number, stored_order}
use Rattle.reg_store_tables.specs.Shows.{IsShownBy}
use Rattle.reg_store_tables.specs.ReadStatements.{command_of, shown_order}
use Rattle.reg_store_tables.specs.ShownRows.{IsRowOf}
use Rattle.reg_store_tables.specs.declared.sql.TheConstants.{ORDER_BY_ID}
use Rattle.reg_store_tables.proofs.Compares.{and_true, eq_number}
use Rattle.reg_store_tables.proofs.Queries.{column_is, selects, no_limit, Given, keyed_given, all_of, row_of}
use Rattle.reg_store_tables.proofs.Selecting.{select_never}
use Rattle.reg_store_tables.proofs.FailingLemmas.{IsSelect, select}
use Rattle.reg_store_tables.proofs.Few.{given_few, numbers_differ, one_number}

abbrev columns : List Term
columns = col 1 0 ∷ col 1 2 ∷ col 1 3 ∷ []

abbrev names : List (List ℕ)
names = codes "id" ∷ codes "subscriber" ∷ codes "days" ∷ []

abbrev out : OrderRow → Output
out row = ([], shown_order row)

pub by_id_text : IsSelect ORDER_BY_ID.now (selects 3 (column_is 0) columns [] no_limit) names (λ (id : ℕ). number id ∷ [])
unfolding understood everything register_schema first
by_id_text =
    select ORDER_BY_ID.now 3 (column_is 0) columns [] no_limit names (λ (id : ℕ). number id ∷ []) refl (refl, refl) refl (select_never ORDER_BY_ID.now _ _ refl refl refl) (λ it. (omega arith, refl)) (λ it. refl)

module _ (db : Database) (records : Records) (shown : IsShownBy db records) (id : ℕ) (rows : List Row) (reads : Reads (command_of (understood register_schema ORDER_BY_ID.now)) db (number id ∷ []) rows) where
  by_id_given : Given (λ row. row.id == id) out records.orders (selects 3 (column_is 0) columns [] no_limit) (number id ∷ []) rows
  by_id_given =
      keyed_given (λ _. Unit {0}) stored_order (λ row. row.id == id) out records.orders (all_of (λ _. Unit {0}) (λ _. tt) records.orders) 3 (column_is 0) columns [] no_limit (number id ∷ []) ORDER_BY_ID.now names by_id_text.means db refl rows reads
      shown.rows.orders (λ row read_row. and_true _ ∙ eq_number row.id id) (λ row. refl)

  pub by_id_few : length rows ≤ 1
  by_id_few = given_few (λ row. row.id == id) out records.orders 3 (column_is 0) columns [] (number id ∷ []) rows by_id_given
      (one_number (λ (row : OrderRow). row.id) id records.orders (numbers_differ (λ (row : OrderRow). row.id) 1 records.orders shown.rows.orders_numbered))

  pub by_id_row : (P : OrderRow → Type 0) → AllByRecursion P records.orders → IsRowOf P shown_order rows (order_in records.orders id)
  by_id_row P all = row_of (λ row. row.id == id) out records.orders 3 (column_is 0) columns [] (number id ∷ []) rows by_id_given P all
