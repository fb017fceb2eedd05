-- What the look-ups of requests show.
use Rattle.std.proofs.Common.{◌≤◌, ℕ, List, [], ◌∷◌, length, codes, refl, ◌∙◌, arith}
use Rattle.std.specs.Prelude.{◌==◌}
use Rattle.std.specs.List.{AllByRecursion}
use Rattle.sqlite_value.specs.Order.{Row}
use Rattle.sqlite_sql.specs.Term.{Term, col}
use Rattle.sqlite_sql.specs.Query.{Output}
use Rattle.sqlite.specs.Effect.{Database, Reads}
use Rattle.sqlite.specs.Listing.{understood}
use Rattle.sqlite_resolve.specs.Compile.{first}
use Rattle.sqlite_tied.specs.Compute.{everything}
use Rattle.reg_core.specs.Records.{Records, request_in}
use Rattle.reg_core.specs.Serial.{IsSerial}
use Rattle.reg_core.specs.declared.rows.RequestRow.{RequestRow}
use Rattle.reg_store_tables.specs.Schema.{register_schema}
use Rattle.reg_store_tables.specs.Rows.{number, stored_request}
use Rattle.reg_store_tables.specs.Shows.{IsShownBy}
use Rattle.reg_store_tables.specs.ReadStatements.{command_of, shown_request}
use Rattle.reg_store_tables.specs.ShownRows.{IsRowOf}
use Rattle.reg_store_tables.specs.declared.sql.TheConstants.{REQUEST_BY_ID}
use Rattle.reg_store_tables.proofs.Compares.{and_true, eq_number}
use Rattle.reg_store_tables.proofs.Queries.{column_is, selects, no_limit, Given, keyed_given, row_of}
use Rattle.reg_store_tables.proofs.Selecting.{select_never}
use Rattle.reg_store_tables.proofs.FailingLemmas.{IsSelect, select}
use Rattle.reg_store_tables.proofs.Few.{given_few, numbers_differ, one_number}

abbrev columns : List Term
columns = col 1 0 ∷ col 1 2 ∷ col 1 3 ∷ col 1 4 ∷ col 1 5 ∷ []

abbrev names : List (List ℕ)
names = codes "id" ∷ codes "serial" ∷ codes "ground" ∷ codes "received" ∷ codes "declined" ∷ []

abbrev out : RequestRow → Output
out row = ([], shown_request row)

pub by_id_text : IsSelect REQUEST_BY_ID.now (selects 7 (column_is 0) columns [] no_limit) names (λ (id : ℕ). number id ∷ [])
unfolding understood everything register_schema first
by_id_text =
    select REQUEST_BY_ID.now 7 (column_is 0) columns [] no_limit names (λ (id : ℕ). number id ∷ []) refl (refl, refl) refl (select_never REQUEST_BY_ID.now _ _ refl refl refl) (λ it. (omega arith, refl)) (λ it. refl)

module _ (db : Database) (records : Records) (shown : IsShownBy db records) (id : ℕ) (rows : List Row) (reads : Reads (command_of (understood register_schema REQUEST_BY_ID.now)) db (number id ∷ []) rows) where
  by_id_given : Given (λ row. row.id == id) out records.requests (selects 7 (column_is 0) columns [] no_limit) (number id ∷ []) rows
  by_id_given =
      keyed_given (λ row. IsSerial row.serial) stored_request (λ row. row.id == id) out records.requests shown.rows.request_serials 7 (column_is 0) columns [] no_limit (number id ∷ []) REQUEST_BY_ID.now names by_id_text.means db refl rows reads
      shown.rows.requests (λ row read_row. and_true _ ∙ eq_number row.id id) (λ row. refl)

  pub by_id_few : length rows ≤ 1
  by_id_few = given_few (λ row. row.id == id) out records.requests 7 (column_is 0) columns [] (number id ∷ []) rows by_id_given
      (one_number (λ (row : RequestRow). row.id) id records.requests (numbers_differ (λ (row : RequestRow). row.id) 1 records.requests shown.rows.requests_numbered))

  pub by_id_row : (P : RequestRow → Type 0) → AllByRecursion P records.requests → IsRowOf P shown_request rows (request_in records.requests id)
  by_id_row P all = row_of (λ row. row.id == id) out records.requests 7 (column_is 0) columns [] (number id ∷ []) rows by_id_given P all
