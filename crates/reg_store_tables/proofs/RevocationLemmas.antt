-- What the look-ups of revocations show.
use Rattle.std.proofs.Common.{◌≤◌, ℕ, List, [], ◌∷◌, length, codes, refl, ◌∙◌, arith}
use Rattle.std.specs.Prelude.{◌==◌}
use Rattle.std.specs.List.{AllByRecursion}
use Rattle.sqlite_value.specs.Order.{Row}
use Rattle.sqlite_sql.specs.Term.{Term, col}
use Rattle.sqlite_sql.specs.Query.{Output}
use Rattle.sqlite.specs.Effect.{Database, Reads}
use Rattle.sqlite.specs.Listing.{understood}
use Rattle.sqlite_resolve.specs.Compile.{first}
use Rattle.sqlite_tied.specs.Compute.{everything}
use Rattle.reg_core.specs.Records.{Records, revocation_in}
use Rattle.reg_core.specs.Serial.{IsSerial}
use Rattle.reg_core.specs.Sound.{KeysDiffer}
use Rattle.reg_core.specs.declared.rows.RevocationRow.{RevocationRow}
use Rattle.reg_store_tables.specs.Schema.{register_schema}
use Rattle.reg_store_tables.specs.Rows.{serial_value, stored_revocation}
use Rattle.reg_store_tables.specs.Shows.{IsShownBy}
use Rattle.reg_store_tables.specs.ReadStatements.{command_of, shown_revocation}
use Rattle.reg_store_tables.specs.ShownRows.{IsRowOf}
use Rattle.reg_store_tables.specs.declared.sql.TheConstants.{REVOCATION_BY_SERIAL}
use Rattle.reg_store_tables.proofs.Compares.{and_true, eq_serial}
use Rattle.reg_store_tables.proofs.Queries.{column_is, selects, no_limit, Given, counted_given, row_of}
use Rattle.reg_store_tables.proofs.Selecting.{select_never}
use Rattle.reg_store_tables.proofs.FailingLemmas.{IsSelect, select}
use Rattle.reg_store_tables.proofs.Few.{given_few, one_number}

abbrev columns : List Term
columns = col 1 1 ∷ col 1 2 ∷ col 1 3 ∷ col 1 4 ∷ col 1 5 ∷ []

abbrev names : List (List ℕ)
names = codes "serial" ∷ codes "at" ∷ codes "reason" ∷ codes "request" ∷ codes "first_crl" ∷ []

abbrev out : RevocationRow → Output
out row = ([], shown_revocation row)

pub by_serial_text : IsSelect REVOCATION_BY_SERIAL.now (selects 8 (column_is 1) columns [] no_limit) names (λ (serial : ℕ). serial_value serial ∷ [])
unfolding understood everything register_schema first
by_serial_text =
    select REVOCATION_BY_SERIAL.now 8 (column_is 1) columns [] no_limit names (λ (serial : ℕ). serial_value serial ∷ []) refl (refl, refl) refl (select_never REVOCATION_BY_SERIAL.now _ _ refl refl refl) (λ it. (omega arith, refl)) (λ it. refl)

module _ (db : Database) (records : Records) (shown : IsShownBy db records) (serial : ℕ) (is_serial : IsSerial serial) (rows : List Row) (reads : Reads (command_of (understood register_schema REVOCATION_BY_SERIAL.now)) db (serial_value serial ∷ []) rows) where
  by_serial_given : Given (λ row. row.serial == serial) out records.revocations (selects 8 (column_is 1) columns [] no_limit) (serial_value serial ∷ []) rows
  by_serial_given =
      counted_given (λ row. IsSerial row.serial) stored_revocation (λ row. row.serial == serial) out records.revocations shown.rows.revocation_serials 8 (column_is 1) columns [] no_limit (serial_value serial ∷ []) REVOCATION_BY_SERIAL.now names by_serial_text.means db refl rows reads
      shown.rows.revocations (λ id row read_row. and_true _ ∙ eq_serial row.serial serial read_row is_serial) (λ id row. refl)

  pub by_serial_few : KeysDiffer (λ (row : RevocationRow). row.serial) records.revocations → length rows ≤ 1
  by_serial_few differ = given_few (λ row. row.serial == serial) out records.revocations 8 (column_is 1) columns [] (serial_value serial ∷ []) rows by_serial_given
      (one_number (λ (row : RevocationRow). row.serial) serial records.revocations differ)

  pub by_serial_row : (P : RevocationRow → Type 0) → AllByRecursion P records.revocations → IsRowOf P shown_revocation rows (revocation_in records.revocations serial)
  by_serial_row P all = row_of (λ row. row.serial == serial) out records.revocations 8 (column_is 1) columns [] (serial_value serial ∷ []) rows by_serial_given P all
