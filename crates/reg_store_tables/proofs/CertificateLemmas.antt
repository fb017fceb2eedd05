-- What the look-ups of certificates show.
use Rattle.std.proofs.Common.{◌≤◌, ℕ, List, [], ◌∷◌, length, codes, refl, ◌∙◌, arith}
use Rattle.std.specs.Prelude.{◌==◌}
use Rattle.std.specs.List.{AllByRecursion}
use Rattle.sqlite_value.specs.Order.{Row}
use Rattle.sqlite_sql.specs.Term.{Term, col}
use Rattle.sqlite_sql.specs.Query.{Output}
use Rattle.sqlite.specs.Effect.{Database, Reads}
use Rattle.sqlite.specs.Listing.{understood}
use Rattle.sqlite_resolve.specs.Compile.{first}
use Rattle.sqlite_tied.specs.Compute.{everything}
use Rattle.reg_core.specs.Records.{Records, certificate_in, certificate_of_order}
use Rattle.reg_core.specs.Serial.{IsSerial}
use Rattle.reg_core.specs.Sound.{KeysDiffer}
use Rattle.reg_core.specs.declared.rows.CertRow.{CertRow}
use Rattle.reg_store_tables.specs.Schema.{register_schema}
use Rattle.reg_store_tables.specs.Rows.{number, serial_value, stored_certificate}
use Rattle.reg_store_tables.specs.Shows.{IsShownBy}
use Rattle.reg_store_tables.specs.ReadStatements.{command_of, shown_certificate}
use Rattle.reg_store_tables.specs.ShownRows.{IsRowOf}
use Rattle.reg_store_tables.specs.declared.sql.TheConstants.{CERT_BY_SERIAL, CERT_BY_ORDER}
use Rattle.reg_store_tables.proofs.Compares.{and_true, eq_number, eq_serial}
use Rattle.reg_store_tables.proofs.Queries.{column_is, selects, no_limit, Given, counted_given, row_of}
use Rattle.reg_store_tables.proofs.Selecting.{select_never}
use Rattle.reg_store_tables.proofs.FailingLemmas.{IsSelect, select}
use Rattle.reg_store_tables.proofs.Few.{given_few, one_number}

abbrev columns : List Term
columns = col 1 1 ∷ col 1 2 ∷ col 1 3 ∷ col 1 4 ∷ []

abbrev names : List (List ℕ)
names = codes "serial" ∷ codes "order_id" ∷ codes "not_before" ∷ codes "not_after" ∷ []

abbrev out : CertRow → Output
out row = ([], shown_certificate row)

pub by_serial_text : IsSelect CERT_BY_SERIAL.now (selects 4 (column_is 1) columns [] no_limit) names (λ (serial : ℕ). serial_value serial ∷ [])
unfolding understood everything register_schema first
by_serial_text =
    select CERT_BY_SERIAL.now 4 (column_is 1) columns [] no_limit names (λ (serial : ℕ). serial_value serial ∷ []) refl (refl, refl) refl (select_never CERT_BY_SERIAL.now _ _ refl refl refl) (λ it. (omega arith, refl)) (λ it. refl)

module _ (db : Database) (records : Records) (shown : IsShownBy db records) (serial : ℕ) (is_serial : IsSerial serial) (rows : List Row) (reads : Reads (command_of (understood register_schema CERT_BY_SERIAL.now)) db (serial_value serial ∷ []) rows) where
  by_serial_given : Given (λ row. row.serial == serial) out records.certificates (selects 4 (column_is 1) columns [] no_limit) (serial_value serial ∷ []) rows
  by_serial_given =
      counted_given (λ row. IsSerial row.serial) stored_certificate (λ row. row.serial == serial) out records.certificates shown.rows.certificate_serials 4 (column_is 1) columns [] no_limit (serial_value serial ∷ []) CERT_BY_SERIAL.now names by_serial_text.means db refl rows reads
      shown.rows.certificates (λ id row read_row. and_true _ ∙ eq_serial row.serial serial read_row is_serial) (λ id row. refl)

  pub by_serial_few : KeysDiffer (λ (row : CertRow). row.serial) records.certificates → length rows ≤ 1
  by_serial_few differ = given_few (λ row. row.serial == serial) out records.certificates 4 (column_is 1) columns [] (serial_value serial ∷ []) rows by_serial_given
      (one_number (λ (row : CertRow). row.serial) serial records.certificates differ)

  pub by_serial_row : (P : CertRow → Type 0) → AllByRecursion P records.certificates → IsRowOf P shown_certificate rows (certificate_in records.certificates serial)
  by_serial_row P all = row_of (λ row. row.serial == serial) out records.certificates 4 (column_is 1) columns [] (serial_value serial ∷ []) rows by_serial_given P all

pub by_order_text : IsSelect CERT_BY_ORDER.now (selects 4 (column_is 2) columns [] no_limit) names (λ (order : ℕ). number order ∷ [])
unfolding understood everything register_schema first
by_order_text =
    select CERT_BY_ORDER.now 4 (column_is 2) columns [] no_limit names (λ (order : ℕ). number order ∷ []) refl (refl, refl) refl (select_never CERT_BY_ORDER.now _ _ refl refl refl) (λ it. (omega arith, refl)) (λ it. refl)

module _ (db : Database) (records : Records) (shown : IsShownBy db records) (order : ℕ) (rows : List Row) (reads : Reads (command_of (understood register_schema CERT_BY_ORDER.now)) db (number order ∷ []) rows) where
  by_order_given : Given (λ row. row.order == order) out records.certificates (selects 4 (column_is 2) columns [] no_limit) (number order ∷ []) rows
  by_order_given =
      counted_given (λ row. IsSerial row.serial) stored_certificate (λ row. row.order == order) out records.certificates shown.rows.certificate_serials 4 (column_is 2) columns [] no_limit (number order ∷ []) CERT_BY_ORDER.now names by_order_text.means db refl rows reads
      shown.rows.certificates (λ id row read_row. and_true _ ∙ eq_number row.order order) (λ id row. refl)

  pub by_order_few : KeysDiffer (λ (row : CertRow). row.order) records.certificates → length rows ≤ 1
  by_order_few differ = given_few (λ row. row.order == order) out records.certificates 4 (column_is 2) columns [] (number order ∷ []) rows by_order_given
      (one_number (λ (row : CertRow). row.order) order records.certificates differ)

  pub by_order_row : (P : CertRow → Type 0) → AllByRecursion P records.certificates → IsRowOf P shown_certificate rows (certificate_of_order records.certificates order)
  by_order_row P all = row_of (λ row. row.order == order) out records.certificates 4 (column_is 2) columns [] (number order ∷ []) rows by_order_given P all
