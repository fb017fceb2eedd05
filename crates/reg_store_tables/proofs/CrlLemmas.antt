-- What the look-ups of CRLs show.
use Rattle.std.proofs.Common.{◌≡◌, ◌≤◌, ℕ, true, None, Some, List, [], ◌∷◌, map, length, codes, refl, ap, ◌∙◌, arith}
use Rattle.std.specs.Prelude.{◌==◌, option_map}
use Rattle.std.specs.List.{AllByRecursion}
use Rattle.sqlite_value.specs.Order.{Row}
use Rattle.sqlite_value.specs.declared.value.Value.{Value}
use Rattle.sqlite_value.specs.declared.value.Value.TheVariants.{Blob}
use Rattle.sqlite_value.specs.declared.keys.Key.{Key}
use Rattle.sqlite_sql.specs.Term.{Term, col}
use Rattle.sqlite_sql.specs.Query.{Output}
use Rattle.sqlite.specs.Effect.{Database, Reads}
use Rattle.sqlite.specs.Listing.{understood}
use Rattle.sqlite_resolve.specs.Compile.{first}
use Rattle.sqlite_tied.specs.Compute.{everything}
use Rattle.reg_core.specs.Crls.{latest, row_of}
use Rattle.reg_core.specs.Records.{Records, Crl, crl_in}
use Rattle.reg_core.specs.declared.rows.CrlRow.{CrlRow}
use Rattle.reg_store_tables.specs.Schema.{register_schema}
use Rattle.reg_store_tables.specs.Rows.{number, stored_crl}
use Rattle.reg_store_tables.specs.Shows.{IsShownBy}
use Rattle.reg_store_tables.specs.ReadStatements.{command_of, shown_crl}
use Rattle.reg_store_tables.specs.ShownRows.{IsRowOf}
use Rattle.reg_store_tables.specs.declared.sql.TheConstants.{LATEST_CRL, CRL_BYTES}
use Rattle.reg_store_tables.proofs.Compares.{and_true, eq_number}
use Rattle.reg_store_tables.proofs.Queries.{column_is, selects, no_limit, Given, keyed_given, all_of}
use Rattle.reg_store_tables.proofs.Queries as query
use Rattle.reg_store_tables.proofs.Selecting.{select_never}
use Rattle.reg_store_tables.proofs.FailingLemmas.{IsSelect, select}
use Rattle.reg_store_tables.proofs.Few.{all_both, given_few, numbers_differ, one_number, taken_few}
use Rattle.reg_store_tables.proofs.Greatest.{one_row, greatest_none, greatest_one, latest_is}
use Rattle.reg_store_tables.proofs.Sorting.{descending_key}

no_latest : (crls : List Crl) → length crls ≡ 0 → None ≡ option_map row_of (latest crls)
no_latest [] none = refl
no_latest (crl ∷ rest) none = absurd (omega arith)

abbrev latest_columns : List Term
latest_columns = col 1 0 ∷ col 1 2 ∷ []

abbrev latest_names : List (List ℕ)
latest_names = codes "number" ∷ codes "this_update" ∷ []

abbrev by_number : List (Term × Key)
by_number = (col 1 0, descending_key) ∷ []

pub latest_text : IsSelect LATEST_CRL.now (selects 11 [] latest_columns by_number one_row) latest_names (λ (_ : Unit {0}). [])
unfolding understood everything register_schema first
latest_text =
    select LATEST_CRL.now 11 [] latest_columns by_number one_row latest_names (λ (_ : Unit {0}). []) refl (refl, refl) refl (select_never LATEST_CRL.now _ _ refl refl refl) (λ it. (omega arith, refl)) (λ it. refl)

module _ (db : Database) (records : Records) (shown : IsShownBy db records) (rows : List Row) (reads : Reads (command_of (understood register_schema LATEST_CRL.now)) db [] rows) where
  abbrev view : Crl → Row
  view crl = shown_crl (row_of crl)

  latest_given : Given (λ _. true) (λ (crl : Crl). (number crl.number ∷ [], view crl)) records.crls (selects 11 [] latest_columns by_number one_row) [] rows
  latest_given =
      keyed_given (λ _. Unit {0}) stored_crl (λ _. true) (λ (crl : Crl). (number crl.number ∷ [], view crl)) records.crls (all_of (λ _. Unit {0}) (λ _. tt) records.crls) 11 [] latest_columns by_number one_row []
      LATEST_CRL.now latest_names latest_text.means db refl rows reads shown.rows.crls (λ crl any. refl) (λ crl. refl)

  pub latest_few : length rows ≤ 1
  latest_few = taken_few rows (map view latest_given.to) latest_given.shown

  -- the row of the latest CRL, which has what each has
  pub latest_row : (P : Crl → Type 0) (Q : CrlRow → Type 0) → ((crl : Crl) → P crl → Q (row_of crl)) → AllByRecursion P records.crls → IsRowOf Q shown_crl rows (option_map row_of (latest records.crls))
  latest_row P Q its all = record {
    none = λ none. no_latest records.crls (greatest_none (λ (crl : Crl). crl.number) view records.crls shown.rows.crls_numbered 11 latest_columns [] rows latest_given none);
    one = λ row one.
        let is_latest : Crl → Type 0 = λ crl. crl.number ≡ length records.crls → Some crl ≡ latest records.crls in
        let it = greatest_one (λ (crl : Crl). crl.number) view records.crls shown.rows.crls_numbered 11 latest_columns [] rows latest_given
        (λ crl. is_latest crl × P crl) (all_both is_latest P records.crls (latest_is records.crls shown.rows.crls_numbered) all) row one in
        record { it = row_of it.it; first = ap (option_map row_of) (it.holds.0 it.counts); holds = its it.it it.holds.1; shown = it.shown };
  }

pub bytes_text : IsSelect CRL_BYTES.now (selects 11 (column_is 0) (col 1 3 ∷ []) [] no_limit) (codes "der" ∷ []) (λ (n : ℕ). number n ∷ [])
unfolding understood everything register_schema first
bytes_text =
    select CRL_BYTES.now 11 (column_is 0) (col 1 3 ∷ []) [] no_limit (codes "der" ∷ []) (λ (n : ℕ). number n ∷ []) refl (refl, refl) refl (select_never CRL_BYTES.now _ _ refl refl refl) (λ it. (omega arith, refl)) (λ it. refl)

abbrev out : Crl → Output
out crl = ([], Blob crl.bytes ∷ [])

module _ (db : Database) (records : Records) (shown : IsShownBy db records) (n : ℕ) (rows : List Row) (reads : Reads (command_of (understood register_schema CRL_BYTES.now)) db (number n ∷ []) rows) where
  bytes_given : Given (λ (crl : Crl). crl.number == n) out records.crls (selects 11 (column_is 0) (col 1 3 ∷ []) [] no_limit) (number n ∷ []) rows
  bytes_given =
      keyed_given (λ _. Unit {0}) stored_crl (λ (crl : Crl). crl.number == n) out records.crls (all_of (λ _. Unit {0}) (λ _. tt) records.crls) 11 (column_is 0) (col 1 3 ∷ []) [] no_limit (number n ∷ []) CRL_BYTES.now (codes "der" ∷ []) bytes_text.means db
      refl rows reads shown.rows.crls (λ crl any. and_true _ ∙ eq_number crl.number n) (λ crl. refl)

  pub bytes_few : length rows ≤ 1
  bytes_few = given_few (λ (crl : Crl). crl.number == n) out records.crls 11 (column_is 0) (col 1 3 ∷ []) [] (number n ∷ []) rows bytes_given
      (one_number (λ (crl : Crl). crl.number) n records.crls (numbers_differ (λ (crl : Crl). crl.number) 1 records.crls shown.rows.crls_numbered))

  pub bytes_row : IsRowOf (λ (crl : Crl). Unit {0}) (λ crl. Blob crl.bytes ∷ []) rows (crl_in records.crls n)
  bytes_row = query.row_of (λ (crl : Crl). crl.number == n) out records.crls 11 (column_is 0) (col 1 3 ∷ []) [] (number n ∷ []) rows bytes_given (λ _. Unit {0}) (all_of (λ _. Unit {0}) (λ _. tt) records.crls)

pub same_blob : (v : Value) (x y : List ℕ) → v ≡ Blob x → v ≡ Blob y → x ≡ y
same_blob v x y first second = cc
