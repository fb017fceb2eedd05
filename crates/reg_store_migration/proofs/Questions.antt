-- What is read inside a transaction, and that nothing changes by it.
use Rattle.std.proofs.Common.{◌≡◌, ◌⊎◌, ◌+◌, ℕ, true, List, [], ◌∷◌, map, codes, refl, sym, ap, subst, ◌∙◌, inl, inr}
use Rattle.sqlite_value.specs.Order.{Row}
use Rattle.sqlite_value.specs.declared.keys.Key.{Key}
use Rattle.sqlite_trees.proofs.ListLemmas.{map-map}
use Rattle.sqlite_sql.specs.Term.{Term, col}
use Rattle.sqlite_sql.specs.Query.{Output}
use Rattle.sqlite_resolve.specs.Compile.{first}
use Rattle.sqlite_tied.specs.Compute.{everything}
use Rattle.sqlite.specs.Effect.{Database, Reads}
use Rattle.sqlite.specs.Listing.{understood}
use Rattle.sqlite.specs.State.{State, KeepsCommit, IsUnchanged, IsRolledBack, Shown, FailsToQuery, IsTooLate}
use Rattle.sqlite.specs.declared.error.Error.{Error}
use Rattle.sqlite.proofs.Callers.{reads_as}
use Rattle.reg_core.specs.Crls.{row_of}
use Rattle.reg_core.specs.Records.{Records, Crl}
use Rattle.reg_core.specs.declared.rows.RevocationRow.{RevocationRow}
use Rattle.reg_store_tables.specs.Schema.{register_schema}
use Rattle.reg_store_tables.proofs.PublicLaws.{select_never, selects, as_command, no_limit, Given, keyed_given, all_of, all_kept, ascending_key, ascends, sorted_same, numbered_rises, fails_remains, rows_same, crl_out, behind, with_rowids, rowids_are, rowids_numbered}
use Rattle.reg_store_tables.specs.Rows.{number, stored_revocation, stored_crl}
use Rattle.reg_store_tables.specs.Shows.{IsShownBy}
use Rattle.reg_store_tables.specs.ReadStatements.{IsReading, command_of, shown_revocation, shown_crl}
use Rattle.reg_store_migration.specs.RecordReading.{AreAnswer}
use Rattle.reg_store_migration.specs.declared.sql.TheConstants.{REVOCATIONS, CRLS}

-- ---- a text that only reads changes nothing

pub asked_same : (old new : State) (sql : List ℕ) (params : Row) (rows : List Row) → IsReading sql → Shown sql params old new rows → IsUnchanged old new
unfolding Shown
asked_same old new sql params rows reading h = rows_same old new sql h.0 _ rows _ (reading.never.none old.now.schema h.0 h.1.is) h.2

pub unchanged_keeps : (old new : State) → IsUnchanged old new → KeepsCommit old new
unchanged_keeps old new same = record { was_open = λ up. same.0.was_open; committed = λ up. same.0.committed_is }

pub failed_keeps : (old new : State) (sql : List ℕ) (params : Row) (e : Error) → IsReading sql → FailsToQuery sql params old new e ⊎ IsTooLate sql params old new e → KeepsCommit old new
failed_keeps old new sql params e reading (inl h) = keeps (fails_remains old new sql params e h)
  where
    keeps : IsUnchanged old new ⊎ IsRolledBack old new → KeepsCommit old new
    keeps (inl same) = unchanged_keeps old new same
    keeps (inr back) = record { was_open = back.was_open; committed = λ up. (back.undone up).1 }
failed_keeps old new sql params e reading (inr h) = absurd (let none = reading.never.none old.now.schema h.0 h.1.is in let some = rw none at h.2 in cc)

pub asked_answers : (old new : State) (sql : List ℕ) (params : Row) (rows : List Row) → IsReading sql → Shown sql params old new rows → AreAnswer sql params rows old.now
asked_answers old new sql params rows reading shown register = reads_as sql params old new register_schema register (command_of (understood register_schema sql)) refl reading.plain reading.unlisted rows shown

-- ---- revocations, in the order of entry

abbrev shown_numbered : ℕ × RevocationRow → Row
shown_numbered row = shown_revocation row.1

rowids_shown : (from : ℕ) (rows : List RevocationRow) → map shown_numbered (with_rowids from rows) ≡ map shown_revocation rows
rowids_shown from [] = refl
rowids_shown from (row ∷ rest) = ap (λ (l : List Row). shown_revocation row ∷ l) (rowids_shown (from + 1) rest)

abbrev by_first : List (Term × Key)
by_first = (col 1 0, ascending_key) ∷ []

abbrev revocation_columns : List Term
revocation_columns = col 1 1 ∷ col 1 2 ∷ col 1 3 ∷ col 1 4 ∷ col 1 5 ∷ []

abbrev revocation_names : List (List ℕ)
revocation_names = codes "serial" ∷ codes "at" ∷ codes "reason" ∷ codes "request" ∷ codes "first_crl" ∷ []

revocations_mean : command_of (understood register_schema REVOCATIONS.now) ≡ as_command (selects 8 [] revocation_columns by_first no_limit) revocation_names
unfolding understood everything register_schema
revocations_mean = refl

pub reading_revocations : IsReading REVOCATIONS.now
unfolding understood everything register_schema first
reading_revocations = record { plain = (refl, refl); unlisted = refl; never = select_never REVOCATIONS.now _ _ refl refl refl }

abbrev rowid_of : ℕ × RevocationRow → ℕ
rowid_of row = row.0

abbrev numbered_out : ℕ × RevocationRow → Output
numbered_out row = (number row.0 ∷ [], shown_revocation row.1)

module _ (db : Database) (records : Records) (shown : IsShownBy db records) (rows : List Row) (reads : Reads (command_of (understood register_schema REVOCATIONS.now)) db [] rows) where
  abbrev numbered : List (ℕ × RevocationRow)
  numbered = with_rowids 1 records.revocations

  revocations_given : Given (λ _. true) numbered_out numbered (selects 8 [] revocation_columns by_first no_limit) [] rows
  revocations_given =
      keyed_given (λ _. Unit {0}) (behind stored_revocation) (λ _. true) numbered_out numbered (all_of (λ _. Unit {0}) (λ _. tt) numbered) 8 [] revocation_columns by_first no_limit [] REVOCATIONS.now revocation_names revocations_mean db refl rows reads
      (shown.rows.revocations ∙ rowids_are stored_revocation 1 records.revocations) (λ row any. refl) (λ row. refl)

  pub revocations_are : rows ≡ map shown_revocation records.revocations
  revocations_are =
      let rises = numbered_rises rowid_of 1 numbered (rowids_numbered 1 records.revocations) in
      let same = subst (λ l. Rattle.std.specs.List.Sorted.IsPermutation l revocations_given.to) (all_kept numbered) revocations_given.same in
      let to : revocations_given.to ≡ numbered = sorted_same rowid_of numbered revocations_given.to rises same (ascends rowid_of revocations_given.to revocations_given.sorted) in
      revocations_given.shown ∙ ap (map shown_numbered) to ∙ rowids_shown 1 records.revocations

-- ---- CRLs, in the order of their numbers

crls_mean : command_of (understood register_schema CRLS.now) ≡ as_command (selects 11 [] (col 1 0 ∷ col 1 2 ∷ []) by_first no_limit) (codes "number" ∷ codes "this_update" ∷ [])
unfolding understood everything register_schema
crls_mean = refl

pub reading_crls : IsReading CRLS.now
unfolding understood everything register_schema first
reading_crls = record { plain = (refl, refl); unlisted = refl; never = select_never CRLS.now _ _ refl refl refl }

abbrev number_of_crl : Crl → ℕ
number_of_crl crl = crl.number

module _ (db : Database) (records : Records) (shown : IsShownBy db records) (rows : List Row) (reads : Reads (command_of (understood register_schema CRLS.now)) db [] rows) where
  crls_given : Given (λ _. true) crl_out records.crls (selects 11 [] (col 1 0 ∷ col 1 2 ∷ []) by_first no_limit) [] rows
  crls_given =
      keyed_given (λ _. Unit {0}) stored_crl (λ _. true) crl_out records.crls (all_of (λ _. Unit {0}) (λ _. tt) records.crls) 11 [] (col 1 0 ∷ col 1 2 ∷ []) by_first no_limit [] CRLS.now (codes "number" ∷ codes "this_update" ∷ []) crls_mean db refl rows reads
      shown.rows.crls (λ crl any. refl) (λ crl. refl)

  pub crls_are : rows ≡ map shown_crl (map row_of records.crls)
  crls_are =
      let rises = numbered_rises number_of_crl 1 records.crls shown.rows.crls_numbered in
      let same = subst (λ l. Rattle.std.specs.List.Sorted.IsPermutation l crls_given.to) (all_kept records.crls) crls_given.same in
      let to : crls_given.to ≡ records.crls = sorted_same number_of_crl records.crls crls_given.to rises same (ascends number_of_crl crls_given.to crls_given.sorted) in
      crls_given.shown ∙ ap (map (λ crl. shown_crl (row_of crl))) to ∙ sym (map-map shown_crl row_of records.crls)
