-- How many rows the statement on the newest requests for a serial number shows, and how many of them are open.
use Rattle.std.proofs.Common.{◌≡◌, ◌&&◌, ℕ, pos, true, false, Bool, not, cond, List, [], ◌∷◌, map, length, codes, refl, sym, ap, ◌∙◌, arith, inl, inr}
use Rattle.std.specs.Prelude.{◌==◌, min}
use Rattle.std.specs.List.{filter}
use Rattle.std.proofs.lemmas.Bool.{cases_Bool}
use Rattle.std.proofs.lemmas.Bool.Decides.{nat_tests}
use Rattle.std.proofs.lemmas.List.{length-take}
use Rattle.std.proofs.lemmas.List.Sorted.{length_permutation}
use Rattle.sqlite_value.specs.Order.{Row}
use Rattle.sqlite_value.specs.declared.keys.Key.{Key}
use Rattle.sqlite_value.specs.declared.keys.Collation.TheVariants.{Binary}
use Rattle.sqlite_value.specs.declared.value.Value.TheVariants.{Int}
use Rattle.sqlite_sql.specs.Term.{Term, col, lit, op2}
use Rattle.sqlite_sql.specs.Query.{Output}
use Rattle.sqlite_sql.specs.declared.ops.BinaryOp.TheVariants.{Compare}
use Rattle.sqlite_sql.specs.declared.ops.CompareOp.TheVariants.{Eq}
use Rattle.sqlite.specs.Effect.{Database, Reads}
use Rattle.sqlite.specs.Listing.{understood}
use Rattle.sqlite_resolve.specs.Compile.{first}
use Rattle.sqlite_tied.specs.Compute.{everything}
use Rattle.reg_core.specs.Due.{is_open}
use Rattle.reg_core.specs.Records.{Records}
use Rattle.reg_core.specs.Serial.{IsSerial}
use Rattle.reg_core.specs.Status.{status, is_good}
use Rattle.reg_core.specs.declared.rows.RequestRow.{RequestRow}
use Rattle.reg_core_laws.proofs.PublicLaws.{equal_numbers}
use Rattle.reg_store_tables.specs.Schema.{register_schema}
use Rattle.reg_store_tables.specs.Rows.{number, serial_value, stored_request}
use Rattle.reg_store_tables.specs.Shows.{IsShownBy}
use Rattle.reg_store_tables.specs.ReadStatements.{command_of}
use Rattle.reg_store_tables.specs.declared.sql.TheConstants.{UNDECLINED_OF}
use Rattle.reg_store_tables.proofs.Compares.{and_true, eq_number, eq_serial}
use Rattle.reg_store_tables.proofs.FailingLemmas.{IsSelect, select}
use Rattle.reg_store_tables.proofs.Few.{mapped}
use Rattle.reg_store_tables.proofs.OverdueLemmas.{flag_is}
use Rattle.reg_store_tables.proofs.Queries.{selects, Given, keyed_given}
use Rattle.reg_store_tables.proofs.Selecting.{select_never}
use Rattle.reg_store_tables.proofs.Sorting.{descending_key}

abbrev terms : List Term
terms = op2 (Compare Eq Binary) (col 1 5) (lit (Int (pos 0))) ∷ op2 (Compare Eq Binary) (col 1 2) (col 0 0) ∷ []

abbrev columns : List Term
columns = col 1 0 ∷ []

abbrev newest_first : List (Term × Key)
newest_first = (col 1 0, descending_key) ∷ []

-- the second parameter
abbrev as_many : Term
as_many = col 0 1

abbrev names : List (List ℕ)
names = codes "id" ∷ []

pub waiting_text : IsSelect UNDECLINED_OF.now (selects 7 terms columns newest_first as_many) names (λ (it : ℕ × ℕ). serial_value it.0 ∷ number it.1 ∷ [])
unfolding understood everything register_schema first
waiting_text =
    select UNDECLINED_OF.now 7 terms columns newest_first as_many names (λ (it : ℕ × ℕ). serial_value it.0 ∷ number it.1 ∷ []) refl (refl, refl) refl (select_never UNDECLINED_OF.now _ _ refl refl refl) (λ it. (omega arith, refl)) (λ it. refl)

abbrev out : RequestRow → Output
out row = (number row.id ∷ [], number row.id ∷ [])

abbrev pub undeclined_of : ℕ → RequestRow → Bool
undeclined_of serial row = not row.declined && (row.serial == serial)

both_tests : (a b c d : Bool) → a ≡ c → b ≡ d → (a && (b && true)) ≡ (c && d)
both_tests a b c d first second = (λ i. first i && (second i && true)) ∙ ap (λ e. c && e) (and_true d)

no_more : (b : Bool) → (b && false) ≡ false
no_more true = refl
no_more false = refl

-- a request for a serial number whose certificate is good is open where it is not declined
open_then : (records : Records) (serial now : ℕ) → is_good (status records serial now) ≡ true → (row : RequestRow) → undeclined_of serial row ≡ ((row.serial == serial) && is_open records now row)
open_then records serial now good row = elim (cases_Bool (row.serial == serial)) [
  | inl same ↦
      let is : is_good (status records row.serial now) ≡ true = ap (λ n. is_good (status records n now)) (equal_numbers row.serial serial same) ∙ good in
      rw (same, is) refl
  | inr other ↦ rw other (no_more (not row.declined))
]

module _ (db : Database) (records : Records) (shown : IsShownBy db records) (serial most : ℕ) (is_serial : IsSerial serial) (rows : List Row)
    (reads : Reads (command_of (understood register_schema UNDECLINED_OF.now)) db (serial_value serial ∷ number most ∷ []) rows) where
  waiting_given : Given (undeclined_of serial) out records.requests (selects 7 terms columns newest_first as_many) (serial_value serial ∷ number most ∷ []) rows
  waiting_given =
      keyed_given (λ (row : RequestRow). IsSerial row.serial) stored_request (undeclined_of serial) out records.requests shown.rows.request_serials 7 terms columns newest_first as_many (serial_value serial ∷ number most ∷ []) UNDECLINED_OF.now names waiting_text.means db refl
      rows reads shown.rows.requests (λ row read_row. both_tests _ _ _ _ (eq_number (cond row.declined 1 0) 0 ∙ flag_is row.declined) (eq_serial row.serial serial read_row is_serial)) (λ row. refl)

  -- as many rows as there are of these requests, but at most as many as are wanted
  pub waiting_rows : length rows ≡ min most (length (filter (undeclined_of serial) records.requests))
  waiting_rows =
      let view : RequestRow → Row = λ row. (out row).1 in
      ap length waiting_given.shown ∙ length-take most (map view waiting_given.to) ∙ ap (min most) (mapped view waiting_given.to ∙ length_permutation (filter (undeclined_of serial) records.requests) waiting_given.to waiting_given.same)

-- which are the open ones where the certificate is good
pub waiting_are : (records : Records) (serial now : ℕ) → true ≡ is_good (status records serial now)
    → length (filter (undeclined_of serial) records.requests) ≡ length (filter (λ row. (row.serial == serial) && is_open records now row) records.requests)
waiting_are records serial now good = λ i. length (filter (λ row. open_then records serial now (sym good) row i) records.requests)

none_kept : {A : Type 0} (xs : List A) → filter (λ _. false) xs ≡ []
none_kept [] = refl
none_kept (x ∷ xs) = none_kept xs

-- none is open where it is not good
never_open : (records : Records) (serial now : ℕ) → false ≡ is_good (status records serial now) → (row : RequestRow) → ((row.serial == serial) && is_open records now row) ≡ false
never_open records serial now bad row = elim (cases_Bool (row.serial == serial)) [
  | inl same ↦
      let is : is_good (status records row.serial now) ≡ false = ap (λ n. is_good (status records n now)) (equal_numbers row.serial serial same) ∙ sym bad in
      rw (same, is) (no_more (not row.declined))
  | inr other ↦ rw other refl
]

min_none : (most : ℕ) → 0 ≡ min most 0
min_none most = grind (arith, nat_tests)

pub none_waiting : (records : Records) (serial now most : ℕ) → false ≡ is_good (status records serial now)
    → 0 ≡ min most (length (filter (λ row. (row.serial == serial) && is_open records now row) records.requests))
none_waiting records serial now most bad =
    min_none most ∙ sym (ap (min most) ((λ i. length (filter (λ row. never_open records serial now bad row i) records.requests)) ∙ ap length (none_kept records.requests)))
