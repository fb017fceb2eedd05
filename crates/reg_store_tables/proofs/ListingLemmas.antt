-- What the statement on a listed serial number shows.
use Rattle.std.proofs.Common.{◌≡◌, ◌≤◌, ℕ, Bool, Option, None, Some, List, [], ◌∷◌, map, length, codes, refl, ap, ◌∙◌, arith, inl, inr}
use Rattle.std.specs.Prelude.{◌==◌, option_map}
use Rattle.std.specs.List.{filter, find}
use Rattle.std.proofs.lemmas.Bool.{cases_Bool}
use Rattle.std.proofs.lemmas.List.Sorted.{IsPermutation-trans}
use Rattle.sqlite_value.specs.Order.{Row}
use Rattle.sqlite_trees.proofs.ListLemmas.{IsPermutation-filter}
use Rattle.sqlite_sql.specs.Term.{Term, col}
use Rattle.sqlite_sql.specs.Query.{Output}
use Rattle.sqlite.specs.Effect.{Database, Reads}
use Rattle.sqlite.specs.Listing.{understood}
use Rattle.sqlite_resolve.specs.Compile.{first}
use Rattle.sqlite_tied.specs.Compute.{everything}
use Rattle.reg_core.specs.Queries.{listing}
use Rattle.reg_core.specs.Records.{Records, revocation_in}
use Rattle.reg_core.specs.Serial.{IsSerial}
use Rattle.reg_core.specs.Sound.{KeysDiffer}
use Rattle.reg_core.specs.declared.command.Listing.{Listing}
use Rattle.reg_core.specs.declared.rows.RevocationRow.{RevocationRow}
use Rattle.reg_core_laws.proofs.PublicLaws.{keys_map}
use Rattle.reg_store_tables.specs.Schema.{register_schema}
use Rattle.reg_store_tables.specs.Rows.{number, serial_value}
use Rattle.reg_store_tables.specs.DerivedRows.{Listed, DerivedRows, stored_listed, number_or_null}
use Rattle.reg_store_tables.specs.Shows.{AreRecordsAndDerived}
use Rattle.reg_store_tables.specs.Kept.{Kept, listed_of}
use Rattle.reg_store_tables.specs.ReadStatements.{command_of}
use Rattle.reg_store_tables.specs.ShownRows.{IsRowOf, shown_listing}
use Rattle.reg_store_tables.specs.declared.sql.TheConstants.{LISTED_BY_SERIAL}
use Rattle.reg_store_tables.proofs.Compares.{and_true, eq_serial}
use Rattle.reg_store_tables.proofs.Queries.{column_is, selects, no_limit, Given, counted_given, all_of, row_of}
use Rattle.reg_store_tables.proofs.Selecting.{select_never}
use Rattle.reg_store_tables.proofs.FailingLemmas.{IsSelect, select}
use Rattle.reg_store_tables.proofs.Few.{given_few, one_number}

abbrev columns : List Term
columns = col 1 4 ∷ col 1 6 ∷ []

abbrev names : List (List ℕ)
names = codes "first_crl" ∷ codes "last_listed" ∷ []

pub listed_text : IsSelect LISTED_BY_SERIAL.now (selects 15 (column_is 1) columns [] no_limit) names (λ (serial : ℕ). serial_value serial ∷ [])
unfolding understood everything register_schema first
listed_text =
    select LISTED_BY_SERIAL.now 15 (column_is 1) columns [] no_limit names (λ (serial : ℕ). serial_value serial ∷ []) refl (refl, refl) refl (select_never LISTED_BY_SERIAL.now _ _ refl refl refl) (λ it. (omega arith, refl)) (λ it. refl)

abbrev shown_listed : Listed → Row
shown_listed row = number row.first ∷ number_or_null row.last ∷ []

abbrev out : Listed → Output
out row = ([], shown_listed row)

abbrev pub listing_of : Listed → Listing
listing_of row = record { first = row.first; last = row.last }

find_mapped : {A B : Type 0} (p : B → Bool) (f : A → B) (xs : List A) → find p (map f xs) ≡ option_map f (find (λ x. p (f x)) xs)
find_mapped p f [] = refl
find_mapped p f (x ∷ xs) = elim (cases_Bool (p (f x))) [
  | inl passed ↦ rw passed refl
  | inr failed ↦ rw failed (find_mapped p f xs)
]

option_map_twice : {A B C : Type 0} (g : B → C) (f : A → B) (o : Option A) → option_map g (option_map f o) ≡ option_map (λ x. g (f x)) o
option_map_twice g f None = refl
option_map_twice g f (Some x) = refl

module _ (db : Database) (records : Records) (kept : DerivedRows) (both : AreRecordsAndDerived db records kept) (law : Kept kept records) (serial : ℕ) (is_serial : IsSerial serial) (rows : List Row)
    (reads : Reads (command_of (understood register_schema LISTED_BY_SERIAL.now)) db (serial_value serial ∷ []) rows) where
  abbrev has_serial : Listed → Bool
  has_serial row = row.serial == serial

  abbrev listed_rows : List Listed
  listed_rows = map (listed_of records) records.revocations

  in_kept : Given has_serial out kept.listed (selects 15 (column_is 1) columns [] no_limit) (serial_value serial ∷ []) rows
  in_kept =
      counted_given (λ (row : Listed). IsSerial row.serial) stored_listed has_serial out kept.listed both.kept.listed_serials 15 (column_is 1) columns [] no_limit (serial_value serial ∷ []) LISTED_BY_SERIAL.now names listed_text.means db refl rows reads
      both.kept.listed (λ id row read_row. and_true _ ∙ eq_serial row.serial serial read_row is_serial) (λ id row. refl)

  -- of the rows of the revocations themselves
  listed_given : Given has_serial out listed_rows (selects 15 (column_is 1) columns [] no_limit) (serial_value serial ∷ []) rows
  listed_given = record {
    to = in_kept.to;
    same = IsPermutation-trans (filter has_serial listed_rows) (filter has_serial kept.listed) in_kept.to (IsPermutation-filter has_serial listed_rows kept.listed law.listed) in_kept.same;
    sorted = in_kept.sorted;
    shown = in_kept.shown;
  }

  listing_is : option_map listing_of (find has_serial listed_rows) ≡ listing records serial
  listing_is =
      ap (option_map listing_of) (find_mapped has_serial (listed_of records) records.revocations)
      ∙ option_map_twice listing_of (listed_of records) (revocation_in records.revocations serial)

  pub listed_few : KeysDiffer (λ (row : RevocationRow). row.serial) records.revocations → length rows ≤ 1
  listed_few differ = given_few has_serial out listed_rows 15 (column_is 1) columns [] (serial_value serial ∷ []) rows listed_given
      (one_number (λ (row : Listed). row.serial) serial listed_rows (keys_map (λ (row : Listed). row.serial) (listed_of records) records.revocations differ))

  pub listed_row : (P : Listing → Type 0) → ((it : Listing) → P it) → IsRowOf P shown_listing rows (listing records serial)
  listed_row P each =
      let row = row_of has_serial out listed_rows 15 (column_is 1) columns [] (serial_value serial ∷ []) rows listed_given (λ _. Unit {0}) (all_of (λ _. Unit {0}) (λ _. tt) listed_rows) in
      record {
        none = λ none. ap (option_map listing_of) (row.none none) ∙ listing_is;
        one = λ r one.
            let found = row.one r one in
            record { it = listing_of found.it; first = ap (option_map listing_of) found.first ∙ listing_is; holds = each (listing_of found.it); shown = found.shown };
      }
