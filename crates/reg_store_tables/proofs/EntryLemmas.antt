-- What the statement on the entries of a CRL shows.
use Rattle.std.proofs.Common.{◌≡◌, ◌≤◌, ◌<◌, ◌+◌, ◌||◌, ◌&&◌, ℕ, true, false, Bool, not, Option, None, Some, List, [], ◌∷◌, map, length, get_or, codes, refl, sym, ap, subst, ◌∙◌, arith, inl, inr}
use Rattle.std.specs.Prelude.{nat_lt, nat_le, option_map}
use Rattle.std.specs.List.{filter, find, list_any, AllByRecursion}
use Rattle.std.specs.List.Sorted.{IsPermutation, IsSorted, IsNonDecreasingBy}
use Rattle.std.specs.Ordering.{nat_cmp, is_eq, is_ge, is_lt}
use Rattle.std.proofs.lemmas.Bool.{cases_Bool, le-ltb, ltb-true, ltb-false}
use Rattle.std.proofs.lemmas.Bool.Decides.{nat_tests}
use Rattle.std.proofs.lemmas.Cmp.{tied_itself}
use Rattle.std.proofs.lemmas.List.{get_or-map, length-map}
use Rattle.std.proofs.lemmas.List.Elements.{All-from_recursion, recursion_from_All}
use Rattle.std.proofs.lemmas.List.Sorted.{All-permutation, IsPermutation-map, IsPermutation-trans, IsPermutation-sym, IsNonDecreasingBy-from_sort, length_permutation}
use Rattle.sqlite_value.specs.Order.{Row, value_cmp}
use Rattle.sqlite_value.specs.declared.keys.Key.{Key}
use Rattle.sqlite_value.specs.declared.keys.Collation.TheVariants.{Binary}
use Rattle.sqlite_value.specs.declared.value.Value.TheVariants.{Null}
use Rattle.sqlite_value.proofs.OrderLemmas.{then-Equal, value_cmp-apart, value_cmp-Blob, value_cmp_total}
use Rattle.sqlite_trees.proofs.ListLemmas.{map-map, filter-map, IsPermutation-filter}
use Rattle.sqlite_sql.specs.Ops.{binary, is_true, from_truth, truth, or3}
use Rattle.sqlite_sql.specs.Term.{Term, col, lit, op2}
use Rattle.sqlite_sql.specs.Query.{Output, key_cmp}
use Rattle.sqlite_sql.specs.declared.ops.BinaryOp.TheVariants.{Compare, Is, Or}
use Rattle.sqlite_sql.specs.declared.ops.CompareOp.TheVariants.{Le, Ge}
use Rattle.sqlite.specs.Effect.{Database, Reads}
use Rattle.sqlite.specs.Listing.{understood}
use Rattle.sqlite_resolve.specs.Compile.{first}
use Rattle.sqlite_tied.specs.Compute.{everything}
use Rattle.reg_core.specs.Crls.{EntriesAscend, is_listed_on, ends_listing, listed_revocations, entry_of, entries}
use Rattle.reg_core.specs.Records.{Records, Crl}
use Rattle.reg_core.specs.Serial.{IsSerial, serial_bytes}
use Rattle.reg_core.specs.Sound.{NumberedFrom, SoundRows}
use Rattle.reg_core.specs.declared.rows.Entry.{Entry}
use Rattle.reg_core.specs.declared.rows.RevocationRow.{RevocationRow}
use Rattle.reg_core_laws.proofs.PublicLaws.{entries_ascending, all_map}
use Rattle.reg_store_tables.specs.Schema.{register_schema}
use Rattle.reg_store_tables.specs.Rows.{number, serial_value}
use Rattle.reg_store_tables.specs.DerivedRows.{Listed, DerivedRows, stored_listed, number_or_null}
use Rattle.reg_store_tables.specs.Shows.{AreRecordsAndDerived}
use Rattle.reg_store_tables.specs.Kept.{Kept, listed_of}
use Rattle.reg_store_tables.specs.ReadStatements.{command_of, shown_entry}
use Rattle.reg_store_tables.specs.RecordValues.{AreMomentAndReason}
use Rattle.reg_store_tables.specs.declared.sql.TheConstants.{ENTRIES}
use Rattle.reg_store_tables.proofs.AscendLemmas.{serial_of, ascending_same, ascending_sorted}
use Rattle.reg_store_tables.proofs.Compares.{and_true, compares, le_number, number_order, is_ge-nat_cmp, serial_order}
use Rattle.reg_store_tables.proofs.FailingLemmas.{IsSelect, select}
use Rattle.reg_store_tables.proofs.Few.{fewer}
use Rattle.reg_store_tables.proofs.Queries.{selects, no_limit, Given, counted_given, kept_have}
use Rattle.reg_store_tables.proofs.Selecting.{select_never}
use Rattle.reg_store_tables.proofs.Sorting.{ascending_key, sorted_same}

-- ---- what the statement tests

-- not yet past the last number
abbrev still_on : ℕ → Option ℕ → Bool
still_on n None = true
still_on n (Some last) = nat_le n last

abbrev lists : ℕ → Listed → Bool
lists n row = nat_le row.first n && still_on n row.last

abbrev entry_in : Listed → Entry
entry_in row = record { serial = row.serial; at = row.at; reason = row.reason }

abbrev is_null_or_after : Term
is_null_or_after = op2 Or (op2 (Is Binary) (col 1 6) (lit Null)) (op2 (Compare Ge Binary) (col 1 6) (col 0 0))

abbrev listing_terms : List Term
listing_terms = op2 (Compare Le Binary) (col 1 4) (col 0 0) ∷ is_null_or_after ∷ []

abbrev columns : List Term
columns = col 1 1 ∷ col 1 2 ∷ col 1 3 ∷ []

abbrev by_serial : List (Term × Key)
by_serial = (col 1 1, ascending_key) ∷ []

abbrev names : List (List ℕ)
names = codes "serial" ∷ codes "at" ∷ codes "reason" ∷ []

pub entries_text : IsSelect ENTRIES.now (selects 15 listing_terms columns by_serial no_limit) names (λ (n : ℕ). number n ∷ [])
unfolding understood everything register_schema first
entries_text =
    select ENTRIES.now 15 listing_terms columns by_serial no_limit names (λ (n : ℕ). number n ∷ []) refl (refl, refl) refl (select_never ENTRIES.now _ _ refl refl refl) (λ it. (omega arith, refl)) (λ it. refl)

or_truth : (a b : Bool) → is_true (from_truth (or3 (truth (from_truth (Some a))) (truth (from_truth (Some b))))) ≡ (a || b)
or_truth true true = refl
or_truth true false = refl
or_truth false true = refl
or_truth false false = refl

-- NULL, or a number that is not below
still_test : (last : Option ℕ) (n : ℕ) → is_true (binary Or (binary (Is Binary) (number_or_null last) Null) (binary (Compare Ge Binary) (number_or_null last) (number n))) ≡ still_on n last
unfolding binary
still_test None n = rw (tied_itself value_cmp_total Null) refl
still_test (Some last) n =
    let apart : is_eq (value_cmp (number last) Null) ≡ false = ap is_eq (value_cmp-apart (number last) Null (λ e. absurd (omega arith))) in
    or_truth (is_eq (value_cmp (number last) Null)) (is_ge (value_cmp (number last) (number n))) ∙ ap (λ b. b || is_ge (value_cmp (number last) (number n))) apart
    ∙ ap is_ge (number_order last n) ∙ is_ge-nat_cmp last n

-- ---- what the rows stand for

none_below : (p : Crl → Bool) (n from : ℕ) (crls : List Crl) → NumberedFrom (λ crl. crl.number) from crls → n ≤ from → list_any (λ crl. nat_lt crl.number n && p crl) crls ≡ false
none_below p n from [] numbered low = refl
none_below p n from (crl ∷ rest) numbered low =
    let above : n ≤ crl.number = let is = numbered.0 in omega arith in
    rw (le-ltb crl.number n above) (none_below p n (from + 1) rest numbered.1 (omega arith))

pub and_false : (b : Bool) → (b && false) ≡ false
and_false true = refl
and_false false = refl

pub not_le : (n m : ℕ) → m < n → nat_le n m ≡ false
not_le n m less = grind (arith, nat_tests)

pub is_le : (n m : ℕ) → n ≤ m → nat_le n m ≡ true
is_le n m le = grind (arith, nat_tests)

-- the first that passes is the one of the least number
first_any : (p : Crl → Bool) (n from : ℕ) (crls : List Crl) → NumberedFrom (λ crl. crl.number) from crls
    → not (list_any (λ crl. nat_lt crl.number n && p crl) crls) ≡ still_on n (option_map (λ (crl : Crl). crl.number) (find p crls))
first_any p n from [] numbered = refl
first_any p n from (crl ∷ rest) numbered = elim (cases_Bool (p crl)) [
  | inl passes ↦ rw (passes, and_true (nat_lt crl.number n)) (elim (cases_Bool (nat_lt crl.number n)) [
    | inl before ↦ let below : crl.number < n = ltb-true crl.number n before in rw before (sym (not_le n crl.number below))
    | inr after ↦
        let above : n ≤ crl.number = ltb-false crl.number n after in
        let later : n ≤ from + 1 = let is = numbered.0 in omega arith in
        rw (after, none_below p n (from + 1) rest numbered.1 later) (sym (is_le n crl.number above))
  ])
  | inr fails ↦ rw (fails, and_false (nat_lt crl.number n)) (first_any p n (from + 1) rest numbered.1)
]

-- a row is listed where its revocation is
listed_on : (records : Records) (n : ℕ) (row : RevocationRow) → NumberedFrom (λ crl. crl.number) 1 records.crls → lists n (listed_of records row) ≡ is_listed_on records.certificates records.crls n row
listed_on records n row numbered = ap (λ b. nat_le row.first n && b) (sym (first_any (ends_listing records.certificates row) n 1 records.crls numbered))

pub same_filter : {A : Type 0} (p q : A → Bool) → ((x : A) → p x ≡ q x) → (xs : List A) → filter p xs ≡ filter q xs
same_filter p q same [] = refl
same_filter p q same (x ∷ xs) = rw (same x, same_filter p q same xs) refl

-- the entries of what is listed are those of the revocations that the CRL lists
entries_listed : (records : Records) (n : ℕ) → NumberedFrom (λ crl. crl.number) 1 records.crls → map entry_in (filter (lists n) (map (listed_of records) records.revocations)) ≡ map entry_of (listed_revocations records n)
entries_listed records n numbered =
    ap (map entry_in) (filter-map (lists n) (listed_of records) records.revocations)
    ∙ map-map entry_in (listed_of records) (filter (λ row. lists n (listed_of records row)) records.revocations)
    ∙ ap (map entry_of) (same_filter (λ row. lists n (listed_of records row)) (is_listed_on records.certificates records.crls n) (λ row. listed_on records n row numbered) records.revocations)

-- ---- the statement

abbrev in_range : Listed → Type 0
in_range row = IsSerial row.serial

abbrev out : Listed → Output
out row = (serial_value row.serial ∷ [], shown_entry (entry_in row))

tests_are : (row : Listed) (n : ℕ) → (compares Le (number row.first) (number n) && (is_true (binary Or (binary (Is Binary) (number_or_null row.last) Null) (binary (Compare Ge Binary) (number_or_null row.last) (number n))) && true)) ≡ lists n row
tests_are row n =
    let first = le_number row.first n in
    let second = and_true (is_true (binary Or (binary (Is Binary) (number_or_null row.last) Null) (binary (Compare Ge Binary) (number_or_null row.last) (number n)))) ∙ still_test row.last n in
    λ i. first i && second i

-- what the rows show
pub record Lists (records : Records) (n : ℕ) (rows : List Row) (found : List Entry) : Type 0 where
  pub shown : rows ≡ map shown_entry found
  pub serials : AllByRecursion (λ (entry : Entry). IsSerial entry.serial) found
  pub same : IsPermutation (map entry_of (listed_revocations records n)) found

-- ---- in the order of serial numbers

serial_key : (a b : ℕ) → IsSerial a → IsSerial b → key_cmp 0 (ascending_key ∷ []) (serial_value a ∷ []) (serial_value b ∷ []) ≡ nat_cmp a b
serial_key a b in_a in_b = then-Equal _ ∙ value_cmp-Blob (serial_bytes a) (serial_bytes b) ∙ serial_order a b in_a in_b

listed_ascends : (xs : List Listed) → AllByRecursion in_range xs → IsSorted (λ (a b : Listed). key_cmp 0 (ascending_key ∷ []) (serial_value a.serial ∷ []) (serial_value b.serial ∷ [])) xs → IsNonDecreasingBy (λ (row : Listed). row.serial) xs
listed_ascends xs all sorted =
    IsNonDecreasingBy-from_sort (λ (row : Listed). row.serial) xs (λ k d low high.
    sym (ap is_lt (serial_key (get_or xs (k + 1) d).serial (get_or xs k d).serial (All-from_recursion in_range xs all (k + 1) d high) (All-from_recursion in_range xs all k d (omega arith)))) ∙ sorted k d low high)

entries_ascend : (xs : List Listed) → IsNonDecreasingBy (λ (row : Listed). row.serial) xs → IsNonDecreasingBy serial_of (map entry_in xs)
entries_ascend [] rises i j d le within = absurd (omega (arith, within))
entries_ascend (x ∷ xs) rises i j d le within =
    let size : length (map entry_in (x ∷ xs)) ≡ length (x ∷ xs) = rw length-map refl in
    let inside : j < length (x ∷ xs) = omega arith in
    let earlier : serial_of (get_or (map entry_in (x ∷ xs)) i d) ≡ (get_or (x ∷ xs) i x).serial = ap serial_of (get_or-map entry_in (x ∷ xs) i x d (omega arith)) in
    let later : serial_of (get_or (map entry_in (x ∷ xs)) j d) ≡ (get_or (x ∷ xs) j x).serial = ap serial_of (get_or-map entry_in (x ∷ xs) j x d inside) in
    let rise : (get_or (x ∷ xs) i x).serial ≤ (get_or (x ∷ xs) j x).serial = rises i j x le inside in
    omega arith

module _ (db : Database) (records : Records) (kept : DerivedRows) (both : AreRecordsAndDerived db records kept) (law : Kept kept records) (n : ℕ) (rows : List Row)
    (reads : Reads (command_of (understood register_schema ENTRIES.now)) db (number n ∷ []) rows) where
  pub entries_given : Given (lists n) out kept.listed (selects 15 listing_terms columns by_serial no_limit) (number n ∷ []) rows
  entries_given =
      counted_given in_range stored_listed (lists n) out kept.listed both.kept.listed_serials 15 listing_terms columns by_serial no_limit (number n ∷ []) ENTRIES.now names entries_text.means db refl rows reads
      both.kept.listed (λ id row any. tests_are row n) (λ id row. refl)

  abbrev pub found_entries : List Entry
  found_entries = map entry_in entries_given.to

  pub entries_lists : Lists records n rows found_entries
  entries_lists =
      let kept_all = kept_have in_range (lists n) kept.listed both.kept.listed_serials in
      let all = recursion_from_All in_range entries_given.to (All-permutation in_range (filter (lists n) kept.listed) entries_given.to entries_given.same (All-from_recursion in_range (filter (lists n) kept.listed) kept_all)) in
      let listed = IsPermutation-filter (lists n) (map (listed_of records) records.revocations) kept.listed law.listed in
      let same = IsPermutation-map entry_in (filter (lists n) (map (listed_of records) records.revocations)) entries_given.to
      (IsPermutation-trans (filter (lists n) (map (listed_of records) records.revocations)) (filter (lists n) kept.listed) entries_given.to listed entries_given.same) in
      record {
        shown = entries_given.shown ∙ sym (map-map shown_entry entry_in entries_given.to);
        serials = all_map (λ (entry : Entry). IsSerial entry.serial) entry_in entries_given.to all;
        same = subst (λ l. IsPermutation l found_entries) (entries_listed records n both.shown.rows.crls_numbered) same;
      }

  -- in the order in which the statement asks for them
  pub entries_sorted : IsNonDecreasingBy serial_of found_entries
  entries_sorted =
      let kept_all = kept_have in_range (lists n) kept.listed both.kept.listed_serials in
      let all = recursion_from_All in_range entries_given.to (All-permutation in_range (filter (lists n) kept.listed) entries_given.to entries_given.same (All-from_recursion in_range (filter (lists n) kept.listed) kept_all)) in
      entries_ascend entries_given.to (listed_ascends entries_given.to all entries_given.sorted)

-- in ascending order they are the entries of the CRL
pub entries_are : (records : Records) (n : ℕ) (rows : List Row) (found : List Entry) → Lists records n rows found → EntriesAscend found → found ≡ entries records n
entries_are records n rows found lists up =
    sym (sorted_same serial_of found (entries records n) up
    (IsPermutation-trans found (map entry_of (listed_revocations records n)) (entries records n) (IsPermutation-sym (map entry_of (listed_revocations records n)) found lists.same) (ascending_same (map entry_of (listed_revocations records n))))
    (ascending_sorted (map entry_of (listed_revocations records n))))

-- ---- the entries of records that a register writes

module _ (records : Records) (n : ℕ) (rows : List Row) (found : List Entry) (it : Lists records n rows found) where
  -- they have the moments and reasonCodes of revocations
  pub entries_have : AllByRecursion (λ row. AreMomentAndReason row.at row.reason) records.revocations → AllByRecursion (λ entry. AreMomentAndReason entry.at entry.reason) found
  entries_have all =
      let P : Entry → Type 0 = λ entry. AreMomentAndReason entry.at entry.reason in
      let listed = map entry_of (listed_revocations records n) in
      let each = all_map P entry_of (listed_revocations records n) (kept_have (λ (row : RevocationRow). AreMomentAndReason row.at row.reason) (is_listed_on records.certificates records.crls n) records.revocations all) in
      recursion_from_All P found (All-permutation P listed found it.same (All-from_recursion P listed each))

  -- no more than there are revocations
  pub entries_within : length found ≤ length records.revocations
  entries_within =
      let same = length_permutation (map entry_of (listed_revocations records n)) found it.same in
      let mapped : length (map entry_of (listed_revocations records n)) ≡ length (listed_revocations records n) = rw length-map refl in
      let on = fewer (is_listed_on records.certificates records.crls n) records.revocations in
      omega arith

  -- and they ascend strictly
  pub entries_rise : SoundRows records → IsNonDecreasingBy serial_of found → EntriesAscend found
  entries_rise sound sorted =
      let listed = map entry_of (listed_revocations records n) in
      let rises = entries_ascending records n sound in
      let same = IsPermutation-trans (entries records n) listed found (IsPermutation-sym listed (entries records n) (ascending_same listed)) it.same in
      subst EntriesAscend (sym (sorted_same serial_of (entries records n) found rises same sorted)) rises
