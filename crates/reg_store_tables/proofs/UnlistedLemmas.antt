-- What the statement on the earliest revocation shows.
use Rattle.std.proofs.Common.{◌≡◌, ◌≤◌, ◌+◌, ℕ, Bool, Option, None, Some, List, [], ◌∷◌, map, take, length, codes, refl, sym, ap, subst, ◌∙◌, arith}
use Rattle.std.specs.Prelude.{nat_lt, nat_le, min}
use Rattle.std.specs.List.{filter, AllByRecursion}
use Rattle.std.specs.List.Sorted.{IsPermutation, IsSorted}
use Rattle.std.proofs.lemmas.Bool.Decides.{nat_tests}
use Rattle.std.proofs.lemmas.List.Sorted.{length_permutation}
use Rattle.sqlite_value.specs.Order.{Row}
use Rattle.sqlite_value.specs.declared.keys.Key.{Key}
use Rattle.sqlite_value.specs.declared.keys.Collation.TheVariants.{Binary}
use Rattle.sqlite_sql.specs.Term.{Term, col, op2}
use Rattle.sqlite_sql.specs.Query.{Output, key_cmp}
use Rattle.sqlite_sql.specs.declared.ops.BinaryOp.TheVariants.{Compare}
use Rattle.sqlite_sql.specs.declared.ops.CompareOp.TheVariants.{Gt}
use Rattle.sqlite.specs.Effect.{Database, Reads}
use Rattle.sqlite.specs.Listing.{understood}
use Rattle.sqlite_resolve.specs.Compile.{first}
use Rattle.sqlite_tied.specs.Compute.{everything}
use Rattle.reg_core.specs.Crls.{next_number}
use Rattle.reg_core.specs.Due.{earliest, unlisted}
use Rattle.reg_core.specs.Records.{Records, Crl}
use Rattle.reg_core.specs.Sound.{NumberedFrom}
use Rattle.reg_core.specs.declared.rows.RevocationRow.{RevocationRow}
use Rattle.reg_store_tables.specs.Schema.{register_schema}
use Rattle.reg_store_tables.specs.Rows.{number, stored_revocation}
use Rattle.reg_store_tables.specs.Shows.{IsShownBy}
use Rattle.reg_store_tables.specs.ReadStatements.{command_of}
use Rattle.reg_store_tables.specs.ShownRows.{Found, IsRowOf, shown_number}
use Rattle.reg_store_tables.specs.declared.sql.TheConstants.{EARLIEST_ABOVE}
use Rattle.reg_store_tables.proofs.Compares.{and_true, gt_number}
use Rattle.reg_store_tables.proofs.Queries.{selects, Given, counted_given, all_of, kept_have}
use Rattle.reg_store_tables.proofs.Selecting.{select_never}
use Rattle.reg_store_tables.proofs.Sorting.{ascending_key, ascends, least_first, first_is_one}
use Rattle.reg_store_tables.proofs.Greatest.{one_row, all_map}
use Rattle.reg_store_tables.proofs.FailingLemmas.{IsSelect, select}
use Rattle.reg_store_tables.proofs.Few.{taken_few}
use Rattle.reg_store_tables.proofs.EntryLemmas.{same_filter}

-- ---- the number of the next CRL

next_from : (from : ℕ) (x : Crl) (xs : List Crl) → NumberedFrom (λ crl. crl.number) from (x ∷ xs) → next_number (x ∷ xs) ≡ from + length (x ∷ xs)
next_from from x [] numbered = omega arith
next_from from x (y ∷ xs) numbered = let rest = next_from (from + 1) y xs numbered.1 in omega arith

pub next_is : (xs : List Crl) → NumberedFrom (λ crl. crl.number) 1 xs → next_number xs ≡ length xs + 1
next_is [] numbered = refl
next_is (x ∷ xs) numbered = let it = next_from 1 x xs numbered in omega arith

le_next : (low first : ℕ) → nat_le (low + 1) first ≡ nat_lt low first
le_next low first = grind (arith, nat_tests)

pub unlisted_is : (records : Records) → NumberedFrom (λ crl. crl.number) 1 records.crls → filter (λ row. nat_lt (length records.crls) row.first) records.revocations ≡ unlisted records
unlisted_is records numbered =
    same_filter (λ (row : RevocationRow). nat_lt (length records.crls) row.first) (λ row. nat_le (next_number records.crls) row.first)
    (λ row. sym (ap (λ n. nat_le n row.first) (next_is records.crls numbered) ∙ le_next (length records.crls) row.first)) records.revocations

-- ---- the earliest

min_left : (a b : ℕ) → a ≤ b → min a b ≡ a
min_left a b le = grind (arith, nat_tests)

min_right : (a b : ℕ) → b ≤ a → min a b ≡ b
min_right a b le = grind (arith, nat_tests)

le_min : (k a b : ℕ) → k ≤ a → k ≤ b → k ≤ min a b
le_min k a b first second = grind (arith, nat_tests)

some_number : (a b : ℕ) → Some a ≡ Some b → a ≡ b
some_number a b e = cc

never : {A : Type 0} (m : ℕ) → None ≡ Some m → A
never m e = absurd (cc)

earliest_alone : (x : RevocationRow) (xs : List RevocationRow) → earliest xs ≡ None → earliest (x ∷ xs) ≡ Some x.at
earliest_alone x xs none = rw none refl

earliest_step : (x : RevocationRow) (xs : List RevocationRow) (m : ℕ) → earliest xs ≡ Some m → earliest (x ∷ xs) ≡ Some (min x.at m)
earliest_step x xs m is = rw is refl

bound : (k : ℕ) (xs : List RevocationRow) (m : ℕ) → AllByRecursion (λ b. k ≤ b.at) xs → earliest xs ≡ Some m → k ≤ m
bound k [] m all is = never m is
bound k (x ∷ xs) m all is = go (earliest xs) refl (bound k xs)
  where
    go : (o : Option ℕ) → earliest xs ≡ o → ((j : ℕ) → AllByRecursion (λ b. k ≤ b.at) xs → earliest xs ≡ Some j → k ≤ j) → k ≤ m
    go None none later = let same : x.at ≡ m = some_number x.at m (sym (earliest_alone x xs none) ∙ is) in let low = all.0 in omega arith
    go (Some j) some later =
        let same : min x.at j ≡ m = some_number (min x.at j) m (sym (earliest_step x xs j some) ∙ is) in
        let low : k ≤ min x.at j = le_min k x.at j all.0 (later j all.1 some) in
        omega arith

-- one that none is below is the earliest
earliest_all : (xs : List RevocationRow) → AllByRecursion (λ a. AllByRecursion (λ b. a.at ≤ b.at) xs → Some a.at ≡ earliest xs) xs
earliest_all [] = tt
earliest_all (x ∷ xs) = (
  first (earliest xs) refl,
  all_map (λ (a : RevocationRow). AllByRecursion (λ b. a.at ≤ b.at) xs → Some a.at ≡ earliest xs) (λ (a : RevocationRow). AllByRecursion (λ b. a.at ≤ b.at) (x ∷ xs) → Some a.at ≡ earliest (x ∷ xs))
      (λ a known all. sym (earliest_step x xs a.at (sym (known all.1)) ∙ ap (λ (m : ℕ). Some m) (min_right x.at a.at all.0))) xs (earliest_all xs),
)
  where
    first : (o : Option ℕ) → earliest xs ≡ o → AllByRecursion (λ b. x.at ≤ b.at) (x ∷ xs) → Some x.at ≡ earliest (x ∷ xs)
    first None none all = sym (earliest_alone x xs none)
    first (Some m) some all = sym (earliest_step x xs m some ∙ ap (λ (j : ℕ). Some j) (min_left x.at m (bound x.at xs m all.1 some)))

-- ---- the statement

abbrev first_above : List Term
first_above = op2 (Compare Gt Binary) (col 1 5) (col 0 0) ∷ []

abbrev query_order : List (Term × Key)
query_order = (col 1 2, ascending_key) ∷ []

pub above_text : IsSelect EARLIEST_ABOVE.now (selects 8 first_above (col 1 2 ∷ []) query_order one_row) (codes "at" ∷ []) (λ (n : ℕ). number n ∷ [])
unfolding understood everything register_schema first
above_text =
    select EARLIEST_ABOVE.now 8 first_above (col 1 2 ∷ []) query_order one_row (codes "at" ∷ []) (λ (n : ℕ). number n ∷ []) refl (refl, refl) refl (select_never EARLIEST_ABOVE.now _ _ refl refl refl) (λ it. (omega arith, refl)) (λ it. refl)

abbrev out : RevocationRow → Output
out row = (number row.at ∷ [], number row.at ∷ [])

no_rows : (to : List RevocationRow) → [] ≡ take 1 (map (λ (row : RevocationRow). (out row).1) to) → length to ≡ 0
no_rows [] is = refl
no_rows (x ∷ to) is = absurd (cc)

none_earliest : (xs : List RevocationRow) → length xs ≡ 0 → None ≡ earliest xs
none_earliest [] none = refl
none_earliest (x ∷ xs) none = absurd (omega arith)

module _ (db : Database) (records : Records) (shown : IsShownBy db records) (n : ℕ) (rows : List Row) (reads : Reads (command_of (understood register_schema EARLIEST_ABOVE.now)) db (number n ∷ []) rows) where
  abbrev waits : RevocationRow → Bool
  waits row = nat_lt n row.first

  above_given : Given waits out records.revocations (selects 8 first_above (col 1 2 ∷ []) query_order one_row) (number n ∷ []) rows
  above_given =
      counted_given (λ _. Unit {0}) stored_revocation waits out records.revocations (all_of (λ _. Unit {0}) (λ _. tt) records.revocations) 8 first_above (col 1 2 ∷ []) query_order one_row (number n ∷ []) EARLIEST_ABOVE.now (codes "at" ∷ []) above_text.means db
      refl rows reads shown.rows.revocations (λ id row any. and_true _ ∙ gt_number row.first n) (λ id row. refl)

  pub above_few : length rows ≤ 1
  above_few = taken_few rows (map (λ (row : RevocationRow). (out row).1) above_given.to) above_given.shown

  row_above : (P : ℕ → Type 0) → AllByRecursion (λ row. P row.at) records.revocations → (row : Row) (to : List RevocationRow) → to ≡ above_given.to → row ∷ [] ≡ take 1 (map (λ (row : RevocationRow). (out row).1) to)
      → Found P shown_number (earliest (filter waits records.revocations)) row
  row_above P all row [] to_is is = absurd (cc)
  row_above P all row (t ∷ more) to_is is =
      let xs = filter waits records.revocations in
      let same : IsPermutation xs (t ∷ more) = subst (IsPermutation xs) (sym to_is) above_given.same in
      let sorted : IsSorted (λ (a b : RevocationRow). key_cmp 0 (ascending_key ∷ []) (number a.at ∷ []) (number b.at ∷ [])) (t ∷ more) =
      subst (IsSorted (λ (a b : RevocationRow). key_cmp 0 (ascending_key ∷ []) (number a.at ∷ []) (number b.at ∷ []))) (sym to_is) above_given.sorted in
      let least = least_first (λ (a : RevocationRow). a.at) xs t more same (ascends (λ (a : RevocationRow). a.at) (t ∷ more) sorted) in
      record {
        it = t.at;
        first = first_is_one (λ (a : RevocationRow). a.at) (λ (a : RevocationRow). AllByRecursion (λ b. a.at ≤ b.at) xs → Some a.at ≡ earliest xs) xs t more same (earliest_all xs) least;
        holds = first_is_one (λ (a : RevocationRow). a.at) (λ (a : RevocationRow). P a.at) xs t more same (kept_have (λ (a : RevocationRow). P a.at) waits records.revocations all);
        shown = cc;
      }

  -- what each moment has, the one that is shown has
  pub above_row : (P : ℕ → Type 0) → AllByRecursion (λ row. P row.at) records.revocations → IsRowOf P shown_number rows (earliest (filter waits records.revocations))
  above_row P all = record {
    none = λ none.
        none_earliest (filter waits records.revocations) (sym (length_permutation (filter waits records.revocations) above_given.to above_given.same) ∙ no_rows above_given.to (sym none ∙ above_given.shown));
    one = λ row one. row_above P all row above_given.to refl (sym one ∙ above_given.shown);
  }
