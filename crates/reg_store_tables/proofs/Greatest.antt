-- The last of the rows that are numbered from 1 on, which a statement finds by the greatest number.
use Rattle.std.proofs.Common.{◌≡◌, ◌≤◌, ◌<◌, ◌+◌, ℕ, pos, true, false, List, [], ◌∷◌, map, length, None, Some, refl, sym, subst, ◌∙◌, arith}
use Rattle.std.specs.Prelude.{◌==◌}
use Rattle.std.specs.List.{filter, find, AllByRecursion}
use Rattle.std.proofs.lemmas.Bool.Decides.{nat_tests}
use Rattle.std.specs.List.Sorted.{IsPermutation, IsSorted}
use Rattle.std.proofs.lemmas.List.Sorted.{length_permutation}
use Rattle.sqlite_value.specs.Order.{Row}
use Rattle.sqlite_value.specs.declared.value.Value.TheVariants.{Int}
use Rattle.sqlite_trees.proofs.ListLemmas.{filter_all}
use Rattle.sqlite_sql.specs.Term.{Term, lit, col}
use Rattle.sqlite_sql.specs.Query.{key_cmp}
use Rattle.reg_core.specs.Crls.{latest}
use Rattle.reg_core.specs.Records.{Crl}
use Rattle.reg_core.specs.Sound.{NumberedFrom}
use Rattle.reg_store_tables.specs.Rows.{number}
use Rattle.reg_store_tables.proofs.Queries.{selects, Given, all_of}
use Rattle.reg_store_tables.proofs.Sorting.{descending_key, Rises, greatest_first, first_is_one}

abbrev pub one_row : Term
one_row = lit (Int (pos 1))

module _ {A : Type 0} (n : A → ℕ) where
  weaken : (low high : ℕ) (xs : List A) → low ≤ high → AllByRecursion (λ a. high ≤ n a) xs → AllByRecursion (λ a. low ≤ n a) xs
  weaken low high [] le all = tt
  weaken low high (x ∷ xs) le all = (omega arith, weaken low high xs le all.1)

  pub numbered_from : (from : ℕ) (xs : List A) → NumberedFrom n from xs → AllByRecursion (λ a. from ≤ n a) xs
  numbered_from from [] numbered = tt
  numbered_from from (x ∷ xs) numbered = (omega arith, weaken from (from + 1) xs (omega arith) (numbered_from (from + 1) xs numbered.1))

  above : (from : ℕ) (x : A) (xs : List A) → n x ≡ from → AllByRecursion (λ a. from + 1 ≤ n a) xs → AllByRecursion (λ a. n x < n a) xs
  above from x [] is all = tt
  above from x (y ∷ xs) is all = (omega arith, above from x xs is all.1)

  pub numbered_rises : (from : ℕ) (xs : List A) → NumberedFrom n from xs → Rises n xs
  numbered_rises from [] numbered = tt
  numbered_rises from (x ∷ xs) numbered = (above from x xs numbered.0 (numbered_from (from + 1) xs numbered.1), numbered_rises (from + 1) xs numbered.1)

  below_more : (low high : ℕ) (xs : List A) → low ≤ high → AllByRecursion (λ a. n a < low) xs → AllByRecursion (λ a. n a < high) xs
  below_more low high [] le all = tt
  below_more low high (x ∷ xs) le all = (omega arith, below_more low high xs le all.1)

  pub numbered_below : (from : ℕ) (xs : List A) → NumberedFrom n from xs → AllByRecursion (λ a. n a < from + length xs) xs
  numbered_below from [] numbered = tt
  numbered_below from (x ∷ xs) numbered = (omega arith, below_more (from + 1 + length xs) (from + length (x ∷ xs)) xs (omega arith) (numbered_below (from + 1) xs numbered.1))

  reaches : (from : ℕ) (x : A) (xs : List A) → NumberedFrom n from (x ∷ xs) → (most : ℕ) → AllByRecursion (λ a. n a ≤ most) (x ∷ xs) → from + length xs ≤ most
  reaches from x [] numbered most all = omega arith
  reaches from x (y ∷ xs) numbered most all = let rest = reaches (from + 1) y xs numbered.1 most all.1 in omega arith

  -- no row has a number past the last one's
  pub none_above_range : (from m : ℕ) (xs : List A) → NumberedFrom n from xs → from + length xs ≤ m → None ≡ find (λ a. n a == m) xs
  none_above_range from m [] numbered past = refl
  none_above_range from m (x ∷ xs) numbered past =
      let other : (n x == m) ≡ false = grind (arith, nat_tests) in
      rw other (none_above_range (from + 1) m xs numbered.1 (omega arith))

  -- the greatest number is the count of the rows
  pub greatest_is : (xs : List A) (t : A) (more : List A) → NumberedFrom n 1 xs → IsPermutation xs (t ∷ more) → AllByRecursion (λ a. n a ≤ n t) xs → n t ≡ length xs
  greatest_is [] t more numbered same all = absurd (omega (arith, length_permutation [] (t ∷ more) same))
  greatest_is (x ∷ xs) t more numbered same all =
      let low = reaches 1 x xs numbered (n t) all in
      let high : n t < 1 + length (x ∷ xs) = first_is_one n (λ a. n a < 1 + length (x ∷ xs)) (x ∷ xs) t more same (numbered_below 1 (x ∷ xs) numbered) in
      omega arith

-- the row that stands for the greatest number
pub record Greatest {A : Type 0} (P : A → Type 0) (n : A → ℕ) (view : A → Row) (xs : List A) (row : Row) : Type 0 where
  pub it : A
  pub counts : n it ≡ length xs
  pub holds : P it
  pub shown : row ≡ view it

module _ {A : Type 0} (n : A → ℕ) (view : A → Row) (xs : List A) (numbered : NumberedFrom n 1 xs) (tree : ℕ) (project : List Term) (params : Row) (rows : List Row)
    (g : Given (λ _. true) (λ a. (number (n a) ∷ [], view a)) xs (selects tree [] project ((col 1 0, descending_key) ∷ []) one_row) params rows) where
  all_kept : filter (λ (a : A). true) xs ≡ xs
  all_kept = filter_all (λ _. true) xs (all_of (λ _. true ≡ true) (λ _. refl) xs)

  same_rows : IsPermutation xs g.to
  same_rows = subst (λ l. IsPermutation l g.to) all_kept g.same

  first_none : (to : List A) → [] ≡ Rattle.std.proofs.Common.take 1 (map view to) → length to ≡ 0
  first_none [] is = refl
  first_none (t ∷ to) is = absurd (cc)

  pub greatest_none : rows ≡ [] → length xs ≡ 0
  greatest_none none = sym (length_permutation xs g.to same_rows) ∙ first_none g.to (sym none ∙ g.shown)

  first_one : (P : A → Type 0) → AllByRecursion P xs → (row : Row) (to : List A) → to ≡ g.to → row ∷ [] ≡ Rattle.std.proofs.Common.take 1 (map view to) → Greatest P n view xs row
  first_one P all row [] to_is is = absurd (cc)
  first_one P all row (t ∷ more) to_is is =
      let same : IsPermutation xs (t ∷ more) = subst (IsPermutation xs) (sym to_is) same_rows in
      let sorted : IsSorted (λ a b. key_cmp 0 (descending_key ∷ []) (number (n a) ∷ []) (number (n b) ∷ [])) (t ∷ more) =
      subst (IsSorted (λ a b. key_cmp 0 (descending_key ∷ []) (number (n a) ∷ []) (number (n b) ∷ []))) (sym to_is) g.sorted in
      record {
        it = t;
        counts = greatest_is n xs t more numbered same (greatest_first n xs t more same sorted);
        holds = first_is_one n P xs t more same all;
        shown = cc;
      }

  pub greatest_one : (P : A → Type 0) → AllByRecursion P xs → (row : Row) → rows ≡ row ∷ [] → Greatest P n view xs row
  greatest_one P all row one = first_one P all row g.to refl (sym one ∙ g.shown)

pub all_map : {A : Type 0} (P Q : A → Type 0) → ((x : A) → P x → Q x) → (xs : List A) → AllByRecursion P xs → AllByRecursion Q xs
all_map P Q to [] all = tt
all_map P Q to (x ∷ xs) all = (to x all.0, all_map P Q to xs all.1)

latest_from : (from : ℕ) (xs : List Crl) → NumberedFrom (λ crl. crl.number) from xs → AllByRecursion (λ crl. crl.number + 1 ≡ from + length xs → Some crl ≡ latest xs) xs
latest_from from [] numbered = tt
latest_from from (x ∷ []) numbered = ((λ e. refl), tt)
latest_from from (x ∷ y ∷ xs) numbered = (
  (λ e. absurd (omega arith)),
  all_map (λ (crl : Crl). crl.number + 1 ≡ (from + 1) + length (y ∷ xs) → Some crl ≡ latest (y ∷ xs)) (λ (crl : Crl). crl.number + 1 ≡ from + length (x ∷ y ∷ xs) → Some crl ≡ latest (y ∷ xs))
      (λ crl known e. known (omega arith)) (y ∷ xs) (latest_from (from + 1) (y ∷ xs) numbered.1),
)

-- the CRL with the greatest number is the latest
pub latest_is : (xs : List Crl) → NumberedFrom (λ crl. crl.number) 1 xs → AllByRecursion (λ crl. crl.number ≡ length xs → Some crl ≡ latest xs) xs
latest_is xs numbered =
    all_map (λ (crl : Crl). crl.number + 1 ≡ 1 + length xs → Some crl ≡ latest xs) (λ (crl : Crl). crl.number ≡ length xs → Some crl ≡ latest xs) (λ crl known e. known (omega arith)) xs
    (latest_from 1 xs numbered)
