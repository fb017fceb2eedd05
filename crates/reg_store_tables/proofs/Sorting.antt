-- Rows in the order of a number: which are first, and that there is one such order where the numbers differ.
use Rattle.std.proofs.Common.{◌≡◌, ◌≤◌, ◌<◌, ◌+◌, ℕ, pos, zero, suc, Bool, true, false, List, [], ◌∷◌, length, get_or, refl, sym, ap, subst, ◌∙◌, arith, inl, inr, ltb}
use Rattle.std.specs.List.{filter, AllByRecursion}
use Rattle.std.specs.List.Sorted.{IsPermutation, IsSorted, IsNonDecreasingBy}
use Rattle.std.specs.Ordering.{nat_cmp, is_lt}
use Rattle.std.proofs.lemmas.Bool.{cases_Bool, lt-ltb, le-ltb, ltb-false}
use Rattle.std.proofs.lemmas.List.Elements.{All-from_recursion, recursion_from_All}
use Rattle.std.proofs.lemmas.List.Sorted.{IsPermutation-sym, length_permutation, All-permutation, IsNonDecreasingBy-from_sort}
use native.Mathlib.Numerals.{add-one}
use Rattle.sqlite_value.specs.declared.keys.Key.{Key}
use Rattle.sqlite_value.specs.declared.keys.Collation.TheVariants.{Binary}
use Rattle.sqlite_value.proofs.OrderLemmas.{then-Equal, value_cmp-Int}
use Rattle.sqlite_trees.proofs.ListLemmas.{filter_all, IsPermutation-filter}
use Rattle.sqlite_sql.specs.Query.{key_cmp}
use Rattle.reg_store_tables.specs.Rows.{number}
use Rattle.reg_store_tables.proofs.Compares.{as_numbers, is_lt-nat_cmp}

abbrev pub ascending_key : Key
ascending_key = record { collation = Binary; descending = false }

abbrev pub descending_key : Key
descending_key = record { collation = Binary; descending = true }

key_ascending : (a b : ℕ) → key_cmp 0 (ascending_key ∷ []) (number a ∷ []) (number b ∷ []) ≡ nat_cmp a b
key_ascending a b = then-Equal _ ∙ value_cmp-Int (pos a) (pos b) ∙ as_numbers a b

key_descending : (a b : ℕ) → key_cmp 0 (descending_key ∷ []) (number a ∷ []) (number b ∷ []) ≡ nat_cmp b a
key_descending a b = then-Equal _ ∙ value_cmp-Int (pos b) (pos a) ∙ as_numbers b a

module _ {A : Type 0} (n : A → ℕ) where
  -- sorted by a number: it does not fall
  pub ascends : (xs : List A) → IsSorted (λ a b. key_cmp 0 (ascending_key ∷ []) (number (n a) ∷ []) (number (n b) ∷ [])) xs → IsNonDecreasingBy n xs
  ascends xs sorted = IsNonDecreasingBy-from_sort n xs (λ k d low high. sym (ap is_lt (key_ascending (n (get_or xs (k + 1) d)) (n (get_or xs k d)))) ∙ sorted k d low high)

  -- sorted downwards: none is above the first
  falls_step : (xs : List A) → IsSorted (λ a b. key_cmp 0 (descending_key ∷ []) (number (n a) ∷ []) (number (n b) ∷ [])) xs → (k : ℕ) (d : A) → k + 1 < length xs → n (get_or xs (k + 1) d) ≤ n (get_or xs k d)
  falls_step xs sorted k d within =
      let less : is_lt (nat_cmp (n (get_or xs k d)) (n (get_or xs (k + 1) d))) ≡ false =
      sym (ap is_lt (key_descending (n (get_or xs (k + 1) d)) (n (get_or xs k d)))) ∙ sorted k d (omega arith) within in
      ltb-false (n (get_or xs k d)) (n (get_or xs (k + 1) d)) (sym (is_lt-nat_cmp (n (get_or xs k d)) (n (get_or xs (k + 1) d))) ∙ less)

  falls_from : (x : A) (xs : List A) → IsSorted (λ a b. key_cmp 0 (descending_key ∷ []) (number (n a) ∷ []) (number (n b) ∷ [])) (x ∷ xs) → (k : ℕ) (d : A) → k < length (x ∷ xs) → n (get_or (x ∷ xs) k d) ≤ n x
  falls_from x xs sorted zero d within = omega arith
  falls_from x xs sorted (suc k) d within =
      let before : n (get_or (x ∷ xs) k d) ≤ n x = falls_from x xs sorted k d (omega arith) in
      let step : n (get_or (x ∷ xs) (suc k) d) ≤ n (get_or (x ∷ xs) k d) = rw add-one at (falls_step (x ∷ xs) sorted k d (omega arith)) in
      omega arith

  -- the first of a downward order is the greatest
  pub greatest_first : (xs : List A) (x : A) (more : List A) → IsPermutation xs (x ∷ more) → IsSorted (λ a b. key_cmp 0 (descending_key ∷ []) (number (n a) ∷ []) (number (n b) ∷ [])) (x ∷ more) → AllByRecursion (λ a. n a ≤ n x) xs
  greatest_first xs x more same sorted =
      recursion_from_All (λ a. n a ≤ n x) xs (All-permutation (λ a. n a ≤ n x) (x ∷ more) xs (IsPermutation-sym xs (x ∷ more) same) (falls_from x more sorted))

  -- the first of an upward order is the least
  pub least_first : (xs : List A) (x : A) (more : List A) → IsPermutation xs (x ∷ more) → IsNonDecreasingBy n (x ∷ more) → AllByRecursion (λ a. n x ≤ n a) xs
  least_first xs x more same rises =
      recursion_from_All (λ a. n x ≤ n a) xs (All-permutation (λ a. n x ≤ n a) (x ∷ more) xs (IsPermutation-sym xs (x ∷ more) same) (λ k d within. rises 0 k d (omega arith) within))

  -- what holds of each holds of the first
  pub first_is_one : (P : A → Type 0) (xs : List A) (x : A) (more : List A) → IsPermutation xs (x ∷ more) → AllByRecursion P xs → P x
  first_is_one P xs x more same all = (recursion_from_All P (x ∷ more) (All-permutation P xs (x ∷ more) same (All-from_recursion P xs all))).0

  -- the numbers rise strictly
  abbrev pub Rises : List A → Type 0
  Rises [] = Unit {0}
  Rises (x ∷ xs) = AllByRecursion (λ a. n x < n a) xs × Rises xs

  above_pass : (low : ℕ) (xs : List A) → AllByRecursion (λ a. low < n a) xs → AllByRecursion (λ a. ltb low (n a) ≡ true) xs
  above_pass low [] all = tt
  above_pass low (x ∷ xs) all = (lt-ltb low (n x) all.0, above_pass low xs all.1)

  at_least : (low : ℕ) (xs : List A) → AllByRecursion (λ a. low < n a) xs → AllByRecursion (λ a. low ≤ n a) xs
  at_least low [] all = tt
  at_least low (x ∷ xs) all = (omega arith, at_least low xs all.1)

  one_of : (x : A) (xs : List A) → AllByRecursion (λ a. n x < n a) xs → AllByRecursion (λ a. n a ≡ n x → a ≡ x) xs
  one_of x [] all = tt
  one_of x (y ∷ xs) all = ((λ same. absurd (omega arith)), one_of x xs all.1)

  length_filter : (p : A → Bool) (xs : List A) → length (filter p xs) ≤ length xs
  length_filter p [] = omega arith
  length_filter p (x ∷ xs) = let rest = length_filter p xs in elim (cases_Bool (p x)) [
    | inl passed ↦ rw passed (omega arith)
    | inr failed ↦ rw failed (omega arith)
  ]

  filter_full : (p : A → Bool) (xs : List A) → length (filter p xs) ≡ length xs → filter p xs ≡ xs
  filter_full p [] full = refl
  filter_full p (x ∷ xs) full = elim (cases_Bool (p x)) [
    | inl passed ↦ let size : length (x ∷ filter p xs) ≡ length (x ∷ xs) = rw passed at full in rw passed (ap (λ l. x ∷ l) (filter_full p xs (omega arith)))
    | inr failed ↦ let size : length (filter p xs) ≡ length (x ∷ xs) = rw failed at full in let most = length_filter p xs in absurd (omega arith)
  ]

  dropped : (p : A → Bool) (x : A) (xs : List A) → p x ≡ false → filter p (x ∷ xs) ≡ filter p xs
  dropped p x xs failed = rw failed refl

  tail_rises : (x : A) (xs : List A) → IsNonDecreasingBy n (x ∷ xs) → IsNonDecreasingBy n xs
  tail_rises x xs rises i j d le within = rises (suc i) (suc j) d (omega arith) (omega arith)

  -- one order alone
  pub sorted_same : (xs ys : List A) → Rises xs → IsPermutation xs ys → IsNonDecreasingBy n ys → ys ≡ xs
  sorted_same [] [] rises same sorted = refl
  sorted_same [] (y ∷ ys) rises same sorted = absurd (omega (arith, length_permutation [] (y ∷ ys) same))
  sorted_same (x ∷ xs) [] rises same sorted = absurd (omega (arith, length_permutation (x ∷ xs) [] same))
  sorted_same (x ∷ xs) (y ∷ ys) rises same sorted =
      let low : n x ≤ n y = first_is_one (λ a. n x ≤ n a) (x ∷ xs) y ys same (omega arith, at_least (n x) xs rises.0) in
      let high : n y ≤ n x = (least_first (x ∷ xs) y ys same sorted).0 in
      let only : n y ≡ n x → y ≡ x = first_is_one (λ a. n a ≡ n x → a ≡ x) (x ∷ xs) y ys same ((λ e. refl), one_of x xs rises.0) in
      let head : y ≡ x = only (omega arith) in
      let p : A → Bool = λ a. ltb (n x) (n a) in
      let left : filter p (x ∷ xs) ≡ xs = dropped p x xs (le-ltb (n x) (n x) (omega arith)) ∙ filter_all p xs (above_pass (n x) xs rises.0) in
      let right : filter p (y ∷ ys) ≡ filter p ys = dropped p y ys (le-ltb (n x) (n y) high) in
      let kept : IsPermutation xs (filter p ys) = subst (λ l. IsPermutation l (filter p ys)) left (subst (IsPermutation (filter p (x ∷ xs))) right (IsPermutation-filter p (x ∷ xs) (y ∷ ys) same)) in
      let sizes = length_permutation xs (filter p ys) kept in
      let whole = length_permutation (x ∷ xs) (y ∷ ys) same in
      let full : filter p ys ≡ ys = filter_full p ys (omega arith) in
      let rest : ys ≡ xs = sorted_same xs ys rises.1 (subst (IsPermutation xs) full kept) (tail_rises y ys sorted) in
      cc
