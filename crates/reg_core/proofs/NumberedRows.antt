-- Rows that are numbered from 1 on: those past a number, and the one at a number.
use Rattle.std.proofs.Common.{◌≡◌, ◌≢◌, ◌≤◌, ◌<◌, ◌+◌, ◌==◌, ℕ, zero, suc, List, [], ◌∷◌, length, take, drop, Option, Some, refl, sym, ap, subst, ◌∙◌, arith}
use Rattle.std.specs.Prelude.{nat_lt, filter_map, option_and_then}
use Rattle.std.specs.List.{filter, find, AllByRecursion, cons_option}
use Rattle.std.proofs.lemmas.Bool.Decides.{nat_tests}
use Rattle.reg_core.specs.Sound.{KeysDiffer, NumberedFrom}
use Rattle.reg_core.specs.AscendingRows.{insert_by_key, in_order, past}
use Rattle.reg_core.proofs.RisingKeys.{all_above, put_front}

module _ {A : Type 0} (key : A → ℕ) where
  -- ---- the row with a key

  find_later : (x : A) (xs ys : List A) → AllByRecursion (λ a. key x ≢ key a) ys → AllByRecursion (λ a. Some a ≡ find (λ b. key b == key a) xs) ys
      → AllByRecursion (λ a. Some a ≡ find (λ b. key b == key a) (x ∷ xs)) ys
  find_later x xs [] apart found = tt
  find_later x xs (y ∷ ys) apart found = (grind (arith, nat_tests, apart.0, found.0), find_later x xs ys apart.1 found.1)

  -- where keys differ, each row is the one that is found by its key
  pub find_self : (xs : List A) → KeysDiffer key xs → AllByRecursion (λ a. Some a ≡ find (λ b. key b == key a) xs) xs
  find_self [] differ = tt
  find_self (x ∷ xs) differ = (grind (arith, nat_tests), find_later x xs xs differ.0 (find_self xs differ.1))

  -- ---- the rows past a number

  from_on : (low from : ℕ) (xs : List A) → low < from → NumberedFrom key from xs → AllByRecursion (λ a. low < key a) xs
  from_on low from [] less numbered = tt
  from_on low from (x ∷ xs) less numbered = (omega (arith, numbered.0), from_on low (from + 1) xs (omega arith) numbered.1)

  in_order_already : (from : ℕ) (xs : List A) → NumberedFrom key from xs → in_order key xs ≡ xs
  in_order_already from [] numbered = refl
  in_order_already from (x ∷ xs) numbered =
      ap (insert_by_key key x) (in_order_already (from + 1) xs numbered.1) ∙ put_front key x xs (from_on (key x) (from + 1) xs (omega (arith, numbered.0)) numbered.1)

  -- the first so many are not past their number
  filter_drop : (from gone : ℕ) (xs : List A) → NumberedFrom key (from + 1) xs → filter (λ a. nat_lt (from + gone) (key a)) xs ≡ drop gone xs
  filter_drop from zero xs numbered = all_above key (from + 0) xs (from_on (from + 0) (from + 1) xs (omega arith) numbered)
  filter_drop from (suc gone) [] numbered = refl
  filter_drop from (suc gone) (x ∷ xs) numbered =
      let next : from + suc gone ≡ (from + 1) + gone = omega arith in
      grind (arith, nat_tests, numbered.0, ap (λ k. filter (λ a. nat_lt k (key a)) xs) next, filter_drop (from + 1) gone xs numbered.1)

  numbered_kept : (after from : ℕ) (xs : List A) → NumberedFrom key from xs → NumberedFrom key (from + after) (drop after xs)
  numbered_kept zero from xs numbered = let same : from ≡ from + 0 = omega arith in subst (λ k. NumberedFrom key k xs) same numbered
  numbered_kept (suc after) from [] numbered = tt
  numbered_kept (suc after) from (x ∷ xs) numbered =
      let same : (from + 1) + after ≡ from + suc after = omega arith in
      subst (λ k. NumberedFrom key k (drop after xs)) same (numbered_kept after (from + 1) xs numbered.1)

  pub past_drop : (after : ℕ) (xs : List A) → NumberedFrom key 1 xs → past key after xs ≡ drop after xs
  past_drop after xs numbered =
      let from_none : after ≡ 0 + after = omega arith in
      ap (λ k. in_order key (filter (λ a. nat_lt k (key a)) xs)) from_none ∙ ap (in_order key) (filter_drop 0 after xs numbered)
      ∙ in_order_already (1 + after) (drop after xs) (numbered_kept after 1 xs numbered)

  pub dropped_numbered : (after : ℕ) (xs : List A) → NumberedFrom key 1 xs → NumberedFrom key (after + 1) (drop after xs)
  dropped_numbered after xs numbered =
      let same : 1 + after ≡ after + 1 = omega arith in
      subst (λ k. NumberedFrom key k (drop after xs)) same (numbered_kept after 1 xs numbered)

-- so many numbers from one on
abbrev pub numbers : ℕ → ℕ → List ℕ
numbers from zero = []
numbers from (suc count) = from ∷ numbers (from + 1) count

module _ {A B : Type 0} (key : A → ℕ) (row_for : A → Option B) (look : ℕ → Option A) where
  -- what is looked up by so many numbers is what so many rows are
  pub looked_up : (from count : ℕ) (xs : List A) → NumberedFrom key from xs → AllByRecursion (λ a. Some a ≡ look (key a)) xs → count ≤ length xs
      → filter_map (λ id. option_and_then row_for (look id)) (numbers from count) ≡ filter_map row_for (take count xs)
  looked_up from zero xs numbered found few = refl
  looked_up from (suc count) [] numbered found few = absurd (omega (arith, few))
  looked_up from (suc count) (x ∷ xs) numbered found few =
      let here : look from ≡ Some x = ap look (sym numbered.0) ∙ sym found.0 in
      let rest = looked_up (from + 1) count xs numbered.1 found.1 (omega (arith, few)) in
      (λ i. cons_option (option_and_then row_for (here i)) (rest i))
