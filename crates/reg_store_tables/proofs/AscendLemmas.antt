-- Entries in strictly ascending order of serial number.
use Rattle.std.proofs.Common.{◌≡◌, ◌≤◌, ◌<◌, ◌+◌, ◌↔◌, ℕ, zero, suc, Bool, true, false, IsTrue, List, [], ◌∷◌, length, get_or, refl, sym, ◌∙◌, arith, inl, inr}
use Rattle.std.specs.Prelude.{nat_lt}
use Rattle.std.specs.List.{AllByRecursion, IsAllAdjacentAnswer}
use Rattle.std.specs.List.Sorted.{IsPermutation, IsNonDecreasingBy}
use Rattle.std.specs.Ordering.{nat_cmp, is_lt}
use Rattle.std.proofs.lemmas.Bool.{cases_Bool, ltb-true, ltb-false}
use Rattle.std.proofs.lemmas.List.Elements.{All-from_recursion}
use Rattle.std.proofs.lemmas.List.Sorted.{IsPermutation-refl, IsPermutation-cons, IsPermutation-trans, IsPermutation-append_left, IsPermutation-append_comm}
use native.Mathlib.Numerals.{add-one}
use Rattle.reg_core.specs.Crls.{EntriesAscend, insert_entry, ascending}
use Rattle.reg_core.specs.declared.rows.Entry.{Entry}
use Rattle.reg_core.proofs.PublicLaws.{before_from_test, test_from_before}

-- ---- the test of neighbours

weaken : (low high : ℕ) (xs : List Entry) → low < high → AllByRecursion (λ later. high < later.serial) xs → AllByRecursion (λ later. low < later.serial) xs
weaken low high [] le all = tt
weaken low high (x ∷ xs) le all = (omega arith, weaken low high xs le all.1)

of_neighbours : (xs : List Entry) → ((k : ℕ) (d : Entry) → k + 1 < length xs → (get_or xs k d).serial < (get_or xs (k + 1) d).serial) → EntriesAscend xs
of_neighbours [] up = tt
of_neighbours (x ∷ []) up = (tt, tt)
of_neighbours (x ∷ y ∷ xs) up =
    let rest = of_neighbours (y ∷ xs) (λ k d within. rw (add-one k) (rw (add-one (suc k)) at (up (suc k) d (omega arith)))) in
    let first : x.serial < y.serial = up 0 x (omega arith) in
    ((first, weaken x.serial y.serial xs first rest.0), rest)

to_neighbours : (xs : List Entry) → EntriesAscend xs → (k : ℕ) (d : Entry) → k + 1 < length xs → (get_or xs k d).serial < (get_or xs (k + 1) d).serial
to_neighbours [] up k d within = absurd (omega arith)
to_neighbours (x ∷ []) up k d within = absurd (omega arith)
to_neighbours (x ∷ y ∷ xs) up zero d within = up.0.0
to_neighbours (x ∷ y ∷ xs) up (suc k) d within = rw (add-one (suc k)) (rw (add-one k) at (to_neighbours (y ∷ xs) up.1 k d (omega arith)))

pub ascends_tested : (xs : List Entry) (risen : Bool) → IsAllAdjacentAnswer (λ (earlier later : Entry) answer. answer ≡ is_lt (nat_cmp earlier.serial later.serial)) xs risen → IsTrue risen ↔ EntriesAscend xs
ascends_tested xs true tested = (
  λ _. of_neighbours xs (λ k d within. before_from_test (get_or xs k d).serial (get_or xs (k + 1) d).serial (sym (tested k d within))),
  λ _. refl,
)
ascends_tested [] false tested = absurd (let within = tested.1 in omega arith)
ascends_tested (x ∷ xs) false tested = (
  λ bad. absurd (let clash : false ≡ true = bad in cc),
  λ rise.
      let first = get_or (x ∷ xs) tested.0 x in
      let second = get_or (x ∷ xs) (tested.0 + 1) x in
      let before : first.serial < second.serial = to_neighbours (x ∷ xs) rise tested.0 x tested.1 in
      absurd (let clash : false ≡ true = tested.2 x ∙ test_from_before first.serial second.serial before in cc),
)

-- ---- entries put in order

abbrev pub serial_of : Entry → ℕ
serial_of entry = entry.serial

-- a serial number does not fall
abbrev NeverDecreases : List Entry → Type 0
NeverDecreases [] = Unit {0}
NeverDecreases (x ∷ xs) = AllByRecursion (λ later. serial_of x ≤ serial_of later) xs × NeverDecreases xs

weaken_le : (low high : ℕ) (xs : List Entry) → low ≤ high → AllByRecursion (λ later. high ≤ serial_of later) xs → AllByRecursion (λ later. low ≤ serial_of later) xs
weaken_le low high [] le all = tt
weaken_le low high (x ∷ xs) le all = (omega arith, weaken_le low high xs le all.1)

above_inserted : (low : ℕ) (entry : Entry) (xs : List Entry) → low ≤ serial_of entry → AllByRecursion (λ later. low ≤ serial_of later) xs → AllByRecursion (λ later. low ≤ serial_of later) (insert_entry entry xs)
above_inserted low entry [] le all = (le, tt)
above_inserted low entry (x ∷ xs) le all = elim (cases_Bool (nat_lt (serial_of entry) (serial_of x))) [
  | inl less ↦ rw less (le, all)
  | inr more ↦ rw more (all.0, above_inserted low entry xs le all.1)
]

inserted_rises : (entry : Entry) (xs : List Entry) → NeverDecreases xs → NeverDecreases (insert_entry entry xs)
inserted_rises entry [] rises = (tt, tt)
inserted_rises entry (x ∷ xs) rises = elim (cases_Bool (nat_lt (serial_of entry) (serial_of x))) [
  | inl less ↦ let below : serial_of entry < serial_of x = ltb-true (serial_of entry) (serial_of x) less in rw less ((omega arith, weaken_le (serial_of entry) (serial_of x) xs (omega arith) rises.0), rises)
  | inr more ↦ let above : serial_of x ≤ serial_of entry = ltb-false (serial_of entry) (serial_of x) more in rw more (above_inserted (serial_of x) entry xs above rises.0, inserted_rises entry xs rises.1)
]

ascending_rises : (xs : List Entry) → NeverDecreases (ascending xs)
ascending_rises [] = tt
ascending_rises (x ∷ xs) = inserted_rises x (ascending xs) (ascending_rises xs)

by_index : (xs : List Entry) → NeverDecreases xs → IsNonDecreasingBy serial_of xs
by_index [] rises i j d le within = absurd (omega arith)
by_index (x ∷ xs) rises zero zero d le within = omega arith
by_index (x ∷ xs) rises zero (suc j) d le within = All-from_recursion (λ later. serial_of x ≤ serial_of later) xs rises.0 j d (omega arith)
by_index (x ∷ xs) rises (suc i) zero d le within = absurd (omega arith)
by_index (x ∷ xs) rises (suc i) (suc j) d le within = by_index xs rises.1 i j d (omega arith) (omega arith)

pub ascending_sorted : (xs : List Entry) → IsNonDecreasingBy serial_of (ascending xs)
ascending_sorted xs = by_index (ascending xs) (ascending_rises xs)

swapped : (x y : Entry) (xs : List Entry) → IsPermutation (x ∷ y ∷ xs) (y ∷ x ∷ xs)
swapped x y xs = IsPermutation-append_left xs (x ∷ y ∷ []) (y ∷ x ∷ []) (IsPermutation-append_comm (x ∷ []) (y ∷ []))

inserted_same : (entry : Entry) (xs : List Entry) → IsPermutation (entry ∷ xs) (insert_entry entry xs)
inserted_same entry [] = IsPermutation-refl (entry ∷ [])
inserted_same entry (x ∷ xs) = elim (cases_Bool (nat_lt (serial_of entry) (serial_of x))) [
  | inl less ↦ rw less (IsPermutation-refl (entry ∷ x ∷ xs))
  | inr more ↦ rw more (IsPermutation-trans (entry ∷ x ∷ xs) (x ∷ entry ∷ xs) (x ∷ insert_entry entry xs) (swapped entry x xs) (IsPermutation-cons x (entry ∷ xs) (insert_entry entry xs) (inserted_same entry xs)))
]

pub ascending_same : (xs : List Entry) → IsPermutation xs (ascending xs)
ascending_same [] = IsPermutation-refl []
ascending_same (x ∷ xs) = IsPermutation-trans (x ∷ xs) (x ∷ ascending xs) (ascending (x ∷ xs)) (IsPermutation-cons x xs (ascending xs) (ascending_same xs)) (inserted_same x (ascending xs))
