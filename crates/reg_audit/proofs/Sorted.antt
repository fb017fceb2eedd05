-- Rows of serial numbers that differ, in the order of these: there is one such order.
use Rattle.std.proofs.Common.{◌≡◌, ◌≢◌, ℕ, suc, ◌<◌, ◌≤◌, ◌==◌, Bool, true, false, List, [], ◌∷◌, length, filter, refl, sym, subst, ◌∙◌, arith, inl, inr}
use Rattle.std.specs.List.{AllByRecursion}
use Rattle.std.specs.List.Sorted.{IsPermutation, IsNonDecreasingBy}
use Rattle.std.proofs.lemmas.Bool.{cases_Bool}
use Rattle.std.proofs.lemmas.Bool.Decides.{nat_tests}
use Rattle.std.proofs.lemmas.List.Elements.{recursion_from_All}
use Rattle.std.proofs.lemmas.List.Sorted.{length_permutation, IsPermutation-sym, IsPermutation-trans}
use Rattle.sqlite_trees.proofs.ListLemmas.{IsPermutation-filter}
use Rattle.reg_core.specs.Sound.{KeysDiffer}
use Rattle.reg_core_laws.proofs.PublicLaws.{all_join, all_weaker}
use Rattle.reg_store_tables.proofs.PublicLaws.{Rises, sorted_same}

module _ {Row : Type 0} (key : Row → ℕ) where
  abbrev has : ℕ → Row → Bool
  has k = λ row. key row == k

  none_has : (k : ℕ) (rows : List Row) → AllByRecursion (λ row. key row ≢ k) rows → length (filter (has k) rows) ≡ 0
  none_has k [] all = refl
  none_has k (row ∷ rest) all = let no : (key row == k) ≡ false = (let apart = all.0 in grind (arith, nat_tests)) in rw no (none_has k rest all.1)

  -- of keys that differ one row at most has each
  one_each : (k : ℕ) (rows : List Row) → KeysDiffer key rows → length (filter (has k) rows) ≤ 1
  one_each k [] differ = omega arith
  one_each k (row ∷ rest) differ = elim (cases_Bool (key row == k)) [
    | inl is ↦
        let same : key row ≡ k = grind (arith, nat_tests) in
        let none = none_has k rest (all_weaker (λ other. key row ≢ key other) (λ other. key other ≢ k) (λ other apart e. apart (same ∙ sym e)) rest differ.0) in
        rw is (omega (arith, none))
    | inr other ↦ rw other (one_each k rest differ.1)
  ]

  no_more : (k : ℕ) (rows : List Row) → length (filter (has k) rows) ≤ 0 → AllByRecursion (λ row. key row ≢ k) rows
  no_more k [] none = tt
  no_more k (row ∷ rest) none = elim (cases_Bool (key row == k)) [
    | inl is ↦ absurd (let some : length (row ∷ filter (has k) rest) ≤ 0 = rw is at none in omega arith)
    | inr other ↦ ((λ same. let no : (key row == k) ≡ true = grind (arith, nat_tests) in let bad : ⊥ = cc in bad), no_more k rest (rw other at none))
  ]

  tail_rises : (row : Row) (rest : List Row) → IsNonDecreasingBy key (row ∷ rest) → IsNonDecreasingBy key rest
  tail_rises row rest rises i j d le within = rises (suc i) (suc j) d (omega arith) (omega arith)

  after : (row : Row) (rest : List Row) → IsNonDecreasingBy key (row ∷ rest) → AllByRecursion (λ other. key row ≤ key other) rest
  after row rest rises = recursion_from_All (λ other. key row ≤ key other) rest (λ k d within. rises 0 (suc k) d (omega arith) (omega arith))

  fewer : (k : ℕ) (row : Row) (rest : List Row) → length (filter (has k) rest) ≤ length (filter (has k) (row ∷ rest))
  fewer k row rest = elim (cases_Bool (key row == k)) [
    | inl is ↦ rw is (omega arith)
    | inr other ↦ rw other (omega arith)
  ]

  rises_strictly : (rows : List Row) → IsNonDecreasingBy key rows → ((k : ℕ) → length (filter (has k) rows) ≤ 1) → Rises key rows
  rises_strictly [] rises few = tt
  rises_strictly (row ∷ rest) rises few =
      let here : (key row == key row) ≡ true = grind (arith, nat_tests) in
      let whole : length (row ∷ filter (has (key row)) rest) ≤ 1 = rw here at (few (key row)) in
      let apart = no_more (key row) rest (omega (arith, whole)) in (
        all_join (λ other. key row ≤ key other) (λ other. key other ≢ key row) (λ other. key row < key other) (λ other le ne. grind (arith, nat_tests)) rest (after row rest rises) apart,
        rises_strictly rest (tail_rises row rest rises) (λ k. let less = fewer k row rest in let most = few k in omega arith),
      )

  -- in order, rows of the same keys that differ are the same list
  pub in_one_order : (wanted held sorted_wanted sorted_held : List Row) → KeysDiffer key wanted → IsPermutation wanted sorted_wanted → IsPermutation held sorted_held → IsNonDecreasingBy key sorted_wanted → IsNonDecreasingBy key sorted_held
      → IsPermutation wanted held → sorted_held ≡ sorted_wanted
  in_one_order wanted held sorted_wanted sorted_held differ to_wanted to_held up_wanted up_held same =
      let few : (k : ℕ) → length (filter (has k) sorted_wanted) ≤ 1 = λ k. (let one = one_each k wanted differ in let sizes = length_permutation (filter (has k) wanted) (filter (has k) sorted_wanted) (IsPermutation-filter (has k) wanted sorted_wanted to_wanted) in omega arith) in
      let both : IsPermutation sorted_wanted sorted_held = IsPermutation-trans sorted_wanted wanted sorted_held (IsPermutation-sym wanted sorted_wanted to_wanted) (IsPermutation-trans wanted held sorted_held same to_held) in
      sorted_same key sorted_wanted sorted_held (rises_strictly sorted_wanted up_wanted few) both up_held

  pub same_in_order : (wanted held sorted_wanted sorted_held : List Row) → IsPermutation wanted sorted_wanted → IsPermutation held sorted_held → sorted_held ≡ sorted_wanted → IsPermutation wanted held
  same_in_order wanted held sorted_wanted sorted_held to_wanted to_held is =
      IsPermutation-trans wanted sorted_held held (subst (IsPermutation wanted) (sym is) to_wanted) (IsPermutation-sym held sorted_held to_held)

  pub in_strict_order : (wanted sorted : List Row) → KeysDiffer key wanted → IsPermutation wanted sorted → IsNonDecreasingBy key sorted → Rises key sorted
  in_strict_order wanted sorted differ same rises =
      rises_strictly sorted rises (λ k. (let one = one_each k wanted differ in let sizes = length_permutation (filter (has k) wanted) (filter (has k) sorted) (IsPermutation-filter (has k) wanted sorted same) in omega arith))
