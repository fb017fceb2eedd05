-- How many rows a query answers at most.
use Rattle.std.proofs.Common.{◌≡◌, ◌≢◌, ◌≤◌, ◌<◌, ◌==◌, ℕ, Bool, true, List, [], ◌∷◌, map, take, length, refl, sym, ap, subst, arith, inl, inr}
use Rattle.std.specs.List.{filter, AllByRecursion}
use Rattle.std.proofs.lemmas.Bool.{cases_Bool}
use Rattle.std.proofs.lemmas.List.{length-map}
use Rattle.std.proofs.lemmas.List.Sorted.{length_permutation}
use Rattle.sqlite_value.specs.Order.{Row}
use Rattle.sqlite_value.specs.declared.keys.Key.{Key}
use Rattle.sqlite_sql.specs.Term.{Term}
use Rattle.sqlite_sql.specs.Query.{Output}
use Rattle.reg_core.specs.Sound.{NumberedFrom, KeysDiffer}
use Rattle.reg_core_laws.proofs.PublicLaws.{equal_numbers}
use Rattle.reg_store_tables.proofs.Queries.{selects, no_limit, Given}
use Rattle.reg_store_tables.proofs.Sorting.{Rises}
use Rattle.reg_store_tables.proofs.Greatest.{numbered_rises}

-- ---- of rows whose keys differ at most one has a key

module _ {A Key : Type 0} (key : A → Key) (k : Key) (keep : A → Bool) (is : (a : A) → keep a ≡ true → key a ≡ k) where
  nobody : (xs : List A) → AllByRecursion (λ other. k ≢ key other) xs → length (filter keep xs) ≡ 0
  nobody [] all = refl
  nobody (x ∷ xs) all = elim (cases_Bool (keep x)) [
    | inl kept ↦ absurd (all.0 (sym (is x kept)))
    | inr lost ↦ rw lost (nobody xs all.1)
  ]

  pub at_most_one : (xs : List A) → KeysDiffer key xs → length (filter keep xs) ≤ 1
  at_most_one [] differ = omega arith
  at_most_one (x ∷ xs) differ = elim (cases_Bool (keep x)) [
    | inl kept ↦
        let none = nobody xs (subst (λ n. AllByRecursion (λ other. n ≢ key other) xs) (is x kept) differ.0) in
        rw kept (omega (arith, none))
    | inr lost ↦ rw lost (at_most_one xs differ.1)
  ]

-- at most one row has a number
pub one_number : {A : Type 0} (n : A → ℕ) (k : ℕ) (xs : List A) → KeysDiffer n xs → length (filter (λ a. n a == k) xs) ≤ 1
one_number n k xs = at_most_one n k (λ a. n a == k) (λ a same. equal_numbers (n a) k same) xs

module _ {A : Type 0} (n : A → ℕ) where
  apart : (x : A) (xs : List A) → AllByRecursion (λ a. n x < n a) xs → AllByRecursion (λ a. n x ≢ n a) xs
  apart x [] all = tt
  apart x (y ∷ xs) all = ((λ same. absurd (let above = all.0 in omega arith)), apart x xs all.1)

  rises_differ : (xs : List A) → Rises n xs → KeysDiffer n xs
  rises_differ [] rises = tt
  rises_differ (x ∷ xs) rises = (apart x xs rises.0, rises_differ xs rises.1)

  -- numbers that rise by one differ
  pub numbers_differ : (from : ℕ) (xs : List A) → NumberedFrom n from xs → KeysDiffer n xs
  numbers_differ from xs numbered = rises_differ xs (numbered_rises n from xs numbered)

-- ---- of the rows of an answer

pub fewer : {A : Type 0} (keep : A → Bool) (xs : List A) → length (filter keep xs) ≤ length xs
fewer keep [] = omega arith
fewer keep (x ∷ xs) = let rest = fewer keep xs in elim (cases_Bool (keep x)) [
  | inl kept ↦ rw kept (omega arith)
  | inr lost ↦ rw lost (omega arith)
]

pub mapped : {A B : Type 0} (f : A → B) (xs : List A) → length (map f xs) ≡ length xs
mapped f xs = rw length-map refl

-- as many rows as are kept
pub given_few : {A : Type 0} (keep : A → Bool) (out : A → Output) (xs : List A) (tree : ℕ) (terms project : List Term) (order : List (Term × Key)) (params : Row) (rows : List Row)
    → Given keep out xs (selects tree terms project order no_limit) params rows → length (filter keep xs) ≤ 1 → length rows ≤ 1
given_few keep out xs tree terms project order params rows g few =
    let shown : length rows ≡ length (map (λ a. (out a).1) g.to) = ap length g.shown in
    let sizes = mapped (λ a. (out a).1) g.to in
    let same = length_permutation (filter keep xs) g.to g.same in
    omega (arith, few)

-- no more than the limit
pub taken_few : (rows all : List Row) → rows ≡ take 1 all → length rows ≤ 1
taken_few rows [] is = let none = ap length is in omega (arith, none)
taken_few rows (row ∷ all) is = let one : length rows ≡ length (row ∷ []) = ap length is in omega (arith, one)

-- what holds of each both ways
pub all_both : {A : Type 0} (P Q : A → Type 0) (xs : List A) → AllByRecursion P xs → AllByRecursion Q xs → AllByRecursion (λ x. P x × Q x) xs
all_both P Q [] first second = tt
all_both P Q (x ∷ xs) first second = ((first.0, second.0), all_both P Q xs first.1 second.1)

pub both_all : {A : Type 0} (P Q : A → Type 0) (xs : List A) → AllByRecursion (λ x. P x × Q x) xs → AllByRecursion P xs × AllByRecursion Q xs
both_all P Q [] all = (tt, tt)
both_all P Q (x ∷ xs) all = let rest = both_all P Q xs all.1 in ((all.0.0, rest.0), (all.0.1, rest.1))
