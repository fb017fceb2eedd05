-- Lists, further facts: what is found among the rows that pass a test, and where a numbered row stands.
use Rattle.std.proofs.Common.{◌≡◌, ℕ, ◌+◌, Bool, true, false, ◌&&◌, ◌==◌, nat_lt, List, [], ◌∷◌, ◌++◌, length, map, filter, find, Some, None, refl, arith}
use Rattle.std.specs.List.{AllByRecursion, list_any}
use Rattle.std.proofs.lemmas.Bool.Decides.{nat_tests}
use Rattle.reg_core.specs.Sound.{NumberedFrom, KeysDiffer}
use Rattle.reg_core_laws.proofs.Lists.{all_weaker, all_map, none_passes, any_none, numbered_above}

-- what holds of each row that passes holds of those that are kept
pub all_that_pass : {Row : Type 0} (P : Row → Type 0) (test : Row → Bool) (rows : List Row) → AllByRecursion (λ row. test row ≡ true → P row) rows
    → AllByRecursion P (filter test rows)
all_that_pass P test [] all = tt
all_that_pass P test (first ∷ rest) all = grind (arith, all.0, all_that_pass P test rest all.1)

-- where nothing is found, none passes
pub any_unfound : {Row : Type 0} (test : Row → Bool) (rows : List Row) → find test rows ≡ None → list_any test rows ≡ false
any_unfound test rows none = any_none test rows (none_passes test rows none)

-- where none passes a test, none of those that are kept by another does
any_kept : {Row : Type 0} (test keep : Row → Bool) (rows : List Row) → list_any test rows ≡ false → list_any test (filter keep rows) ≡ false
any_kept test keep [] none = refl
any_kept test keep (first ∷ rest) none = grind (arith, any_kept test keep rest)

pub any_map : {Row Other : Type 0} (test : Other → Bool) (f : Row → Other) (rows : List Row) → list_any test (map f rows) ≡ list_any (λ row. test (f row)) rows
any_map test f [] = refl
any_map test f (first ∷ rest) = cc (any_map test f rest)

pub keys_map : {Row Other : Type 0} (key : Other → ℕ) (f : Row → Other) (rows : List Row) → KeysDiffer (λ row. key (f row)) rows → KeysDiffer key (map f rows)
keys_map key f [] differ = tt
keys_map key f (first ∷ rest) differ = (all_map _ f rest differ.0, keys_map key f rest differ.1)

-- among the rows that are kept, a key is found where the row that it finds among all is kept
pub any_with_key : {Row : Type 0} (key : Row → ℕ) (keep : Row → Bool) (target : ℕ) (rows : List Row) (found : Row) → KeysDiffer key rows
    → find (λ row. key row == target) rows ≡ Some found
    → list_any (λ row. key row == target) (filter keep rows) ≡ keep found
any_with_key key keep target [] found differ is = cc
any_with_key key keep target (first ∷ rest) found differ is =
    grind (arith, nat_tests, no_other, any_with_key key keep target rest found differ.1)
  where
    no_other : key first ≡ target → list_any (λ row. key row == target) (filter keep rest) ≡ false
    no_other same = any_kept _ keep rest (any_none _ rest (all_weaker _ _ (λ row differs. grind (arith, nat_tests)) rest differ.0))

pub numbered_back : {Row : Type 0} (number : Row → ℕ) (from : ℕ) (rows more : List Row) → NumberedFrom number from (rows ++ more)
    → NumberedFrom number (from + length rows) more
numbered_back number from [] more numbered = rw (let e : from + 0 ≡ from = omega arith in e) numbered
numbered_back number from (first ∷ rest) more numbered =
    rw (let e : from + length (first ∷ rest) ≡ from + 1 + length rest = omega arith in e) (numbered_back number (from + 1) rest more numbered.1)

-- the first that passes has the least number: one that passes stands below n just where that one does
pub any_below : {Row : Type 0} (number : Row → ℕ) (test : Row → Bool) (from n : ℕ) (rows : List Row) (found : Row) → NumberedFrom number from rows
    → find test rows ≡ Some found
    → list_any (λ row. nat_lt (number row) n && test row) rows ≡ nat_lt (number found) n
any_below number test from n [] found numbered is = cc
any_below number test from n (first ∷ rest) found numbered is =
    grind (arith, nat_tests, none_later, any_below number test (from + 1) n rest found numbered.1)
  where
    none_later : nat_lt (number first) n ≡ false → list_any (λ row. nat_lt (number row) n && test row) rest ≡ false
    none_later above =
        let is_first : number first ≡ from = numbered.0 in
        any_none _ rest (all_weaker _ _ (λ row least. grind (arith, nat_tests)) rest (numbered_above number (from + 1) rest numbered.1))

-- where none passes, none passes below n
pub none_below : {Row : Type 0} (number : Row → ℕ) (test : Row → Bool) (n : ℕ) (rows : List Row) → list_any test rows ≡ false
    → list_any (λ row. nat_lt (number row) n && test row) rows ≡ false
none_below number test n [] none = refl
none_below number test n (first ∷ rest) none = grind (arith, none_below number test n rest)
