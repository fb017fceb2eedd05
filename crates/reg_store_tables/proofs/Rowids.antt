-- Rows with the rowids that count them.
use Rattle.std.proofs.Common.{◌≡◌, ◌+◌, ℕ, List, [], ◌∷◌, map, length, refl, ap, arith}
use Rattle.sqlite_value.specs.Order.{Row}
use Rattle.reg_core.specs.Sound.{NumberedFrom}
use Rattle.reg_store_tables.specs.Rows.{number, behind_rowids}

abbrev pub with_rowids : {A : Type 0} → ℕ → List A → List (ℕ × A)
with_rowids from [] = []
with_rowids from (x ∷ xs) = (from, x) ∷ with_rowids (from + 1) xs

abbrev pub behind : {A : Type 0} → (A → Row) → ℕ × A → Row
behind stored row = number row.0 ∷ stored row.1

pub rowids_are : {A : Type 0} (stored : A → Row) (from : ℕ) (xs : List A) → behind_rowids from (map stored xs) ≡ map (behind stored) (with_rowids from xs)
rowids_are stored from [] = refl
rowids_are stored from (x ∷ xs) = ap (λ (l : List Row). behind stored (from, x) ∷ l) (rowids_are stored (from + 1) xs)

pub rowids_numbered : {A : Type 0} (from : ℕ) (xs : List A) → NumberedFrom (λ (row : ℕ × A). row.0) from (with_rowids from xs)
rowids_numbered from [] = tt
rowids_numbered from (x ∷ xs) = (refl, rowids_numbered (from + 1) xs)

pub length-with_rowids : {A : Type 0} (from : ℕ) (xs : List A) → length (with_rowids from xs) ≡ length xs
length-with_rowids from [] = refl
length-with_rowids from (x ∷ xs) = let more = length-with_rowids (from + 1) xs in omega arith
