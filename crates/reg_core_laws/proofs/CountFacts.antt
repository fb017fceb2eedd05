-- Filters counted row by row, and look-ups by a key.
use Rattle.std.specs.Prelude.{find, filter, ◌==◌}
use Rattle.std.specs.List.{AllByRecursion}
use Rattle.std.proofs.Common.{◌≡◌, ◌≢◌, ℕ, ◌+◌, Bool, true, false, List, [], ◌∷◌, ◌++◌, length, Some, None, refl, ap, arith}
use Rattle.std.proofs.lemmas.Bool.Decides.{nat_tests}
use Rattle.reg_core.specs.Sound.{KeysDiffer}
use Rattle.reg_core_laws.specs.Headline.{ExactlyOne}
use Rattle.reg_core_laws.proofs.Lists.{all_weaker, filter_none, filter_same}

pub same_number : (n : ℕ) → (n == n) ≡ true
same_number n = grind (arith, nat_tests)

pub equal_numbers : (m n : ℕ) → (m == n) ≡ true → m ≡ n
equal_numbers m n e = grind (arith, nat_tests)

pub other_numbers : (m n : ℕ) → m ≢ n → (m == n) ≡ false
other_numbers m n e = grind (arith, nat_tests)

-- one where a test holds
abbrev pub one_if : Bool → ℕ
one_if true = 1
one_if false = 0

-- a filter that keeps a row is one longer
filter_length : {Row : Type 0} (p : Row → Bool) (row : Row) (rest : List Row) → length (filter p (row ∷ rest)) ≡ one_if (p row) + length (filter p rest)
filter_length p row rest = grind arith

-- where each row that passes the third test passes exactly one of the first two, so do the lengths
pub sum_of_two : {Row : Type 0} (p q r : Row → Bool) (rows : List Row) → AllByRecursion (λ row. one_if (p row) + one_if (q row) ≡ one_if (r row)) rows
    → length (filter p rows) + length (filter q rows) ≡ length (filter r rows)
sum_of_two p q r [] each = refl
sum_of_two p q r (row ∷ rest) each =
    omega (arith, each.0, filter_length p row rest, filter_length q row rest, filter_length r row rest, sum_of_two p q r rest each.1)

-- where two tests agree at each row, so do the lengths
pub same_length : {Row : Type 0} (p q : Row → Bool) (rows : List Row) → AllByRecursion (λ row. p row ≡ q row) rows
    → length (filter p rows) ≡ length (filter q rows)
same_length p q rows each = ap length (filter_same p q rows each)

-- exactly one of three tests passes at each row, so the lengths make the whole
pub sum_of_three : {Row : Type 0} (p q r : Row → Bool) (rows : List Row) → AllByRecursion (λ row. ExactlyOne (p row) (q row) (r row)) rows
    → (length (filter p rows) + length (filter q rows)) + length (filter r rows) ≡ length rows
sum_of_three p q r [] each = refl
sum_of_three p q r (row ∷ rest) each = grind (arith, each.0, sum_of_three p q r rest each.1)

-- a look-up: here, or further on
pub find_here : {Row : Type 0} (p : Row → Bool) (row : Row) (rest : List Row) → p row ≡ true → find p (row ∷ rest) ≡ Some row
find_here p row rest e = rw e

pub find_on : {Row : Type 0} (p : Row → Bool) (row : Row) (rest : List Row) → p row ≡ false → find p (row ∷ rest) ≡ find p rest
find_on p row rest e = rw e

-- none is found in the whole: none in its front
pub front_none : {Row : Type 0} (p : Row → Bool) (rows more : List Row) → find p (rows ++ more) ≡ None → find p rows ≡ None
front_none p [] more none = refl
front_none p (head ∷ rest) more none = grind (arith, front_none p rest more)

-- where the keys differ one row has a key that is found
pub one_has : {Row : Type 0} (key : Row → ℕ) (k : ℕ) (rows : List Row) (row : Row) → KeysDiffer key rows → find (λ other. key other == k) rows ≡ Some row
    → length (filter (λ other. key other == k) rows) ≡ 1
one_has key k [] row differ found = cc
one_has key k (head ∷ rest) row differ found = grind (arith, nat_tests, none, one_has key k rest row differ.1)
  where
    none : key head ≡ k → filter (λ other. key other == k) rest ≡ []
    none is = filter_none _ rest (all_weaker _ _ (λ other differs. grind (arith, nat_tests)) rest differ.0)

-- one row more, at the end
pub filter_push : {Row : Type 0} (p : Row → Bool) (rows : List Row) (row : Row) → length (filter p (rows ++ row ∷ [])) ≡ length (filter p rows) + one_if (p row)
filter_push p [] row = grind arith
filter_push p (head ∷ rest) row = grind (arith, filter_push p rest row)
