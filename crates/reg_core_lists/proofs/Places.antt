-- The index of the first item of a list that passes a test.
use Rattle.std.proofs.Common.{◌≡◌, ℕ, Bool, not, List, length, None, Some, arith}
use Rattle.std.specs.List.{position, position_or_len}
use Rattle.std.proofs.lemmas.Bool.Decides.{nat_tests}
use Rattle.std.proofs.lemmas.List.Sums.{prefix_len-le-length}

module _ {X : Type 0} (p : X → Bool) (xs : List X) where
  -- where it does
  pub at_place : (index : ℕ) → Some index ≡ position p xs → index ≡ position_or_len p xs
  at_place index is = grind arith

  -- where it does not
  pub at_end : None ≡ position p xs → length xs ≡ position_or_len p xs
  at_end none = grind (arith, nat_tests, prefix_len-le-length (λ x. not (p x)) xs)
