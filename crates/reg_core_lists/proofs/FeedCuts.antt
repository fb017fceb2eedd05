-- A list up to the place that `position` finds.
use Rattle.std.proofs.Common.{◌≡◌, ℕ, Bool, true, false, List, take, length, Option, Some, None, refl, sym, ap}
use Rattle.std.specs.Prelude.{cond, nat_lt, unwrap_or}
use Rattle.std.specs.List.{before_first, position, position_or_len}
use Rattle.std.proofs.lemmas.Bool.{ltb-false}
use Rattle.std.proofs.lemmas.List.{take_all}

module _ {A : Type 0} (p : A → Bool) (xs : List A) where
  pub cut_at : (end : ℕ) → position p xs ≡ Some end → take end xs ≡ before_first p xs
  cut_at end is = ap (λ (n : ℕ). take n xs) (go (nat_lt (position_or_len p xs) (length xs)) is)
    where
      go : (b : Bool) → cond b (Some (position_or_len p xs)) None ≡ Some end → end ≡ position_or_len p xs
      go true is = ap (λ (o : Option ℕ). unwrap_or o end) (sym is)
      go false is = absurd (let bad : ⊥ = cc in bad)

  pub cut_nowhere : position p xs ≡ None → xs ≡ before_first p xs
  cut_nowhere is = go (nat_lt (position_or_len p xs) (length xs)) refl is
    where
      go : (b : Bool) → nat_lt (position_or_len p xs) (length xs) ≡ b → cond b (Some (position_or_len p xs)) None ≡ None
          → xs ≡ before_first p xs
      go true test is = absurd (let bad : ⊥ = cc in bad)
      go false test is = sym (take_all (position_or_len p xs) xs (ltb-false (position_or_len p xs) (length xs) test))
