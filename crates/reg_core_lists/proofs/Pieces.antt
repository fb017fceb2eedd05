-- Reading the parameters of a query, one by one.
use Rattle.std.proofs.Common.{◌≡◌, ◌≤◌, ◌<◌, ◌+◌, ◌-◌, ◌==◌, ℕ, suc, Bool, true, false, cond, List, [], ◌∷◌, length, take, drop, Option, None, Some, refl, sym, ap, ◌∙◌, arith}
use Rattle.std.specs.Prelude.{option_and_then}
use Rattle.std.specs.List.{position_or_len}
use Rattle.std.proofs.lemmas.Bool.{false≢true}
use Rattle.std.proofs.lemmas.Bool.Decides.{nat_tests}
use Rattle.reg_core_lists.specs.ListParameters.{no_params, params_from, params_of, with_parameter}
use Rattle.reg_core_lists.specs.declared.list_parameters.Params.{Params}

module _ (left : ℕ) (rest : List ℕ) (params : Params) where
  abbrev ends_at : ℕ
  ends_at = position_or_len (λ byte. byte == 38) rest

  abbrev goes_on : Params → Option Params
  goes_on more = cond (ends_at == length rest) (Some more) (params_from left (drop (ends_at + 1) rest) more)

  abbrev piece : List ℕ
  piece = take ends_at rest

  -- one piece, and what follows it
  one_piece : params_from (suc left) rest params ≡ option_and_then goes_on (with_parameter params piece)
  one_piece = refl

-- With so many pieces read, where a piece ends.
module _ (read : ℕ) (rest : List ℕ) (params : Params) (end : ℕ) (below : read < 7) (is : end ≡ position_or_len (λ byte. byte == 38) rest) where
  left_one : params_from (7 - read) rest params ≡ params_from (suc (7 - (read + 1))) rest params
  left_one = let more : 7 - read ≡ suc (7 - (read + 1)) = omega arith in ap (λ n. params_from n rest params) more

  at_piece : (found : Option Params) → found ≡ with_parameter params (take end rest) → params_from (7 - read) rest params ≡ option_and_then (goes_on (7 - (read + 1)) rest params) found
  at_piece found piece_is =
      left_one ∙ one_piece (7 - (read + 1)) rest params
      ∙ ap (option_and_then (goes_on (7 - (read + 1)) rest params)) (sym (piece_is ∙ ap (λ n. with_parameter params (take n rest)) is))

  -- it can't be read
  pub unread_piece : None ≡ with_parameter params (take end rest) → params_from (7 - read) rest params ≡ None
  unread_piece piece_is = at_piece None piece_is

  -- it is the last
  pub last_piece : (more : Params) → Some more ≡ with_parameter params (take end rest) → end ≡ length rest → params_from (7 - read) rest params ≡ Some more
  last_piece more piece_is last =
      let test : (position_or_len (λ byte. byte == 38) rest == length rest) ≡ true = grind (arith, nat_tests) in
      at_piece (Some more) piece_is ∙ ap (λ b. cond b (Some more) (params_from (7 - (read + 1)) (drop (position_or_len (λ byte. byte == 38) rest + 1) rest) more)) test

  -- more follow
  pub next_piece : (more : Params) → Some more ≡ with_parameter params (take end rest) → (end ≡ length rest → ⊥)
      → params_from (7 - read) rest params ≡ params_from (7 - (read + 1)) (drop (end + 1) rest) more
  next_piece more piece_is other =
      let test : (position_or_len (λ byte. byte == 38) rest == length rest) ≡ false = grind (arith, nat_tests) in
      at_piece (Some more) piece_is ∙ ap (λ b. cond b (Some more) (params_from (7 - (read + 1)) (drop (position_or_len (λ byte. byte == 38) rest + 1) rest) more)) test
      ∙ ap (λ n. params_from (7 - (read + 1)) (drop (n + 1) rest) more) (sym is)

-- any
pub params_of_some : (text : List ℕ) (empty : Bool) → empty ≡ (length text == 0) → empty ≡ false → params_of text ≡ params_from 7 text no_params
params_of_some [] empty is not_empty = absurd (false≢true (sym not_empty ∙ is))
params_of_some (byte ∷ text) empty is not_empty = refl

-- too many
pub too_many : (read : ℕ) (rest : List ℕ) (params : Params) → 7 ≤ read → params_from (7 - read) rest params ≡ None
too_many read rest params past = let none : 7 - read ≡ 0 = omega arith in ap (λ n. params_from n rest params) none
