-- The steps of a schedule, read one text after the other.
use Rattle.std.proofs.Common.{◌≡◌, ℕ, suc, ◌+◌, ◌-◌, ◌<◌, ◌≤◌, Bool, true, false, cond, nat_lt, position, List, [], ◌∷◌, ◌++◌, map, length, take, drop, get_or, Option, Some, None, Bor, refl, sym, ap, ◌∙◌, add-one, append-nil, append_assoc, drop-cons, drop_of_length-le, arith}
use Rattle.std.specs.Prelude.{option_map, option_and_then, ◌==◌}
use Rattle.std.specs.List.{after_first, position_or_len}
use Rattle.std.proofs.lemmas.List.{take_rest}
use Rattle.std.proofs.lemmas.Bool.{ltb-false}
use Rattle.reg_core.specs.Number.{number_of}
use Rattle.reg_desk_cli.specs.WordValues.{step_of, step_from, steps_of}

abbrev pub texts_of : List (Bor (List ℕ)) → List (List ℕ)
texts_of texts = map (λ text. text.now) texts

-- the texts up to an index are these steps
abbrev pub SoFar : List (Bor (List ℕ)) → ℕ → List (ℕ × ℕ) → Type 0
SoFar texts at steps = steps_of (texts_of texts) ≡ option_map (λ rest. steps ++ rest) (steps_of (texts_of (drop at texts)))

pub begins : (texts : List (Bor (List ℕ))) → SoFar texts 0 []
begins texts = steps_alone (steps_of (texts_of texts))
  where
    steps_alone : (o : Option (List (ℕ × ℕ))) → o ≡ option_map (λ rest. [] ++ rest) o
    steps_alone None = refl
    steps_alone (Some steps) = refl

-- the texts from an index on
from_here : (texts : List (Bor (List ℕ))) (at : ℕ) (d : Bor (List ℕ)) (step : Option (ℕ × ℕ)) → at < length texts
    → step ≡ step_of (get_or texts at d).now
    → steps_of (texts_of (drop at texts)) ≡ option_and_then (λ s. option_map (λ rest. s ∷ rest) (steps_of (texts_of (drop (suc at) texts)))) step
from_here texts at d step within is =
    ap (λ l. steps_of (texts_of l)) (drop-cons texts at d within)
    ∙ ap (λ o. option_and_then (λ s. option_map (λ rest. s ∷ rest) (steps_of (texts_of (drop (suc at) texts)))) o) (sym is)

pub shifted : (steps : List (ℕ × ℕ)) (step : ℕ × ℕ) (o : Option (List (ℕ × ℕ)))
    → option_map (λ rest. steps ++ rest) (option_map (λ rest. step ∷ rest) o) ≡ option_map (λ rest. (steps ++ step ∷ []) ++ rest) o
shifted steps step None = refl
shifted steps step (Some rest) = ap (λ l. Some l) (sym (append_assoc steps (step ∷ []) rest))

-- a text that is a step
pub goes_on : (texts : List (Bor (List ℕ))) (at : ℕ) (d : Bor (List ℕ)) (steps more : List (ℕ × ℕ)) (step : ℕ × ℕ) → at < length texts
    → Some step ≡ step_of (get_or texts at d).now → more ≡ steps ++ step ∷ [] → SoFar texts at steps → SoFar texts (at + 1) more
goes_on texts at d steps more step within is pushed so =
    so ∙ ap (λ o. option_map (λ rest. steps ++ rest) o) (from_here texts at d (Some step) within is)
    ∙ shifted steps step (steps_of (texts_of (drop (suc at) texts)))
    ∙ ap (λ l. option_map (λ rest. l ++ rest) (steps_of (texts_of (drop (suc at) texts)))) (sym pushed)
    ∙ ap (λ k. option_map (λ rest. more ++ rest) (steps_of (texts_of (drop k texts)))) (sym (add-one at))

-- a text that is no step
pub breaks : (texts : List (Bor (List ℕ))) (at : ℕ) (d : Bor (List ℕ)) (steps : List (ℕ × ℕ)) → at < length texts
    → None ≡ step_of (get_or texts at d).now → SoFar texts at steps → None ≡ steps_of (texts_of texts)
breaks texts at d steps within is so =
    sym (so ∙ ap (λ o. option_map (λ rest. steps ++ rest) o) (from_here texts at d None within is))

-- no text is left
pub ends : (texts : List (Bor (List ℕ))) (at : ℕ) (steps : List (ℕ × ℕ)) → length texts ≤ at → SoFar texts at steps → Some steps ≡ steps_of (texts_of texts)
ends texts at steps past so =
    sym (so ∙ ap (λ l. option_map (λ rest. steps ++ rest) (steps_of (texts_of l))) (drop_of_length-le texts past) ∙ ap (λ l. Some l) (append-nil steps))

abbrev is_equals : ℕ → Bool
is_equals byte = byte == 61

-- a text without `=` is no step
no_number : number_of [] ≡ None
unfolding number_of
no_number = refl

none_by : (text : List ℕ) (b : Bool) → nat_lt (position_or_len is_equals text) (length text) ≡ b
    → None ≡ cond b (Some (position_or_len is_equals text)) None → None ≡ step_of text
unfolding step_of
none_by text true e found = cc
none_by text false e found =
    let nothing : after_first is_equals text ≡ [] = drop_of_length-le text (omega (arith, ltb-false _ _ e)) in
    rw (nothing, no_number) refl

pub no_step : (text : List ℕ) → None ≡ position is_equals text → None ≡ step_of text
no_step text found = none_by text _ refl found

-- the moment is before the `=`, and the days after it
place_by : (text : List ℕ) (n : ℕ) (b : Bool) → nat_lt (position_or_len is_equals text) (length text) ≡ b
    → Some n ≡ cond b (Some (position_or_len is_equals text)) None → n ≡ position_or_len is_equals text
place_by text n true e found = cc
place_by text n false e found = cc

pub step_cut : (text : List ℕ) (n : ℕ) (step : Option (ℕ × ℕ)) → Some n ≡ position is_equals text
    → step ≡ step_from (take n text) (take (length text - (n + 1)) (drop (n + 1) text)) → step ≡ step_of text
unfolding step_of
step_cut text n step found is =
    is ∙ ap (λ l. step_from (take n text) l) (take_rest text (n + 1))
    ∙ ap (λ k. step_from (take k text) (drop (k + 1) text)) (place_by text n _ refl found)
