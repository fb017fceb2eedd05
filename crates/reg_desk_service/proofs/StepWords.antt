-- The steps of a schedule, read one field after the other.
use Rattle.std.proofs.Common.{◌≡◌, ℕ, List, [], ◌∷◌, ◌++◌, Option, Some, None, append-nil, refl, sym, ap, ◌∙◌}
use Rattle.std.specs.Prelude.{option_map, option_and_then}
use Rattle.reg_desk_cli.specs.WordValues.{step_of, steps_of}
use Rattle.reg_desk_cli.proofs.PublicLaws.{shifted}

-- all fields are these steps and what the fields are that are left
abbrev pub SoFar : List (List ℕ) → List (List ℕ) → List (ℕ × ℕ) → Type 0
SoFar fields left steps = steps_of fields ≡ option_map (λ rest. steps ++ rest) (steps_of left)

steps_alone : (o : Option (List (ℕ × ℕ))) → o ≡ option_map (λ rest. [] ++ rest) o
steps_alone None = refl
steps_alone (Some steps) = refl

pub begins : (fields : List (List ℕ)) (steps : List (ℕ × ℕ)) → steps ≡ [] → SoFar fields fields steps
begins fields steps none = rw none (steps_alone (steps_of fields))

-- the fields from one on
from_here : (left next : List (List ℕ)) (field : List ℕ) (step : Option (ℕ × ℕ)) → left ≡ field ∷ next → step ≡ step_of field
    → steps_of left ≡ option_and_then (λ s. option_map (λ rest. s ∷ rest) (steps_of next)) step
from_here left next field step are is =
    ap steps_of are ∙ ap (λ o. option_and_then (λ s. option_map (λ rest. s ∷ rest) (steps_of next)) o) (sym is)

-- a field that is a step
pub goes_on : (fields left next : List (List ℕ)) (steps more : List (ℕ × ℕ)) (step : ℕ × ℕ) (field : List ℕ) → SoFar fields left steps
    → left ≡ field ∷ next → Some step ≡ step_of field → more ≡ steps ++ step ∷ [] → SoFar fields next more
goes_on fields left next steps more step field so are is pushed =
    so ∙ ap (λ o. option_map (λ rest. steps ++ rest) o) (from_here left next field (Some step) are is)
    ∙ shifted steps step (steps_of next)
    ∙ ap (λ l. option_map (λ rest. l ++ rest) (steps_of next)) (sym pushed)

-- one that is none
pub breaks : (fields left next : List (List ℕ)) (steps : List (ℕ × ℕ)) (field : List ℕ) → SoFar fields left steps
    → left ≡ field ∷ next → None ≡ step_of field → None ≡ steps_of fields
breaks fields left next steps field so are is = sym (so ∙ ap (λ o. option_map (λ rest. steps ++ rest) o) (from_here left next field None are is))

-- no field is left
pub ends : (fields left : List (List ℕ)) (steps : List (ℕ × ℕ)) → SoFar fields left steps → left ≡ [] → Some steps ≡ steps_of fields
ends fields left steps so none = sym (so ∙ ap (λ l. option_map (λ rest. steps ++ rest) (steps_of l)) none ∙ ap (λ l. Some l) (append-nil steps))
