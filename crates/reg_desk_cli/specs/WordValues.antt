-- The values that a word of the command line can have.
use Rattle.std.specs.Prelude.{ℕ, ◌==◌, ◌&&◌, List, [], ◌∷◌, nat_le, if◌then◌else◌, Option, Some, None, option_map, option_and_then}
use Rattle.std.specs.List.{before_first, after_first}
use Rattle.reg_core.specs.Calendar.{moment_of}
use Rattle.reg_core.specs.Number.{number_of}
use Rattle.reg_desk_cli.specs.declared.job.OrderTerms.{OrderTerms}

-- the number, if it is within the bounds
abbrev pub within : ℕ → ℕ → ℕ → Option ℕ
within least most n = if nat_le least n && nat_le n most then Some n else None

-- the step with this moment and these days; none if the first text is no moment, or the second no number
abbrev pub step_from : List ℕ → List ℕ → Option (ℕ × ℕ)
step_from from days =
    option_and_then (λ days. option_map (λ from. (from, days)) (moment_of from)) (number_of days)

-- `MOMENT=DAYS` (61 is the code of `=`): a step of a schedule
unfoldable pub step_of : List ℕ → Option (ℕ × ℕ)
step_of text = step_from (before_first (λ b. b == 61) text) (after_first (λ b. b == 61) text)

-- the terms of an order, if there are two texts, both numbers: the subscriber's id and the days
abbrev pub order_terms_of : List (List ℕ) → Option OrderTerms
order_terms_of (subscriber ∷ days ∷ []) =
    option_and_then
    (λ subscriber. option_map (λ days. record { subscriber = subscriber; days = days }) (number_of days))
    (number_of subscriber)
order_terms_of [] = None
order_terms_of (text ∷ []) = None
order_terms_of (first ∷ second ∷ third ∷ rest) = None

-- the steps that the texts are; none if one of them is no step
abbrev pub steps_of : List (List ℕ) → Option (List (ℕ × ℕ))
steps_of [] = Some []
steps_of (text ∷ rest) =
    option_and_then (λ step. option_map (λ steps. step ∷ steps) (steps_of rest)) (step_of text)
