use Rattle.std.specs.Prelude.{◌≡◌, ℕ, ◌≤◌, ◌<◌, max, nat_le, nat_eq, Bool, ◌&&◌, List, [], ◌∷◌, length, filter}
use Rattle.std.specs.List.{AllByRecursion}
use Rattle.std.specs.Cmp.{IsEquivalence, IsPartialEquivalence, partial_equiv_from_equiv, and_equiv, on_equiv, nat_eq_equiv}
use Rattle.std.specs.Cmp.Lexicographic.{pointwise, lists_equiv}

-- the moments of the steps ascend strictly
abbrev pub Ascends : List (ℕ × ℕ) → Type 0
Ascends [] = Unit {0}
Ascends (step ∷ []) = Unit {0}
Ascends (step ∷ next ∷ rest) = (step.0 < next.0) × Ascends (next ∷ rest)

-- the first step, if there is one, is at moment 0
abbrev pub BeginsAtZero : List (ℕ × ℕ) → Type 0
BeginsAtZero [] = Unit {0}
BeginsAtZero (step ∷ rest) = step.0 ≡ 0

-- days of validity: 1 to 398, the maximum of the CA/Browser Forum Baseline Requirements 6.3.2
abbrev pub IsDays : ℕ → Type 0
IsDays days = (1 ≤ days) × (days ≤ 398)

-- the days of a step are 1 to 398
abbrev pub HasDays : ℕ × ℕ → Type 0
HasDays step = IsDays step.1

-- a schedule: 1 to 16 steps, each a moment and the days of validity from then on; the first moment is 0, the moments ascend strictly,
-- and the days are 1 to 398
pub record IsSchedule (steps : List (ℕ × ℕ)) : Type 0 where
  pub not_empty : 1 ≤ length steps
  pub at_most_16 : length steps ≤ 16
  pub begins_at_zero : BeginsAtZero steps
  pub ascending : Ascends steps
  pub days : AllByRecursion HasDays steps

-- the days of the last step; 0 if there are no steps
abbrev pub days_of_last : List (ℕ × ℕ) → ℕ
days_of_last [] = 0
days_of_last (step ∷ []) = step.1
days_of_last (step ∷ next ∷ rest) = days_of_last (next ∷ rest)

-- the longest validity, in days, for a notBefore at this moment: the days of the last step that is not after the moment
abbrev pub longest_at : List (ℕ × ℕ) → ℕ → ℕ
longest_at steps moment = days_of_last (filter (λ step. nat_le step.0 moment) steps)

-- the most days of any step; 0 if there are no steps
abbrev pub greatest_of : List (ℕ × ℕ) → ℕ
greatest_of [] = 0
greatest_of (step ∷ rest) = max step.1 (greatest_of rest)

-- a schedule with the same days for all moments
abbrev pub one_step : ℕ → List (ℕ × ℕ)
one_step days = (0, days) ∷ []

-- two steps have the same moment and days
abbrev pub same_step : ℕ × ℕ → ℕ × ℕ → Bool
same_step left right = nat_eq left.0 right.0 && nat_eq left.1 right.1

-- the same steps in the same order
abbrev pub same_steps : List (ℕ × ℕ) → List (ℕ × ℕ) → Bool
same_steps left right = pointwise same_step left right

-- `same_steps` is an equivalence, which `Eq` requires
pub same_steps_equivalence : IsEquivalence same_steps
same_steps_equivalence =
    lists_equiv (and_equiv (on_equiv (λ (step : ℕ × ℕ). step.0) nat_eq_equiv)
    (on_equiv (λ (step : ℕ × ℕ). step.1) nat_eq_equiv))

-- `same_steps` is symmetric and transitive, which `PartialEq` requires
pub same_steps_both_ways : IsPartialEquivalence same_steps
same_steps_both_ways = partial_equiv_from_equiv same_steps_equivalence
