use Rattle.std.proofs.Common.{◌≡◌, ◌↔◌, ℕ, zero, suc, ◌+◌, ◌≤◌, ◌<◌, max, nat_le, Bool, true, false, cond, List, [], ◌∷◌, ◌++◌, length, take, get_or, refl, sym, ◌∙◌, ap, arith, add-one, append-nil}
use Rattle.std.specs.Prelude.{filter}
use Rattle.std.specs.Bool.{IsTrue}
use Rattle.std.specs.Ordering.{nat_cmp, is_lt, is_le, ord_max}
use Rattle.std.specs.List.{AllByRecursion, AllAdjacentBelow, IsAllAdjacentAnswer}
use Rattle.std.proofs.lemmas.Bool.Decides.{nat_tests}
use Rattle.std.proofs.lemmas.List.{take_more, take_all}
use Rattle.std.proofs.lemmas.List.Elements.{filter-append}
use Rattle.reg_core.specs.Schedule.{IsSchedule, Ascends, HasDays, days_of_last, longest_at, greatest_of}

-- ---- equality of steps

-- ---- rising moments

-- Moments that rise from each step to the next.
pub ascends_of_neighbours
    : (steps : List (ℕ × ℕ)) → AllAdjacentBelow (λ (earlier later : ℕ × ℕ). earlier.0 < later.0) steps (length steps) → Ascends steps
ascends_of_neighbours [] rise = tt
ascends_of_neighbours (step ∷ []) rise = tt
ascends_of_neighbours (step ∷ next ∷ rest) rise = (
  rise 0 step (omega arith),
  ascends_of_neighbours (next ∷ rest)
      (λ k d within. rw (add-one k) (rw (add-one (suc k)) at (rise (suc k) d (omega arith)))),
)

-- And each two neighbours of rising moments.
pub neighbours_of_ascends
    : (steps : List (ℕ × ℕ)) → Ascends steps → AllAdjacentBelow (λ (earlier later : ℕ × ℕ). earlier.0 < later.0) steps (length steps)
neighbours_of_ascends [] rise k d within = absurd (omega arith)
neighbours_of_ascends (step ∷ []) rise k d within = absurd (omega arith)
neighbours_of_ascends (step ∷ next ∷ rest) rise zero d within = rise.0
neighbours_of_ascends (step ∷ next ∷ rest) rise (suc k) d within = rw (add-one (suc k)) (rw (add-one k) at (neighbours_of_ascends (next ∷ rest) rise.1 k d (omega arith)))

-- What the test of two moments tells.
pub before_from_test : (earlier later : ℕ) → is_lt (nat_cmp earlier later) ≡ true → earlier < later
before_from_test earlier later tested = grind (arith, nat_tests)

pub test_from_before : (earlier later : ℕ) → earlier < later → is_lt (nat_cmp earlier later) ≡ true
test_from_before earlier later before = grind (arith, nat_tests)

-- What the test of each two neighbours tells.
pub ascends_tested
    : (steps : List (ℕ × ℕ)) (risen : Bool)
    → IsAllAdjacentAnswer (λ (earlier later : ℕ × ℕ) answer. answer ≡ is_lt (nat_cmp earlier.0 later.0)) steps risen
    → IsTrue risen ↔ Ascends steps
ascends_tested steps true tested = (
  λ _. ascends_of_neighbours steps (λ k d within. before_from_test (get_or steps k d).0 (get_or steps (k + 1) d).0 (sym (tested k d within))),
  λ _. refl,
)
ascends_tested steps false tested = (
  λ bad. absurd (let clash : false ≡ true = bad in cc),
  λ rise.
      let first = get_or steps tested.0 (0, 0) in
      let second = get_or steps (tested.0 + 1) (0, 0) in
      let before : first.0 < second.0 = neighbours_of_ascends steps rise tested.0 (0, 0) tested.1 in
      absurd (let clash : false ≡ true = tested.2 (0, 0) ∙ test_from_before first.0 second.0 before in cc),
)

-- ---- the longest validity

pub days_of_last-push : (steps : List (ℕ × ℕ)) (step : ℕ × ℕ) → days_of_last (steps ++ step ∷ []) ≡ step.1
days_of_last-push [] step = refl
days_of_last-push (first ∷ []) step = refl
days_of_last-push (first ∷ next ∷ rest) step = days_of_last-push (next ∷ rest) step

-- One more step decides the longest validity at moments from it on.
pub longest_at-push
    : (steps : List (ℕ × ℕ)) (step : ℕ × ℕ) (moment : ℕ)
    → longest_at (steps ++ step ∷ []) moment ≡ cond (nat_le step.0 moment) step.1 (longest_at steps moment)
longest_at-push steps step moment =
    ap days_of_last (filter-append (λ (other : ℕ × ℕ). nat_le other.0 moment) steps (step ∷ []))
    ∙ go (nat_le step.0 moment)
  where
    go
        : (reached : Bool)
        → days_of_last (filter (λ other. nat_le other.0 moment) steps ++ cond reached (step ∷ []) [])
        ≡ cond reached step.1 (days_of_last (filter (λ other. nat_le other.0 moment) steps))
    go true = days_of_last-push (filter (λ other. nat_le other.0 moment) steps) step
    go false = ap days_of_last (append-nil (filter (λ other. nat_le other.0 moment) steps))

-- The steps up to one more.
pub longest_more
    : (steps : List (ℕ × ℕ)) (at : ℕ) (d : ℕ × ℕ) (moment : ℕ)
    → at < length steps
    → longest_at (take (at + 1) steps) moment
    ≡ cond (nat_le (get_or steps at d).0 moment) (get_or steps at d).1 (longest_at (take at steps) moment)
longest_more steps at d moment within =
    ap (λ begun. longest_at begun moment) (take_more steps at d within) ∙ longest_at-push (take at steps) (get_or steps at d) moment

-- One turn of the loop that looks for it: at a step that the moment has reached, and at one that it hasn't.
pub longest_reached
    : (steps : List (ℕ × ℕ)) (at : ℕ) (step : ℕ × ℕ) (moment days : ℕ)
    → at < length steps
    → step ≡ get_or steps at step
    → is_le (nat_cmp step.0 moment) ≡ true
    → step.1 ≡ longest_at (take (at + 1) steps) moment
longest_reached steps at step moment days within is tested =
    let reached : nat_le step.0 moment ≡ true = grind (arith, nat_tests) in
    sym (rw reached at (rw (← is) at (longest_more steps at step moment within)))

pub longest_not_reached
    : (steps : List (ℕ × ℕ)) (at : ℕ) (step : ℕ × ℕ) (moment days : ℕ)
    → at < length steps
    → step ≡ get_or steps at step
    → is_le (nat_cmp step.0 moment) ≡ false
    → days ≡ longest_at (take at steps) moment
    → days ≡ longest_at (take (at + 1) steps) moment
longest_not_reached steps at step moment days within is tested counted =
    let reached : nat_le step.0 moment ≡ false = grind (arith, nat_tests) in
    counted ∙ sym (rw reached at (rw (← is) at (longest_more steps at step moment within)))

-- The loop's end.
pub longest_whole
    : (steps : List (ℕ × ℕ)) (at moment days : ℕ)
    → length steps ≤ at
    → days ≡ longest_at (take at steps) moment
    → days ≡ longest_at steps moment
longest_whole steps at moment days over counted = counted ∙ ap (λ begun. longest_at begun moment) (take_all at steps over)

-- ---- the greatest days

pub greatest_of-push
    : (steps : List (ℕ × ℕ)) (step : ℕ × ℕ) → greatest_of (steps ++ step ∷ []) ≡ max (greatest_of steps) step.1
greatest_of-push [] step = omega arith
greatest_of-push (first ∷ rest) step = omega (arith, greatest_of-push rest step)

pub greatest_more
    : (steps : List (ℕ × ℕ)) (at : ℕ) (d : ℕ × ℕ)
    → at < length steps
    → greatest_of (take (at + 1) steps) ≡ max (greatest_of (take at steps)) (get_or steps at d).1
greatest_more steps at d within = ap greatest_of (take_more steps at d within) ∙ greatest_of-push (take at steps) (get_or steps at d)

-- The greater of two numbers, by their order.
greater_is_max : (left right : ℕ) → ord_max nat_cmp left right ≡ max left right
greater_is_max left right = go (is_lt (nat_cmp right left)) refl
  where
    go : (below : Bool) → is_lt (nat_cmp right left) ≡ below → cond below left right ≡ max left right
    go true tested = omega (arith, before_from_test right left tested)
    go false tested = let over : left ≤ right = grind (arith, nat_tests) in omega arith

-- One turn of the loop that looks for them.
pub greatest_stepped
    : (steps : List (ℕ × ℕ)) (at : ℕ) (step : ℕ × ℕ) (days next : ℕ)
    → at < length steps
    → step ≡ get_or steps at step
    → days ≡ greatest_of (take at steps)
    → next ≡ ord_max nat_cmp days step.1
    → next ≡ greatest_of (take (at + 1) steps)
greatest_stepped steps at step days next within is counted greater =
    greater
    ∙ greater_is_max days step.1
    ∙ sym ((rw (← is) at (greatest_more steps at step within)) ∙ ap (λ most. max most step.1) (sym counted))

-- ---- ranges

-- No days are more than the greatest.
pub greatest_at_most_398 : (steps : List (ℕ × ℕ)) → AllByRecursion HasDays steps → greatest_of steps ≤ 398
greatest_at_most_398 [] days = omega arith
greatest_at_most_398 (step ∷ rest) days = omega (arith, days.0.1, greatest_at_most_398 rest days.1)

last_at_most_greatest : (steps : List (ℕ × ℕ)) → days_of_last steps ≤ greatest_of steps
last_at_most_greatest [] = omega arith
last_at_most_greatest (step ∷ []) = omega arith
last_at_most_greatest (step ∷ next ∷ rest) = omega (arith, last_at_most_greatest (next ∷ rest))

greatest_of-filter : (test : ℕ × ℕ → Bool) (steps : List (ℕ × ℕ)) → greatest_of (filter test steps) ≤ greatest_of steps
greatest_of-filter test [] = omega arith
greatest_of-filter test (step ∷ rest) = go (greatest_of-filter test rest) (test step)
  where
    go
        : greatest_of (filter test rest) ≤ greatest_of rest
        → (passes : Bool)
        → greatest_of (cond passes (step ∷ filter test rest) (filter test rest)) ≤ max step.1 (greatest_of rest)
    go below true = omega arith
    go below false = omega arith

-- The longest validity is never over the greatest days.
pub longest_at_most_greatest : (steps : List (ℕ × ℕ)) (moment : ℕ) → longest_at steps moment ≤ greatest_of steps
longest_at_most_greatest steps moment =
    let reached = filter (λ (step : ℕ × ℕ). nat_le step.0 moment) steps in
    omega (arith, last_at_most_greatest reached, greatest_of-filter (λ (step : ℕ × ℕ). nat_le step.0 moment) steps)

days_of_filter : (test : ℕ × ℕ → Bool) (steps : List (ℕ × ℕ)) → AllByRecursion HasDays steps → AllByRecursion HasDays (filter test steps)
days_of_filter test [] days = tt
days_of_filter test (step ∷ rest) days = go (days_of_filter test rest days.1) (test step)
  where
    go
        : AllByRecursion HasDays (filter test rest)
        → (passes : Bool)
        → AllByRecursion HasDays (cond passes (step ∷ filter test rest) (filter test rest))
    go kept true = (days.0, kept)
    go kept false = kept

last_at_least_1 : (step : ℕ × ℕ) (rest : List (ℕ × ℕ)) → AllByRecursion HasDays (step ∷ rest) → 1 ≤ days_of_last (step ∷ rest)
last_at_least_1 step [] days = days.0.0
last_at_least_1 step (next ∷ rest) days = last_at_least_1 next rest days.1

-- From its beginning on a schedule has a longest validity.
pub longest_at_least_1 : (steps : List (ℕ × ℕ)) (moment : ℕ) → IsSchedule steps → 1 ≤ longest_at steps moment
longest_at_least_1 [] moment schedule = absurd (let bad : 1 ≤ 0 = schedule.not_empty in omega arith)
longest_at_least_1 (step ∷ rest) moment schedule =
    let test : ℕ × ℕ → Bool = λ other. nat_le other.0 moment in
    let reached : nat_le step.0 moment ≡ true = rw schedule.begins_at_zero (grind (arith, nat_tests)) in
    rw reached (last_at_least_1 step (filter test rest) (schedule.days.0, days_of_filter test rest schedule.days.1))

pub greatest_at_most_398_of : (steps : List (ℕ × ℕ)) → IsSchedule steps → greatest_of steps ≤ 398
greatest_at_most_398_of steps schedule = greatest_at_most_398 steps schedule.days

-- ---- one step
