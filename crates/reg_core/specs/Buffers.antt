-- The effects on a buffer of a call that succeeds or fails.
use Rattle.std.specs.Prelude.{◌≡◌, ◌<◌, ◌+◌, ◌++◌, ℕ, List, Result, Vec, IfOk, OnErr, OnOk, length, vec_capacity}

-- if the call succeeds, it has appended these items
abbrev pub AppendsOnOk : {A T E Z : Type 0} → Vec A Z → Vec A Z → Result T E → List A → Type 0
AppendsOnOk old new result items = OnOk result (new.items ≡ old.items ++ items)

-- if the call succeeds, it returns these items
abbrev pub ItemsOnOk : {A E Z : Type 0} → Result (Vec A Z) E → List A → Type 0
ItemsOnOk result items = IfOk result (λ given. given.items ≡ items)

-- the call fails only for a buffer without the capacity for these items
abbrev pub LacksCapacityFor : {A T E Z : Type 0} → Vec A Z → Result T E → List A → Type 0
LacksCapacityFor old result items = OnErr result (vec_capacity old < length old.items + length items)
