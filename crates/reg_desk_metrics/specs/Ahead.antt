-- Whether the clock is too far ahead of the register.
use Rattle.std.specs.Prelude.{ℕ, Bool, true, false, ◌||◌, not, ◌==◌, ◌-◌, nat_lt, if◌then◌else◌, Some, None}
use Rattle.std.specs.declared.option.Option.{Option}

-- the clock is more than 30 days past a moment
abbrev pub is_far : ℕ → ℕ → Bool
is_far now moment = nat_lt 2592000 (now - moment)

-- the clock is more than 30 days past the moment that the operator accepted, or there is no such moment
abbrev pub is_far_from : ℕ → Option ℕ → Bool
is_far_from now (Some moment) = is_far now moment
is_far_from now None = true

-- a command was accepted, the clock is more than 30 days past its moment (`last`), and `is_far_from` holds of the moment that the operator accepted
abbrev pub is_ahead : ℕ → ℕ → Option ℕ → Bool
is_ahead now last accepted = if (last == 0) || not (is_far now last) then false else is_far_from now accepted
