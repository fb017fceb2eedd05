-- The moment of a clock. `stood seconds`: the clock was read, and showed this number of whole seconds since the start of 1970.
use Rattle.std.specs.Prelude.{◌≡◌, ◌≤◌, ◌⊎◌, ℕ}

-- the moment that many seconds after the start of 1970; or, after the last moment, 9999-12-31T23:59:59Z, that last one
abbrev pub IsMomentOfSeconds : ℕ → ℕ → Type 0
IsMomentOfSeconds seconds now = (now ≡ seconds) ⊎ ((253402300800 ≤ seconds) × (now ≡ 253402300799))

-- this is the moment of the seconds that the clock showed
abbrev pub IsClockMoment : (ℕ → Type 0) → ℕ → Type 0
IsClockMoment stood now = (seconds : ℕ) × stood seconds × IsMomentOfSeconds seconds now
