-- A sequence of steps, each of which may give no value.
use Rattle.std.specs.Prelude.{Option, option_and_then}

-- the result of the second step on the value of the first; `None` if the first gave none
infixl 10 ◌>>=◌
abbrev pub ◌>>=◌ : {A B : Type 0} → Option A → (A → Option B) → Option B
o >>= f = option_and_then f o
