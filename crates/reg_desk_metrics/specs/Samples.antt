-- Samples in the text format of Prometheus, version 0.0.4.
use Rattle.std.specs.Prelude.{ℕ, ◌+◌, ◌/◌, ◌%◌, List, [], ◌∷◌, ◌++◌, decimal, Some, None}
use Rattle.std.specs.declared.option.Option.{Option}

-- a sample: its series (which ends with a space), its value and an LF
abbrev pub sample : List ℕ → ℕ → List ℕ
sample series value = series ++ decimal value ++ 10 ∷ []

-- a moment in seconds since 1970; 0 if there is none
abbrev pub moment_or_zero : Option ℕ → ℕ
moment_or_zero (Some at) = at
moment_or_zero None = 0

-- the ASCII code of a number's decimal digit at the place of `unit`, a power of ten
abbrev pub digit_at : ℕ → ℕ → ℕ
digit_at number unit = 48 + number / unit % 10

-- the decimal point and the six digits after it, for microseconds as seconds
abbrev pub fraction : ℕ → List ℕ
fraction micros =
    46 ∷ digit_at micros 100000 ∷ digit_at micros 10000 ∷ digit_at micros 1000 ∷ digit_at micros 100
    ∷ digit_at micros 10
    ∷ digit_at micros 1 ∷ []

-- a sample of a time in microseconds, written in seconds
abbrev pub sample_of_seconds : List ℕ → ℕ → List ℕ
sample_of_seconds series micros = series ++ decimal (micros / 1000000) ++ fraction micros ++ 10 ∷ []
