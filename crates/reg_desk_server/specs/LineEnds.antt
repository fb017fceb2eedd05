-- The lines in the bytes of a control connection, each with its LF.
use Rattle.std.specs.Prelude.{◌≡◌, ◌≢◌, ◌≤◌, ℕ, List, [], ◌∷◌, ◌++◌, length, take}
use Rattle.std.specs.List.{All}
use Rattle.reg_io.specs.Delimiter.{EndsWith, FirstDelimiter, HasNoDelimiter}

-- these bytes have no whole line
abbrev pub HasNoLine : List ℕ → Type 0
HasNoLine bytes = HasNoDelimiter (10 ∷ []) bytes

-- the first line of these bytes, with its LF, is the first `end` of them
abbrev pub FirstLineEnds : List ℕ → ℕ → Type 0
FirstLineEnds bytes end = FirstDelimiter (10 ∷ []) bytes end

-- these bytes are one line, which ends with its only LF
abbrev pub IsLine : List ℕ → Type 0
IsLine bytes = (prefix : List ℕ) × (bytes ≡ prefix ++ 10 ∷ []) × All (λ byte. byte ≢ 10) prefix

-- these bytes are whole lines, at least one: the last byte is an LF
abbrev pub IsWholeLines : List ℕ → Type 0
IsWholeLines bytes = EndsWith bytes (10 ∷ [])

-- one or several whole lines are the first `end` of these bytes
abbrev pub EndsLine : List ℕ → ℕ → Type 0
EndsLine bytes end = (end ≤ length bytes) × IsWholeLines (take end bytes)
