-- A strict import: it ends at the first refusal or fault, and does not run bytes after the last line end of the text.
use Rattle.std.specs.Prelude.{◌≡◌, ℕ, ◌==◌, ◌&&◌, Bool, true, not, List, [], ◌∷◌, length, reverse, if◌then◌else◌, Result, Ok, Err}
use Rattle.std.specs.declared.option.Option.{Option}
use Rattle.reg_core.specs.declared.refusal.Fault.{Fault}
use Rattle.reg_lines.specs.ByCalls.{Call}
use Rattle.reg_lines.specs.Import.{EndsBy, RowsEnd}
use Rattle.reg_lines.specs.declared.answered.Ended.{Ended}
use Rattle.reg_lines.specs.declared.answered.Ended.TheVariants.{Whole, Refused, NoLineEnd}
use Rattle.reg_lines.specs.declared.answered.Continuation.TheVariants as passed

-- a byte within a line: neither CR nor LF (13 and 10), each of which ends a record, unless it is between quotation marks
abbrev pub is_within : ℕ → Bool
is_within byte = not (byte == 13) && not (byte == 10)

-- the bytes from the first CR or LF on
abbrev pub skip_within : List ℕ → List ℕ
skip_within [] = []
skip_within (byte ∷ rest) = if is_within byte then skip_within rest else byte ∷ rest

-- a text up to and including its last line end
abbrev pub whole_lines : List ℕ → List ℕ
whole_lines text = reverse (skip_within (reverse text))

-- how the run of a text ends: only the part up to its last line end runs, and the text ends there, or has more bytes (`NoLineEnd`)
abbrev pub StrictRan
    : {S : Type 0} → (S → ℕ → Call → S → Type 0) → ℕ → S → S → Type 0 → Option (List ℕ) → Option (List ℕ)
    → List ℕ
    → Result Ended Fault → Type 0
StrictRan answers now s t output_failed out out' text (Ok Whole) =
    RowsEnd answers true now s t output_failed out out' (whole_lines text) (Ok passed.On)
    × (length (whole_lines text) ≡ length text)
StrictRan answers now s t output_failed out out' text (Ok NoLineEnd) =
    RowsEnd answers true now s t output_failed out out' (whole_lines text) (Ok passed.On)
    × ¬ (length (whole_lines text) ≡ length text)
StrictRan answers now s t output_failed out out' text (Ok (Refused refused)) =
    RowsEnd answers true now s t output_failed out out' (whole_lines text) (Ok (passed.Refused refused))
StrictRan answers now s t output_failed out out' text (Err fault) =
    RowsEnd answers true now s t output_failed out out' (whole_lines text) (Err fault)

-- a strict import at a moment: the office, the reader and the writer before and after
abbrev pub StrictEnds
    : {S R W : Type 0} → (S → ℕ → Call → S → Type 0) → (R → Option (List ℕ)) → (W → Option (List ℕ)) → Type 0
    → Type 0 → ℕ → S → S → R → R → W → W
    → Result Ended Fault → Type 0
StrictEnds answers remaining contents input_failed output_failed now s t reader reader' writer writer' =
    EndsBy remaining input_failed s t reader reader' writer writer'
    (StrictRan answers now s t output_failed (contents writer) (contents writer'))
