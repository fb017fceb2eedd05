-- Lines of an input, and how a run of them ends.
use Rattle.std.specs.Prelude.{◌≡◌, ◌≢◌, ◌⊎◌, ℕ, ◌+◌, ◌<◌, ◌≤◌, ◌==◌, Bool, true, false, List, [], ◌∷◌, ◌++◌, length, map, take, if◌then◌else◌, IsFalse, IsTrue, Result, Ok, Err}
use Rattle.std.specs.declared.option.Option.{Option}
use Rattle.std.specs.Io.BufRead.{ends_with_byte, strip_last}
use Rattle.std.specs.Io.KnownBytes.{Appends, Consumes, IsAtEnd}
use Rattle.std.specs.List.{All, AllByRecursion, concat}
use Rattle.reg_core.specs.declared.refusal.Fault.{Fault}
use Rattle.reg_core.specs.declared.refusal.Fault.TheVariants.{Memory, Read, Write}
use Rattle.reg_io.specs.Put.{AppendsPrefix}
use Rattle.reg_io.specs.RunsOfAnswers.{Answered}
use Rattle.reg_lines.specs.Accepted.{EndsRefused, RunContinues, IsAccepted, GivesReason, done_of}
use Rattle.reg_lines.specs.Answer.{LineReplies}
use Rattle.reg_lines.specs.ByCalls.{Call}
use Rattle.reg_lines.specs.Fields.{in_prefix}
use Rattle.reg_lines.specs.declared.answered.Ended.{Ended}
use Rattle.reg_lines.specs.declared.answered.Ended.TheVariants.{Whole, Refused, NoLineEnd}
use Rattle.reg_lines.specs.declared.answered.Continuation.{Continuation}
use Rattle.reg_lines.specs.declared.lines.AfterLine.{AfterLine}
use Rattle.reg_lines.specs.declared.lines.AfterLine.TheVariants.{Held, End}

-- the most bytes of a line before its LF; a CR counts
abbrev pub longest_line : ℕ
longest_line = 8192

-- the most bytes of a line before its LF: for an untimed line (`true`) fewer by the 21 bytes of a moment and a space
abbrev pub longest_of : Bool → ℕ
longest_of true = 8171
longest_of false = longest_line

-- the most lines of a run
abbrev pub most_lines : ℕ
most_lines = 1000000

-- the lines of an input, each with its LF (the byte 10), except perhaps the last one; an empty input has no line
unfoldable pub pieces : List ℕ → List (List ℕ)
pieces [] = []
pieces (byte ∷ input) = if byte == 10 then (byte ∷ []) ∷ pieces input else in_prefix byte (pieces input)

-- a line without its LF, and without one CR (the byte 13) before the LF
abbrev pub line_of : List ℕ → List ℕ
line_of piece = if ends_with_byte 10 piece then strip_last 13 (strip_last 10 piece) else piece

-- the line has at most this many bytes before its LF
abbrev pub IsShort : ℕ → List ℕ → Type 0
IsShort longest piece = length (strip_last 10 piece) ≤ longest

-- an untimed line has at most 8,171 bytes before its LF
abbrev pub IsShortUntimedLine : List ℕ → Type 0
IsShortUntimedLine = IsShort (longest_of true)

-- the bytes have no LF
abbrev pub HasNoLf : List ℕ → Type 0
HasNoLf bytes = All (λ byte. byte ≢ 10) bytes

-- bytes without an LF, and then an LF
abbrev pub IsWholeLine : List ℕ → Type 0
IsWholeLine piece = (prefix : List ℕ) × (piece ≡ prefix ++ 10 ∷ []) × HasNoLf prefix

-- a last line without its LF
abbrev pub IsCut : List ℕ → Type 0
IsCut line = HasNoLf line × (0 < length line)

-- no line can be taken from these bytes: they have no LF, and are more than a line may have, or the input failed (`failed`) after them
abbrev pub TakesNoLine : Type 0 → ℕ → List ℕ → Type 0
TakesNoLine failed longest left = HasNoLf left × ((longest < length left) ⊎ failed)

-- The input failed before the next line ran: there is a line after the 1,000,000th, or no line can be taken.
abbrev pub InputFails : Type 0 → ℕ → List (List ℕ) → List ℕ → Type 0
InputFails failed longest done left =
    ((length done ≡ most_lines) × (0 < length left) × (length left ≤ longest)) ⊎ TakesNoLine failed longest left

-- the lines run at the moments of a clock, which failed
abbrev pub ClockFails : Type 0 → Bool → Type 0
ClockFails failed true = failed
ClockFails failed false = ⊥

-- The effects of a run of lines, each of at most `longest` bytes: the input and the output before and after.
module _ (longest : ℕ) (input input' out out' : Option (List ℕ)) where
  -- the input was read to its end, and only the replies to its lines were written
  pub record AllLines : Type 0 where
    pub took : List ℕ
    pub replies : List (List ℕ)
    pub consumed : Consumes input input' took
    pub at_end : IsAtEnd input'
    pub few : length (pieces took) ≤ most_lines
    pub short : AllByRecursion (IsShort longest) (pieces took)
    pub wrote : Appends out out' (concat replies)

  -- Only the replies to the first lines were written. Of the bytes that were read, some are left, at most one more than the longest line has.
  -- Whatever comes after them in the input, the lines that ran are its first ones, and the bytes that are left come next.
  pub record FirstLines : Type 0 where
    pub took : List ℕ
    pub done : List (List ℕ)
    pub replies : List (List ℕ)
    pub left : List ℕ
    pub consumed : Consumes input input' took
    pub parts : took ≡ concat done ++ left
    pub first : (more : List ℕ) → pieces (took ++ more) ≡ done ++ pieces (left ++ more)
    pub few : length done ≤ most_lines
    pub short : AllByRecursion (IsShort longest) done
    pub little : length left ≤ longest + 1
    pub wrote : Appends out out' (concat replies)

  -- The replies to the first lines were written, and a prefix of the reply to the line after them, and then the output failed. That line ends
  -- with its LF, or with the input.
  pub record CutLine : Type 0 where
    pub took : List ℕ
    pub done : List (List ℕ)
    pub replies : List (List ℕ)
    pub left : List ℕ
    pub piece : List ℕ
    pub rest : List ℕ
    pub reply : List ℕ
    pub part : ℕ
    pub consumed : Consumes input input' took
    pub parts : took ≡ concat done ++ left
    pub first : (more : List ℕ) → pieces (took ++ more) ≡ done ++ pieces (left ++ more)
    pub few : length done < most_lines
    pub short : AllByRecursion (IsShort longest) done
    pub next : pieces left ≡ piece ∷ pieces rest
    pub ends : IsWholeLine piece ⊎ ((rest ≡ []) × IsAtEnd input')
    pub little : IsShort longest piece
    pub partly : part < length reply
    pub wrote : Appends out out' (concat replies ++ take part reply)

  -- How a run of lines ends, at the moments of a clock or at their own. `runs s line reply t` is a line, without its line end, with its
  -- reply, where the office is `s` before and `t` after. A strict run ends after the first reply that is a refusal or a fault, and does not run a
  -- last line without its LF. `Read` means that the input failed, or the clock, and `Write` that the output did.
  module _ {S : Type 0} (runs : S → List ℕ → List ℕ → S → Type 0) (s t : S)
      (input_failed clock_failed output_failed : Type 0) (is_strict : Bool) where
    -- these lines ran, in order, and these are their replies
    abbrev pub RanAll : List (List ℕ) → List (List ℕ) → Type 0
    RanAll done replies = Answered runs s (map line_of done) replies t

    abbrev pub RunEnds : Result Ended Fault → Type 0
    RunEnds (Ok Whole) =
        (lines : AllLines) × RanAll (pieces lines.took) lines.replies
        × (IsTrue is_strict
        → AllByRecursion IsAccepted lines.replies × AllByRecursion IsWholeLine (pieces lines.took))
    RunEnds (Ok (Refused refused)) =
        (lines : FirstLines) × RanAll lines.done lines.replies
        × IsTrue is_strict × (ends : EndsRefused lines.replies) × GivesReason refused ends.refused
    RunEnds (Ok NoLineEnd) =
        (lines : FirstLines) × RanAll lines.done lines.replies
        × IsTrue is_strict × AllByRecursion IsAccepted lines.replies × IsCut lines.left × IsAtEnd input'
    RunEnds (Err Read) =
        (lines : FirstLines) × RanAll lines.done lines.replies
        × (IsTrue is_strict → AllByRecursion IsAccepted lines.replies)
        × (InputFails input_failed longest lines.done lines.left ⊎ clock_failed)
    RunEnds (Err Write) =
        (lines : CutLine) × (middle : S) × Answered runs s (map line_of lines.done) lines.replies middle
        × runs middle (line_of lines.piece) lines.reply t
        × (IsTrue is_strict → AllByRecursion IsAccepted lines.replies) × output_failed
    RunEnds (Err other) = ⊥

-- A run of lines: the office, the reader and the writer before and after; `input_failed` and `output_failed` state that a read or a write failed.
module _ {S R W : Type 0} (answers : S → ℕ → Call → S → Type 0) (remaining : R → Option (List ℕ))
    (contents : W → Option (List ℕ)) (input_failed output_failed : Type 0)
    (s t : S) (reader reader' : R) (writer writer' : W) where
  -- a run as above; if it is out of memory, nothing ran, nothing was read and nothing was written
  abbrev pub InputEnds
      : (S → List ℕ → List ℕ → S → Type 0) → Type 0 → Bool → Bool → Result Ended Fault → Type 0
  InputEnds runs clock_failed is_clocked is_strict (Err Memory) =
      (t ≡ s) × (reader' ≡ reader) × (writer' ≡ writer)
  InputEnds runs clock_failed is_clocked is_strict result =
      RunEnds (longest_of is_clocked) (remaining reader) (remaining reader') (contents writer)
      (contents writer') runs s t input_failed (ClockFails clock_failed is_clocked) output_failed is_strict result

  -- lines that run at the moments of a clock, or at their own; a strict run ends at the first refusal or fault
  abbrev pub LinesEnd : (ℕ → Type 0) → Type 0 → Bool → Bool → Result Ended Fault → Type 0
  LinesEnd reached clock_failed is_clocked =
      InputEnds (LineReplies answers reached is_clocked) clock_failed is_clocked

  -- a script: lines that begin with their own moments; the run goes on after a refusal
  abbrev pub ScriptEnds : Result (Unit {0}) Fault → Type 0
  ScriptEnds result =
      (ran : Result Ended Fault) × LinesEnd (λ now. ⊥) ⊥ false false ran × (result ≡ done_of ran)

-- ---- the steps of a run

-- Lines that run; the office, and the output, before and after.
module _ {S : Type 0} (runs : S → List ℕ → List ℕ → S → Type 0) (s t : S) (out out' : Option (List ℕ)) where
  -- a line ran, and its reply, or a proper prefix of the reply, was written; or the clock could not be read, and the line did not run
  abbrev pub LineEnds : Type 0 → Type 0 → Bool → List ℕ → Result Continuation Fault → Type 0
  LineEnds clock_failed output_failed is_strict line (Ok passed) =
      (reply : List ℕ) × runs s line reply t × Appends out out' reply × RunContinues is_strict reply passed
  LineEnds clock_failed output_failed is_strict line (Err Write) =
      (reply : List ℕ) × runs s line reply t × AppendsPrefix out out' reply × output_failed
  LineEnds clock_failed output_failed is_strict line (Err Read) =
      clock_failed × (t ≡ s) × Appends out out' []
  LineEnds clock_failed output_failed is_strict line (Err other) = ⊥

  -- The longest line; the rest of the input, before and after; and the bytes that were buffered.
  module _ (longest : ℕ) (input input' : Option (List ℕ)) (buffered : List ℕ) where
    -- a whole line ran, from the bytes that were buffered and those that were read; the others are left
    pub record RanWhole (left : List ℕ) : Type 0 where
      pub took : List ℕ
      pub piece : List ℕ
      pub reply : List ℕ
      pub consumed : Consumes input input' took
      pub cut : buffered ++ took ≡ piece ++ left
      pub whole : IsWholeLine piece
      pub short : IsShort longest piece
      pub little : length left ≤ longest + 1
      pub replied : runs s (line_of piece) reply t
      pub wrote : Appends out out' reply

    -- the input is at its end; the bytes that are left were a line that ran, or there are none
    pub record RanLast : Type 0 where
      pub took : List ℕ
      pub consumed : Consumes input input' took
      pub at_end : IsAtEnd input'
      pub free : HasNoLf (buffered ++ took)
      pub short : length (buffered ++ took) ≤ longest
      pub ran : ((buffered ++ took ≡ []) × (t ≡ s) × Appends out out' [])
          ⊎ ((0 < length (buffered ++ took)) × (reply : List ℕ) × runs s (buffered ++ took) reply t
          × Appends out out' reply)

    -- no line ran, and bytes were read, at most one more than a line may have
    pub record RanNone : Type 0 where
      pub took : List ℕ
      pub consumed : Consumes input input' took
      pub little : length (buffered ++ took) ≤ longest + 1
      pub office : t ≡ s
      pub wrote : Appends out out' []

    -- a line ran, and the output failed in its reply
    pub record WritesPart : Type 0 where
      pub took : List ℕ
      pub piece : List ℕ
      pub rest : List ℕ
      pub reply : List ℕ
      pub consumed : Consumes input input' took
      pub cut : buffered ++ took ≡ piece ++ rest
      pub ends : IsWholeLine piece ⊎ (IsCut piece × (rest ≡ []) × IsAtEnd input')
      pub short : IsShort longest piece
      pub replied : runs s (line_of piece) reply t
      pub wrote : AppendsPrefix out out' reply

    -- how a step ends: with a number of bytes at the start of the buffer, or with the run, or with a fault
    abbrev pub NextEnds : Type 0 → Type 0 → Type 0 → Bool → List ℕ → Result AfterLine Fault → Type 0
    NextEnds input_failed clock_failed output_failed is_strict buffer (Ok (Held left)) =
        (left < length buffer) × (ran : RanWhole (take left buffer))
        × (IsTrue is_strict → IsAccepted ran.reply)
    NextEnds input_failed clock_failed output_failed is_strict buffer (Ok (End Whole)) =
        (ran : RanLast) × ((0 < length (buffered ++ ran.took)) → IsFalse is_strict)
    NextEnds input_failed clock_failed output_failed is_strict buffer (Ok (End (Refused refused))) =
        (left : List ℕ) × (ran : RanWhole left) × IsTrue is_strict × (¬ IsAccepted ran.reply)
        × GivesReason refused ran.reply
    NextEnds input_failed clock_failed output_failed is_strict buffer (Ok (End NoLineEnd)) =
        (ran : RanNone) × IsTrue is_strict × IsCut (buffered ++ ran.took) × IsAtEnd input'
    NextEnds input_failed clock_failed output_failed is_strict buffer (Err Read) =
        (ran : RanNone) × (TakesNoLine input_failed longest (buffered ++ ran.took) ⊎ clock_failed)
    NextEnds input_failed clock_failed output_failed is_strict buffer (Err Write) =
        WritesPart × output_failed
    NextEnds input_failed clock_failed output_failed is_strict buffer (Err other) = ⊥

-- the input is at its end and nothing was read; or a byte was read; or a read failed (`failed`)
abbrev pub EndOrMore : Type 0 → Option (List ℕ) → Option (List ℕ) → Result Ended Fault → Type 0
EndOrMore failed input input' (Ok ended) = (ended ≡ Whole) × Consumes input input' [] × IsAtEnd input'
EndOrMore failed input input' (Err fault) =
    (fault ≡ Read) × (took : List ℕ) × Consumes input input' took × (length took ≤ 1)
    × ((0 < length took) ⊎ failed)
