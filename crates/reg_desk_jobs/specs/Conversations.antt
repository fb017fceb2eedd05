-- Lines, or rows as lines, that are sent to a control socket, and its replies.
use Rattle.std.specs.Prelude.{◌≡◌, ◌↔◌, ◌⊎◌, ◌<◌, ◌≤◌, ℕ, Bool, List, [], ◌∷◌, ◌++◌, length, IsTrue, IfSome, Option, Some, Result, Ok, Err}
use Rattle.std.specs.Io.KnownBytes.{Appends, Consumes}
use Rattle.std.specs.List.{AllByRecursion, concat}
use Rattle.reg_core.specs.declared.refusal.Fault.{Fault}
use Rattle.reg_core.specs.declared.refusal.Fault.TheVariants as fault
use Rattle.reg_desk_cli.specs.declared.failure.Failure.{Failure}
use Rattle.reg_desk_cli.specs.declared.failure.Failure.TheVariants as failure
use Rattle.reg_lines.specs.Accepted.{IsAccepted}
use Rattle.reg_lines.specs.Script.{HasNoLf, IsWholeLine}
use Rattle.reg_lines.specs.RowLines.{ListingEnds}
use Rattle.reg_desk_jobs.specs.declared.at_job.NextLine.{NextLine}
use Rattle.reg_desk_jobs.specs.declared.at_job.NextLine.TheVariants as next
use Rattle.reg_desk_jobs.specs.declared.at_job.Piece.{Piece}
use Rattle.reg_desk_jobs.specs.declared.at_job.PieceEnd.{PieceEnd}
use Rattle.reg_desk_jobs.specs.declared.at_job.PieceEnd.TheVariants as piece_end

-- each of the lines ends with its LF
abbrev pub AreWhole : List (List ℕ) → Type 0
AreWhole [] = Unit {0}
AreWhole (line ∷ rest) = IsWholeLine line × AreWhole rest

-- a last line without its line end
abbrev pub IsCutOff : List ℕ → Type 0
IsCutOff line = HasNoLf line × (0 < length line)

-- if the bytes of an input are known, they are exactly these
abbrev pub IsInput : Option (List ℕ) → List ℕ → Type 0
IsInput input bytes = IfSome input (λ all. all ≡ bytes)

-- why a conversation ends early: a read failed, or the replies ended (`read_failed`); a write failed (`write_failed`); or out of memory
abbrev pub IsConversationFault : Type 0 → Type 0 → Failure → Type 0
IsConversationFault read_failed write_failed why =
    ((why ≡ failure.Fault fault.Read) × read_failed)
    ⊎ (((why ≡ failure.Fault fault.Write) × write_failed) ⊎ (why ≡ failure.Fault fault.Memory))

-- as many lines were taken as a conversation has at most, 2^64 - 1
abbrev pub AreMostLines : List (List ℕ) → Type 0
AreMostLines lines = 18446744073709551615 ≤ length lines

-- bytes that were read up to and including the first LF, or to the end of the input: a line, a last line without its line end, or nothing
abbrev pub IsReadAs : List ℕ → NextLine → Type 0
IsReadAs bytes (next.Line line) = (line.items ≡ bytes) × IsWholeLine bytes
IsReadAs bytes next.Cut = IsCutOff bytes
IsReadAs bytes next.End = bytes ≡ []

-- what comes next in an input, before and after it was read: a line, a last line without its line end, or nothing
abbrev pub NextIs : Option (List ℕ) → Option (List ℕ) → NextLine → Type 0
NextIs input input' (next.Line line) = IsWholeLine line.items × Consumes input input' line.items
NextIs input input' next.Cut = (left : List ℕ) × IsCutOff left × IsInput input left
NextIs input input' next.End = IsInput input []

-- an input before and after these bytes were taken from it, and how it goes on: nothing more was read; a last line without its line end; or nothing
abbrev pub GoesOn : Option (List ℕ) → Option (List ℕ) → List ℕ → PieceEnd → Type 0
GoesOn input input' taken piece_end.Full = Consumes input input' taken
GoesOn input input' taken piece_end.Cut = (left : List ℕ) × IsCutOff left × IsInput input (taken ++ left)
GoesOn input input' taken piece_end.End = IsInput input taken

-- the next lines of an input: at most `most`, and fewer only if no further line ends with an LF
pub record IsPiece (most : ℕ) (input input' : Option (List ℕ)) (piece : Piece) : Type 0 where
  pub lines : List (List ℕ)
  pub whole : AreWhole lines
  pub text : piece.text.items ≡ concat lines
  pub count : length lines ≡ piece.count
  pub few : piece.count ≤ most
  pub full : piece.end ≡ piece_end.Full → piece.count ≡ most
  pub left : GoesOn input input' (concat lines) piece.end

-- this many replies were received and written, and whether each of them was accepted
abbrev pub PassesReplies
    : Option (List ℕ) → Option (List ℕ) → Option (List ℕ) → Option (List ℕ) → ℕ → Bool → Type 0
PassesReplies incoming incoming' out out' count accepted =
    (replies : List (List ℕ)) × (length replies ≡ count) × Consumes incoming incoming' (concat replies)
    × Appends out out' (concat replies) × (IsTrue accepted ↔ AllByRecursion IsAccepted replies)

-- these lines were sent, one after the other; as many replies were received and written
pub record ExchangedLines (sent sent' incoming incoming' out out' : Option (List ℕ))
    (lines replies : List (List ℕ)) : Type 0 where
  pub whole : AreWhole lines
  pub lines_sent : Appends sent sent' (concat lines)
  pub received : Consumes incoming incoming' (concat replies)
  pub said : Appends out out' (concat replies)
  pub each : length replies ≡ length lines

-- why a conversation fails at its end, by its replies and the rest of the input: a reply is not as `IsGood` states, a last line has no line end
-- and was not sent, or both
abbrev pub IsFailureBy : (List ℕ → Type 0) → List (List ℕ) → List ℕ → Failure → Type 0
IsFailureBy IsGood replies left why =
    ((why ≡ failure.Refused) × (left ≡ []) × (¬ AllByRecursion IsGood replies))
    ⊎ (((why ≡ failure.NoLineEnd) × IsCutOff left × AllByRecursion IsGood replies)
    ⊎ ((why ≡ failure.RefusedNoLineEnd) × IsCutOff left × (¬ AllByRecursion IsGood replies)))

-- What was sent to the control socket, received from it, and written to the output: before and after.
module _ (sent sent' incoming incoming' out out' : Option (List ℕ)) where
  -- a line was sent, and its reply received and written
  abbrev pub ExchangesLine : List ℕ → List ℕ → Type 0
  ExchangesLine line reply =
      Appends sent sent' line × Consumes incoming incoming' reply × Appends out out' reply

  -- the most lines of a conversation were exchanged
  abbrev pub ExchangesMost : Type 0
  ExchangesMost =
      (lines replies : List (List ℕ)) × ExchangedLines sent sent' incoming incoming' out out' lines replies
      × AreMostLines lines

  -- All lines of an input: each reply was accepted; or one was not, or a last line without its line end was not sent. The conversation ends early
  -- only if a read or a write failed, the replies ended, or out of memory, or after the most lines; then nothing else is stated.
  abbrev pub ExchangesLines : Type 0 → Type 0 → Option (List ℕ) → Result (Unit {0}) Failure → Type 0
  ExchangesLines read_failed write_failed input (Ok done) =
      (lines replies : List (List ℕ)) × ExchangedLines sent sent' incoming incoming' out out' lines replies
      × IsInput input (concat lines) × AllByRecursion IsAccepted replies
  ExchangesLines read_failed write_failed input (Err why) =
      IsConversationFault (read_failed ⊎ ExchangesMost) write_failed why
      ⊎ ((lines replies : List (List ℕ)) × (left : List ℕ)
      × ExchangedLines sent sent' incoming incoming' out out' lines replies
      × IsInput input (concat lines ++ left) × IsFailureBy IsAccepted replies left why)

-- a conversation over a connection about which nothing else is known, not even whether it failed: out of memory with nothing written, or as
-- `ExchangesLines` states
abbrev pub ExchangesLinesOver
    : Option (List ℕ) → Option (List ℕ) → Option (List ℕ) → Result (Unit {0}) Failure → Type 0
ExchangesLinesOver input out out' result =
    ((result ≡ Err (failure.Fault fault.Memory)) × (out' ≡ out))
    ⊎ ((sent sent' incoming incoming' : Option (List ℕ))
    × ExchangesLines sent sent' incoming incoming' out out' (Unit {0}) (Unit {0}) input result)

-- lines at a control socket: the job failed with `Read` and nothing written; or the program connected (`met`), as `ExchangesLinesOver` states
abbrev pub AtControlSocket
    : Type 0 → Option (List ℕ) → Option (List ℕ) → Option (List ℕ) → Result (Unit {0}) Failure → Type 0
AtControlSocket met input out out' result =
    ((result ≡ Err (failure.Fault fault.Read)) × (out' ≡ out))
    ⊎ (met × ExchangesLinesOver input out out' result)

-- rows at a control socket: a fault of reading the rows, and nothing is written; or the lines of the rows, as `AtControlSocket` states
abbrev pub RowsAtControlSocket
    : Type 0 → Type 0 → Option (List ℕ) → Option (List ℕ) → Option (List ℕ) → Option (List ℕ)
    → Result (Unit {0}) Failure → Type 0
RowsAtControlSocket met input_failed input input' out out' result =
    ((why : Fault) × (result ≡ Err (failure.Fault why)) × ListingEnds input_failed input input' (Err why) × (out' ≡ out))
    ⊎ ((lines : List ℕ) × ListingEnds input_failed input input' (Ok lines)
    × AtControlSocket met (Some lines) out out' result)
