-- Lines of a script that run together, in one transaction.
use Rattle.std.specs.Prelude.{◌≡◌, ◌⊎◌, ℕ, ◌<◌, List, ◌∷◌, ◌++◌, drop, length, map, Result, Ok, Err}
use Rattle.std.specs.declared.option.Option.{Option}
use Rattle.std.specs.Io.KnownBytes.{Appends}
use Rattle.std.specs.List.{AllByRecursion, AllZip, concat}
use Rattle.reg_core.specs.declared.command.Command.{Command}
use Rattle.reg_core.specs.declared.command.Reply.{Reply}
use Rattle.reg_core.specs.declared.refusal.Fault.{Fault}
use Rattle.reg_core.specs.declared.refusal.Fault.TheVariants.{Write}
use Rattle.reg_io.specs.Put.{AppendsPrefix}
use Rattle.reg_io.specs.RunsOfAnswers.{Answered}
use Rattle.reg_lines.specs.Meaning.{HasMoment, LineMeans, means_command}
use Rattle.reg_lines.specs.Replies.{outcome_line, with_lf}
use Rattle.reg_lines.specs.Script.{IsWholeLine, line_of}
use Rattle.reg_lines.specs.declared.batches.Ran.{Ran}

-- a whole line of a script means this command at this moment
abbrev pub IsTimedCommand : List ℕ → ℕ × Command → Type 0
IsTimedCommand line timed =
    IsWholeLine line
    × ((text : List ℕ) × HasMoment (line_of line) timed.0 text × LineMeans text (means_command timed.1))

-- these bytes are whole lines, each of which means the command at its place
abbrev pub AreTimedCommands : List ℕ → List (ℕ × Command) → Type 0
AreTimedCommands bytes timed =
    (lines : List (List ℕ)) × (bytes ≡ concat lines) × AllZip IsTimedCommand lines timed

-- the reply to a command with this outcome
abbrev pub reply_to : Result Reply Fault → List ℕ
reply_to outcome = with_lf (outcome_line outcome)

-- The replies to commands with these outcomes were written, or the output failed: those to the first ones were written, and a prefix of the
-- next one.
abbrev pub WritesReplies
    : {E : Type 0} → Option (List ℕ) → Option (List ℕ) → Type 0 → List (Result Reply Fault)
    → Result (Unit {0}) E → Type 0
WritesReplies out out' failed outcomes (Ok done) = Appends out out' (concat (map reply_to outcomes))
WritesReplies out out' failed outcomes (Err fault) =
    (first : List (Result Reply Fault)) × (next : Result Reply Fault) × (rest : List (Result Reply Fault))
    × (middle : Option (List ℕ)) × (outcomes ≡ first ++ next ∷ rest)
    × Appends out middle (concat (map reply_to first)) × AppendsPrefix middle out' (reply_to next) × failed

-- Lines that run: the office, and the output, before and after; and the bytes that are held.
module _ {S : Type 0} (runs : S → List ℕ → List ℕ → S → Type 0) (s t : S) (out out' : Option (List ℕ))
    (held : List ℕ) where
  -- whole lines ran, and their replies were written; the other bytes are left
  pub record RanHeld (rest : List ℕ) (count : ℕ) : Type 0 where
    pub lines : List (List ℕ)
    pub replies : List (List ℕ)
    pub cut : held ≡ concat lines ++ rest
    pub whole : AllByRecursion IsWholeLine lines
    pub counted : length lines ≡ count
    pub answered : Answered runs s (map line_of lines) replies t
    pub wrote : Appends out out' (concat replies)

-- one whole line more ran, and the output failed in its reply
pub record CutHeld {S : Type 0} (runs : S → List ℕ → List ℕ → S → Type 0) (s : S) (out out' : Option (List ℕ))
    (held : List ℕ) (most : ℕ) : Type 0 where
  pub middle : S
  pub after : S
  pub between : Option (List ℕ)
  pub piece : List ℕ
  pub rest : List ℕ
  pub reply : List ℕ
  pub count : ℕ
  pub first : RanHeld runs s middle out between held (piece ++ rest) count
  pub few : count < most
  pub whole : IsWholeLine piece
  pub replied : runs middle (line_of piece) reply after
  pub wrote : AppendsPrefix between out' reply

-- How a batch ends, of at most `most` lines: all of it ran; or the output failed in the reply to one of its lines, and the office is ahead of it.
abbrev pub BatchEnds
    : {S : Type 0} → (S → List ℕ → List ℕ → S → Type 0) → S → S → Option (List ℕ) → Option (List ℕ)
    → List ℕ → ℕ → Type 0 → Result Ran Fault → Type 0
BatchEnds runs s t out out' held most failed (Ok ran) =
    RanHeld runs s t out out' held (drop ran.length held) ran.count
BatchEnds runs s t out out' held most failed (Err fault) =
    (fault ≡ Write) × CutHeld runs s out out' held most × failed

-- What `IsSo` says of a run holds of the records before it and after it. After `Err Write` the office may be ahead of those: lines after the one
-- whose reply was cut may have run.
abbrev pub MayBeAhead
    : {R A : Type 0} → (R → R → Result A Fault → Type 0) → R → R → Result A Fault → Type 0
MayBeAhead {R = R} IsSo before ahead result =
    (after : R) × IsSo before after result × ((result ≡ Err Write) ⊎ (ahead ≡ after))
