-- Accepted replies, and replies that end a strict run.
use Rattle.std.specs.Prelude.{◌≡◌, ℕ, Bool, List, [], ◌∷◌, ◌++◌, IfSome, IsTrue, Result, Ok, Err}
use Rattle.std.specs.Result.{result_map_both}
use Rattle.std.specs.declared.option.Option.{Option}
use Rattle.std.specs.List.{AllByRecursion}
use Rattle.std.specs.Io.KnownBytes.{Appends}
use Rattle.reg_core.specs.Lines.{refusal_line}
use Rattle.reg_core.specs.declared.refusal.Fault.{Fault}
use Rattle.reg_lines.specs.Replies.{with_lf}
use Rattle.reg_lines.specs.declared.answered.Continuation.{Continuation}
use Rattle.reg_lines.specs.declared.answered.Continuation.TheVariants.{On, Refused}
use Rattle.reg_lines.specs.declared.answered.RefusedCommand.{RefusedCommand}
use Rattle.reg_io.specs.Put.{AppendsPrefix}
use Rattle.reg_io.specs.declared.put.WriteFault.{WriteFault}

-- an accepted reply does not begin with E (69, a refusal), F (70, a fault) or b (98, `bad-policy` and `bad-clock`)
abbrev pub IsAccepted : List ℕ → Type 0
IsAccepted [] = Unit {0}
IsAccepted (first ∷ rest) = ¬ (first ≡ 69) × ¬ (first ≡ 70) × ¬ (first ≡ 98)

-- replies of which the last one is not accepted, and all others are
pub record EndsRefused (replies : List (List ℕ)) : Type 0 where
  pub accepted : List (List ℕ)
  pub refused : List ℕ
  pub parts : replies ≡ accepted ++ refused ∷ []
  pub each : AllByRecursion IsAccepted accepted
  pub last : ¬ IsAccepted refused

-- if a command was refused, the reply is the line of its refusal
abbrev pub GivesReason : Option RefusedCommand → List ℕ → Type 0
GivesReason refused reply = IfSome refused (λ command. reply ≡ with_lf (refusal_line command.why))

-- whether a run goes on after a reply: a strict run only after an accepted one, any other run always
abbrev pub RunContinues : Bool → List ℕ → Continuation → Type 0
RunContinues is_strict reply On = IsTrue is_strict → IsAccepted reply
RunContinues is_strict reply (Refused refused) =
    IsTrue is_strict × (¬ IsAccepted reply) × GivesReason refused reply

-- the bytes were written; or, with a fault, only a proper prefix of them (`out` is the output before, `out'` after)
abbrev pub Wrote : Option (List ℕ) → Option (List ℕ) → List ℕ → Result (Unit {0}) WriteFault → Type 0
Wrote out out' bytes (Ok done) = Appends out out' bytes
Wrote out out' bytes (Err fault) = AppendsPrefix out out' bytes

-- a reply was written, and the result says whether the run goes on; or, with a fault, only a proper prefix of
-- the reply was written
abbrev pub WritesReply
    : Bool → Option (List ℕ) → Option (List ℕ) → List ℕ → Result Continuation WriteFault → Type 0
WritesReply is_strict out out' reply (Ok passed) =
    Appends out out' reply × RunContinues is_strict reply passed
WritesReply is_strict out out' reply (Err fault) = AppendsPrefix out out' reply

-- the result of a run, without its value, which says how it ended: only its fault, if any
abbrev pub done_of : {A : Type 0} → Result A Fault → Result (Unit {0}) Fault
done_of ran = result_map_both (λ ended. tt) (λ fault. fault) ran
