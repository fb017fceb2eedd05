-- The worked examples: a day is a run if its lines have the outcomes that are computed.
use Rattle.std.proofs.Common.{◌≡◌, ℕ, List, [], ◌∷◌, Option, Some, None, Result, refl}
use Rattle.reg_core.specs.Policy.{Terms}
use Rattle.reg_core.specs.Records.{Records}
use Rattle.reg_core.specs.Step.{IsSigned, refusal, reply, changed}
use Rattle.reg_core.specs.declared.command.Command.{Command}
use Rattle.reg_core.specs.declared.command.Command.TheVariants.{Crl as IssueCrl}
use Rattle.reg_core.specs.declared.command.Reply.{Reply}
use Rattle.reg_core.specs.declared.refusal.Refusal.{Refusal}
use Rattle.reg_core.specs.declared.refusal.Fault.{Fault}
use Rattle.reg_core_laws.specs.Examples.{DayLine, commands_of, outcomes_of, outcome_by, records_by, records_after, records_after_all, seen_over, seen_in, no_bytes, new_under, DayUnder}
use Rattle.reg_core_laws.specs.Run.{Happens, Run}

-- what commands come to, as it is computed
abbrev pub outcomes_over : Records → List (ℕ × Command) → List (Result Reply Fault)
outcomes_over records [] = []
outcomes_over records (timed ∷ rest) =
    outcome_by (refusal records timed.0 timed.1) (reply records timed.0 timed.1) ∷ outcomes_over (records_after records timed.0 timed.1) rest

-- the empty signature is one of each command
signed_so : (records : Records) (now : ℕ) (command : Command) → IsSigned no_bytes records now command []
signed_so records now IssueCrl = refl
signed_so records now command = refl

-- one command happens so
happens_so : (records : Records) (now : ℕ) (command : Command)
    → Happens no_bytes records now command (outcome_by (refusal records now command) (reply records now command)) (records_after records now command)
happens_so records now command = go (refusal records now command) refl
  where
    go : (refused : Option Refusal) → refusal records now command ≡ refused
        → Happens no_bytes records now command (outcome_by refused (reply records now command)) (records_by refused records (changed records now command []))
    go (Some refused) is = rw is (refl, refl)
    go None is = rw is ([], refl, signed_so records now command, refl)

-- and so commands run
runs_so : (records : Records) (commands : List (ℕ × Command))
    → Run no_bytes records commands (outcomes_over records commands) (records_after_all records commands)
runs_so records [] = refl
runs_so records (timed ∷ rest) =
    (records_after records timed.0 timed.1, happens_so records timed.0 timed.1, runs_so (records_after records timed.0 timed.1) rest)

-- a day goes by its lines where its outcomes, and what is seen, compute to them
pub computed : (policy : Terms) (lines : List DayLine) → outcomes_over (new_under policy) (commands_of lines) ≡ outcomes_of lines
    → seen_over (new_under policy) lines ≡ seen_in lines → DayUnder policy lines
computed policy lines outcomes seen = record { run = rw outcomes at (runs_so (new_under policy) (commands_of lines)); seen = seen }
