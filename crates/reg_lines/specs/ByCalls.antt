-- The calls of an office for a line.
use Rattle.std.specs.Prelude.{◌≡◌, ◌<◌, ℕ, List, Result, Err}
use Rattle.reg_office_api.specs.CallSteps.{Signs, Runs, Asks, AnswersOcsp}
use Rattle.reg_office_api.specs.Leads.{Leads}
use Rattle.reg_office_api.specs.Signers.{OfficeSigners}
use Rattle.reg_office_api.specs.declared.office.Office.{Ghosts as Office}
use Rattle.reg_core.specs.Records.{Records}
use Rattle.reg_core.specs.declared.command.Command.{Command}
use Rattle.reg_core.specs.declared.command.Query.{Query}
use Rattle.reg_core.specs.declared.command.Reply.{Reply}
use Rattle.reg_core.specs.declared.memory.Memory.{Memory as NoMemory}
use Rattle.reg_core.specs.declared.refusal.Fault.{Fault}
use Rattle.reg_core.specs.declared.refusal.Fault.TheVariants.{Signer}

-- a call of an office, and its result: a command, a query, or the bytes of an OCSP request (RFC 6960 4.1)
pub data Call : Type 0 where
  ran : Command → Result Reply Fault → Call
  asked : Query → Result Reply Fault → Call
  responded : List ℕ → Result (List ℕ) NoMemory → Call

-- the result of each call for a line, over the records at a moment
abbrev pub Lines : Signs → OfficeSigners → Records → ℕ → Call → Records → Type 0
Lines signs signers before now (ran command outcome) after =
    Runs signs signers before now command outcome after
Lines signs signers before now (asked query outcome) after = Asks before now query outcome after
Lines signs signers before now (responded request given) after =
    AnswersOcsp signs signers before now request given after

-- the result of a call is a fault of the signer
abbrev pub FailsToSign : Call → Type 0
FailsToSign (ran command outcome) = outcome ≡ Err Signer
FailsToSign (asked query outcome) = outcome ≡ Err Signer
FailsToSign (responded request given) = ⊥

-- if the result of a call is a fault of the signer, the signer counted a failure: its count before and after
abbrev pub CountsFailure : ℕ → Call → ℕ → Type 0
CountsFailure before call after = FailsToSign call → before < after

-- an office gets a call for a line: its records make one step, and if the signer fails, the signer counts the failure
abbrev pub LineCalls : {O : Type 0} → Office O → O → ℕ → Call → O → Type 0
LineCalls office s now call t =
    Leads office.is_clean office.stands
    (λ signers before after. Lines office.signs signers before now call after) s t
    × CountsFailure (office.failures s) call (office.failures t)
