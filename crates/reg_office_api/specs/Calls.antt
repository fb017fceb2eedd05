-- Calls of an office as relations between the office before and the office after.
use Rattle.std.specs.Prelude.{◌≡◌, ℕ, List, Option, Result}
use Rattle.reg_core.specs.Records.{Records}
use Rattle.reg_core.specs.declared.command.Command.{Command}
use Rattle.reg_core.specs.declared.command.Query.{Query}
use Rattle.reg_core.specs.declared.command.Reply.{Reply}
use Rattle.reg_core.specs.declared.memory.Memory.{Memory as NoMemory}
use Rattle.reg_core.specs.declared.refusal.Fault.{Fault}
use Rattle.reg_ocsp.specs.Drafts.{Drafted}
use Rattle.reg_office_api.specs.CallSteps.{CommandStep, QueryStep, OcspStep, CrlStep}
use Rattle.reg_office_api.specs.Drafts.{Drafts}
use Rattle.reg_office_api.specs.Leads.{Leads, Looks}
use Rattle.reg_office_api.specs.Responses.{Replies}
use Rattle.reg_office_api.specs.Signers.{OfficeSigners}
use Rattle.reg_office_api.specs.declared.office.Office.{Ghosts as Office}
use Rattle.reg_office_api.specs.declared.response.ResponseKind.{ResponseKind}

module _ {O : Type 0} (office : Office O) where
  -- a call as a step of the records that the office keeps
  abbrev pub LeadsIn : (OfficeSigners → Records → Records → Type 0) → O → O → Type 0
  LeadsIn step s t = Leads office.is_clean office.stands step s t

  -- a call that does not change the records, and for whose result `IsSo` holds of them
  abbrev pub LooksIn : (Records → Type 0) → O → O → Type 0
  LooksIn IsSo s t = Looks office.is_clean office.stands IsSo s t

  -- a call that does not change the records
  abbrev pub KeepsIn : O → O → Type 0
  KeepsIn s t = Leads office.is_clean office.stands (λ signers before after. after ≡ before) s t

  -- a command
  abbrev pub RunsIn : O → ℕ → Command → Result Reply Fault → O → Type 0
  RunsIn s now command outcome t =
      Leads office.is_clean office.stands (CommandStep office.signs now command outcome) s t

  -- a query
  abbrev pub AsksIn : O → ℕ → Query → Result Reply Fault → O → Type 0
  AsksIn s now query outcome t = Leads office.is_clean office.stands (QueryStep now query outcome) s t

  -- an OCSP request, with the bytes of its response
  abbrev pub AnswersOcspIn : O → ℕ → List ℕ → Result (List ℕ) NoMemory → O → Type 0
  AnswersOcspIn s now request given t =
      Leads office.is_clean office.stands (OcspStep office.signs now request given) s t

  -- an OCSP request, with the kind and the bytes of its response
  abbrev pub RepliesIn : O → ℕ → List ℕ → Result (ResponseKind × List ℕ) NoMemory → O → Type 0
  RepliesIn s now request given t =
      Leads office.is_clean office.stands
      (λ signers before after. Replies office.signs signers before now request given after) s t

  -- an OCSP request, with a draft of its response that is not signed yet
  abbrev pub DraftsIn : O → ℕ → List ℕ → Drafted → O → Type 0
  DraftsIn s now request draft t =
      Leads office.is_clean office.stands
      (λ signers before after. Drafts signers before now request draft after) s t

  -- the bytes of a CRL
  abbrev pub GivesCrlIn : O → Option ℕ → Result (List ℕ) Fault → O → Type 0
  GivesCrlIn s number given t = Leads office.is_clean office.stands (CrlStep number given) s t
