-- The outcomes of commands, batches of commands, queries, OCSP requests and requests for CRLs, and the records after them.
use Rattle.std.specs.Prelude.{◌≡◌, ℕ, List, Option, Result, Ok, Err, Vec}
use Rattle.reg_core.specs.Records.{Records}
use Rattle.reg_core.specs.declared.command.Command.{Command}
use Rattle.reg_core.specs.declared.command.Query.{Query}
use Rattle.reg_core.specs.declared.command.Reply.{Reply}
use Rattle.reg_core.specs.declared.memory.Memory.{Memory as NoMemory}
use Rattle.reg_core.specs.declared.refusal.Fault.{Fault}
use Rattle.reg_crl.specs.Signing.{signed_by}
use Rattle.reg_core_laws.specs.Run.{Happens, Run}
use Rattle.reg_office_api.specs.Answered.{IsAnswered, IsGiven}
use Rattle.reg_office_api.specs.Ocsp.{IsOcspReply}
use Rattle.reg_office_api.specs.Signers.{OfficeSigners}
pub use Rattle.reg_office_api.specs.Signers.{Signs}

-- a command: its outcome by the rules (`Happens`), with CRLs by the office's signer of CRLs
abbrev pub Runs : Signs → OfficeSigners → Records → ℕ → Command → Result Reply Fault → Records → Type 0
Runs signs signers = Happens (signed_by signs signers.crls)

-- commands in one transaction, each at its moment: one outcome each, by the rules and in their order (`Run`); or a fault, and the records stay
abbrev pub RunsBatch
    : {Z : Type 0} → Signs → OfficeSigners → Records → List (ℕ × Command)
    → Result (Vec (Result Reply Fault) Z) Fault → Records → Type 0
RunsBatch signs signers before commands (Ok outcomes) after =
    Run (signed_by signs signers.crls) before commands outcomes.items after
RunsBatch signs signers before commands (Err fault) after = after ≡ before

-- a query: its answer; the records stay
abbrev pub Asks : Records → ℕ → Query → Result Reply Fault → Records → Type 0
Asks before now query outcome after = IsAnswered before now query outcome × (after ≡ before)

-- an OCSP request: its response (RFC 6960 4.2), or out of memory; the records stay
abbrev pub AnswersOcsp : Signs → OfficeSigners → Records → ℕ → List ℕ → Result (List ℕ) NoMemory → Records → Type 0
AnswersOcsp signs signers before now request (Ok response) after =
    IsOcspReply signs signers.answers before now request response × (after ≡ before)
AnswersOcsp signs signers before now request (Err memory) after = after ≡ before

-- the bytes of a CRL, or why there are none; the records stay
abbrev pub GivesCrl : Records → Option ℕ → Result (List ℕ) Fault → Records → Type 0
GivesCrl before number given after = IsGiven before number given × (after ≡ before)

-- ---- the same calls, each as a step from the records before it to those after it, given the signers

abbrev pub CommandStep : Signs → ℕ → Command → Result Reply Fault → OfficeSigners → Records → Records → Type 0
CommandStep signs now command outcome =
    λ signers before after. Runs signs signers before now command outcome after

abbrev pub BatchStep
    : {Z : Type 0} → Signs → List (ℕ × Command) → Result (Vec (Result Reply Fault) Z) Fault → OfficeSigners
    → Records → Records → Type 0
BatchStep signs commands given =
    λ signers before after. RunsBatch signs signers before commands given after

abbrev pub QueryStep : ℕ → Query → Result Reply Fault → OfficeSigners → Records → Records → Type 0
QueryStep now query outcome = λ signers before after. Asks before now query outcome after

abbrev pub OcspStep : Signs → ℕ → List ℕ → Result (List ℕ) NoMemory → OfficeSigners → Records → Records → Type 0
OcspStep signs now request given =
    λ signers before after. AnswersOcsp signs signers before now request given after

abbrev pub CrlStep : Option ℕ → Result (List ℕ) Fault → OfficeSigners → Records → Records → Type 0
CrlStep number given = λ signers before after. GivesCrl before number given after
