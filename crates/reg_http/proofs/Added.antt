-- What an HTTP request adds to the records.
use Rattle.std.proofs.Common.{◌≡◌, ℕ, List, ap, inl, inr}
use Rattle.std.specs.Prelude.{Option, Some, None, Result, Ok, Err}
use Rattle.reg_core.specs.Changes.{with_request}
use Rattle.reg_core.specs.Crls.{CertList}
use Rattle.reg_core.specs.Records.{Records}
use Rattle.reg_core.specs.Status.{counts}
use Rattle.reg_core.specs.Step.{StepBy, refusal, request_row}
use Rattle.reg_core.specs.declared.command.Command.TheVariants.{Request}
use Rattle.reg_core.specs.declared.command.Reply.{Reply}
use Rattle.reg_core.specs.declared.memory.Memory.{Memory as NoMemory}
use Rattle.reg_core.specs.declared.refusal.Refusal.{Refusal}
use Rattle.reg_core.specs.declared.refusal.Fault.{Fault}
use Rattle.reg_core.specs.declared.refusal.Fault.TheVariants.{Refused, Memory, Store, Signer, Read, Write}
use Rattle.reg_core.specs.declared.rows.RequestRow.{RequestRow}
use Rattle.reg_http.specs.Added.{AddsARequestAtMost}
use Rattle.reg_http.specs.Answers.{of_any_kind}
use Rattle.reg_core_laws.specs.Run.{Happens}
use Rattle.reg_office_api.specs.CallSteps.{Signs, AnswersOcsp}
use Rattle.reg_office_api.specs.Responses.{Replies}
use Rattle.reg_office_api.specs.Signers.{OfficeSigners}
use Rattle.reg_office_api.specs.declared.response.ResponseKind.{ResponseKind}

-- records that stay
pub nothing_added : (now : ℕ) (before after : Records) → after ≡ before → AddsARequestAtMost now before after
nothing_added now before after same = record {
  added = inl same;
  counted = (λ moment. ap (λ (records : Records). counts records moment) same);
}

-- records with one request more
pub one_added : (now : ℕ) (before after : Records) (row : RequestRow) → after ≡ with_request before now row → AddsARequestAtMost now before after
one_added now before after row same = record {
  added = inr (row, same);
  counted = (λ moment. ap (λ (records : Records). counts records moment) same);
}

-- a step of a request
step_adds : (signed : CertList → List ℕ → Type 0) (now serial : ℕ) (word : List ℕ) (before after : Records) (outcome : Result Reply Fault) (found : Option Refusal)
    → StepBy signed found before now (Request serial word) outcome after → AddsARequestAtMost now before after
step_adds signed now serial word before after outcome (Some why) step = nothing_added now before after step.1
step_adds signed now serial word before after outcome None (bytes, replies, unsigned, same) =
    one_added now before after (request_row before now serial word) same

-- a request for revocation
pub request_adds : (signed : CertList → List ℕ → Type 0) (now serial : ℕ) (word : List ℕ) (before after : Records) (outcome : Result Reply Fault)
    → Happens signed before now (Request serial word) outcome after → AddsARequestAtMost now before after
request_adds signed now serial word before after (Ok reply) step =
    step_adds signed now serial word before after (Ok reply) (refusal before now (Request serial word)) step
request_adds signed now serial word before after (Err (Refused why)) step =
    step_adds signed now serial word before after (Err (Refused why)) (refusal before now (Request serial word)) step
request_adds signed now serial word before after (Err Memory) fault = nothing_added now before after fault.1
request_adds signed now serial word before after (Err Store) fault = nothing_added now before after fault.1
request_adds signed now serial word before after (Err Signer) fault = nothing_added now before after fault.2
request_adds signed now serial word before after (Err Read) fault = absurd fault
request_adds signed now serial word before after (Err Write) fault = absurd fault

-- an OCSP response changes nothing
pub replies_stay : (signs : Signs) (signers : OfficeSigners) (before : Records) (now : ℕ) (request : List ℕ) (given : Result (ResponseKind × List ℕ) NoMemory)
    (after : Records) → Replies signs signers before now request given after → after ≡ before
replies_stay signs signers before now request (Ok response) after came = came.1
replies_stay signs signers before now request (Err memory) after came = came

pub ocsp_stays : (signs : Signs) (signers : OfficeSigners) (before : Records) (now : ℕ) (request : List ℕ) (given : Result (ResponseKind × List ℕ) NoMemory)
    (after : Records) → of_any_kind (AnswersOcsp signs signers) before now request given after → after ≡ before
ocsp_stays signs signers before now request (Ok response) after came = came.1
ocsp_stays signs signers before now request (Err memory) after came = came
