-- Answers with the outcome of their signature, their effect on the store, and the request for revocation that was entered.
use Rattle.std.specs.Prelude.{ℕ, List, codes, Option, Some, Some as ground, None, Result, Ok, Err}
use Rattle.reg_office_api.specs.Responses.{signature_of, store_of, store_of_fault}
use Rattle.reg_office_api.specs.declared.effects.SignatureOutcome.{SignatureOutcome}
use Rattle.reg_office_api.specs.declared.effects.SignatureOutcome.TheVariants.{NotRequested}
use Rattle.reg_office_api.specs.declared.effects.StoreEffect.{StoreEffect}
use Rattle.reg_office_api.specs.declared.effects.StoreEffect.TheVariants.{Unwritten, Written}
use Rattle.reg_office_api.specs.declared.response.ResponseKind.{ResponseKind}
use Rattle.reg_core.specs.declared.command.Reply.{Reply}
use Rattle.reg_core.specs.declared.command.Reply.TheVariants.{Status, Counts, Request}
use Rattle.reg_core.specs.declared.memory.Memory.{Memory as NoMemory}
use Rattle.reg_core.specs.declared.refusal.Fault.{Fault}
use Rattle.reg_core.specs.declared.refusal.Fault.TheVariants.{Memory, Store}
use Rattle.reg_http_head.specs.Response.{Response, shown}
use Rattle.reg_http.specs.Bodies.{counts_text, der, due_text, fault_response, json, status_text}
use Rattle.reg_http.specs.declared.answered.HttpAnswer.{HttpAnswer}
use Rattle.reg_http.specs.declared.answered.LoggedRevocationRequest.{LoggedRevocationRequest}

-- the response of an answer, and its effects
pub record AnswerEffects : Type 0 where
  pub response : Response
  pub signature : SignatureOutcome
  pub store : StoreEffect
  pub named : Option LoggedRevocationRequest

-- the response and the effects of an `HttpAnswer`
abbrev pub answer_effects : HttpAnswer → AnswerEffects
answer_effects answered = record {
  response = shown answered.answer;
  signature = answered.signature;
  store = answered.store;
  named = answered.named;
}

-- a response that needed no signature and entered no request, with this effect on the store
abbrev pub unsigned_answer : Response → StoreEffect → AnswerEffects
unsigned_answer response effect =
    record { response = response; signature = NotRequested; store = effect; named = None }

-- a response that has no effect on the store either
abbrev pub plain : Response → AnswerEffects
plain response = unsigned_answer response Unwritten

-- the answer to a refusal or a fault, with its line
abbrev pub fault_effects : Fault → AnswerEffects
fault_effects fault = unsigned_answer (fault_response fault) (store_of_fault fault)

-- the answer to the reply of the office: 200 with the status, the counts or the new request; for another reply, the fault of the store
abbrev pub reply_effects : Reply → AnswerEffects
reply_effects (Status status) = plain (json 200 (status_text status))
reply_effects (Counts counts) = plain (json 200 (counts_text counts))
reply_effects (Request id due) = unsigned_answer (json 200 (due_text id due)) Written
reply_effects other = fault_effects Store

-- the answer to a reply, a refusal or a fault
abbrev pub outcome_effects : Result Reply Fault → AnswerEffects
outcome_effects (Ok reply) = reply_effects reply
outcome_effects (Err fault) = fault_effects fault

-- the request for revocation that a command entered, with the id in the reply, and the serial number and the word of the command
abbrev pub entered_request : ℕ → List ℕ → Result Reply Fault → Option LoggedRevocationRequest
entered_request serial word (Ok (Request id due)) =
    Some (record { id = id; serial = serial; ground = ground word })
entered_request serial word other = None

-- the answer to a request for revocation, with the request that was entered
abbrev pub request_effects : ℕ → List ℕ → Result Reply Fault → AnswerEffects
request_effects serial word outcome =
    record (outcome_effects outcome) { named = entered_request serial word outcome }

-- the answer with a CRL (RFC 2585 4.2), or with the refusal or fault
abbrev pub crl_effects : Result (List ℕ) Fault → AnswerEffects
crl_effects (Ok body) = plain (der (codes "application/pkix-crl") body)
crl_effects (Err fault) = fault_effects fault

-- an OCSP response, of any status (RFC 6960 A.2), with its kind; out of memory is a fault
abbrev pub ocsp_effects : Result (ResponseKind × List ℕ) NoMemory → AnswerEffects
ocsp_effects (Ok given) = record {
  response = der (codes "application/ocsp-response") given.1;
  signature = signature_of given.0;
  store = store_of given.0;
  named = None;
}
ocsp_effects (Err memory) = fault_effects Memory
