-- The answer to each request, by the calls of the office.
use Rattle.std.specs.Prelude.{◌≡◌, ℕ, List, Option, Result, Ok, Err, codes}
use Rattle.reg_office_api.specs.Calls.{RunsIn, AsksIn, AnswersOcspIn, RepliesIn, DraftsIn, GivesCrlIn}
use Rattle.reg_office_api.specs.declared.office.Office.{Ghosts as Office}
use Rattle.reg_office_api.specs.declared.response.OcspResponse.{OcspResponse}
use Rattle.reg_office_api.specs.declared.response.ResponseKind.{ResponseKind}
use Rattle.reg_core.specs.declared.command.Command.{Command}
use Rattle.reg_core.specs.declared.command.Command.TheVariants.{Request}
use Rattle.reg_core.specs.declared.command.Query.{Query}
use Rattle.reg_core.specs.declared.command.Query.TheVariants.{Status, Counts}
use Rattle.reg_core.specs.declared.command.Reply.{Reply}
use Rattle.reg_core.specs.declared.memory.Memory.{Memory as NoMemory}
use Rattle.reg_core.specs.declared.refusal.Fault.{Fault}
use Rattle.reg_core.specs.declared.refusal.Fault.TheVariants.{Refused}
use Rattle.reg_core.specs.declared.refusal.Refusal.TheVariants.{Syntax}
use Rattle.reg_http_head.specs.Response.{Response}
use Rattle.reg_http.specs.RoutedRequests.{RoutedRequest, refused, method_not_allowed, unreadable, malformed, ocsp_of, crl_of, status_of, counts_of, request_of}
use Rattle.reg_http.specs.Bodies.{http_refusal, fault_response, der, malformed_text}
use Rattle.reg_http.specs.Bodies.{method_not_allowed as only_response}
use Rattle.reg_http.specs.AnswerEffects.{AnswerEffects, plain, outcome_effects, request_effects, crl_effects, ocsp_effects, answer_effects}
use Rattle.reg_http.specs.declared.answered.HttpAnswer.{HttpAnswer}
use Rattle.reg_ocsp.specs.Drafts.{Drafted}
use Rattle.reg_io.specs.declared.begun.ReadyOrUnsigned.{ReadyOrUnsigned}
use Rattle.reg_io.specs.declared.begun.ReadyOrUnsigned.TheVariants.{Ready, Unsigned}

-- The office's relations: a command, a query, an OCSP request and a CRL; `s` is the office before, `t` after.
module _ {S : Type 0} (runs : S → ℕ → Command → Result Reply Fault → S → Type 0)
    (asks : S → ℕ → Query → Result Reply Fault → S → Type 0)
    (replies : S → ℕ → List ℕ → Result (ResponseKind × List ℕ) NoMemory → S → Type 0)
    (gives_crl : S → Option ℕ → Result (List ℕ) Fault → S → Type 0) where
  -- the answer to a request, with at most one call of the office; only a request for revocation runs a command
  abbrev pub Answers : ℕ → S → RoutedRequest → AnswerEffects → S → Type 0
  Answers now s (refused status) it t = (t ≡ s) × (it ≡ plain (http_refusal status))
  Answers now s (method_not_allowed method) it t = (t ≡ s) × (it ≡ plain (only_response method))
  Answers now s unreadable it t = (t ≡ s) × (it ≡ plain (fault_response (Refused Syntax)))
  Answers now s malformed it t =
      (t ≡ s) × (it ≡ plain (der (codes "application/ocsp-response") malformed_text))
  Answers now s (ocsp_of request) it t =
      (given : Result (ResponseKind × List ℕ) NoMemory) × replies s now request given t
      × (it ≡ ocsp_effects given)
  Answers now s (crl_of number) it t =
      (given : Result (List ℕ) Fault) × gives_crl s number given t × (it ≡ crl_effects given)
  Answers now s (status_of serial) it t =
      (given : Result Reply Fault) × asks s now (Status serial) given t × (it ≡ outcome_effects given)
  Answers now s counts_of it t =
      (given : Result Reply Fault) × asks s now Counts given t × (it ≡ outcome_effects given)
  Answers now s (request_of serial word) it t =
      (given : Result Reply Fault) × runs s now (Request serial word) given t
      × (it ≡ request_effects serial word given)

  -- the answer to a request; or the draft of a response to be signed, if it is an OCSP request
  abbrev pub BeginsTo
      : (S → ℕ → List ℕ → Drafted → S → Type 0) → ℕ → S → RoutedRequest → ReadyOrUnsigned HttpAnswer Drafted → S
      → Type 0
  BeginsTo drafts now s what (Ready answered) t = Answers now s what (answer_effects answered) t
  BeginsTo drafts now s what (Unsigned draft) t =
      (request : List ℕ) × (what ≡ ocsp_of request) × drafts s now request draft t

-- the answer with the OCSP response that the office began; or the draft, if the response is to be signed
abbrev pub BeginsOcsp
    : Result (ReadyOrUnsigned OcspResponse Drafted) NoMemory → ReadyOrUnsigned HttpAnswer Drafted → Type 0
BeginsOcsp (Ok (Ready response)) (Ready answered) =
    answer_effects answered ≡ ocsp_effects (Ok (response.kind, response.bytes.items))
BeginsOcsp (Ok (Ready response)) (Unsigned draft) = ⊥
BeginsOcsp (Ok (Unsigned draft)) (Ready answered) = ⊥
BeginsOcsp (Ok (Unsigned draft)) (Unsigned left) = left ≡ draft
BeginsOcsp (Err memory) (Ready answered) = answer_effects answered ≡ ocsp_effects (Err memory)
BeginsOcsp (Err memory) (Unsigned draft) = ⊥

-- an OCSP response without its kind
abbrev pub bytes_in : Result (ResponseKind × List ℕ) NoMemory → Result (List ℕ) NoMemory
bytes_in (Ok given) = Ok given.1
bytes_in (Err memory) = Err memory

-- the relation of responses with a kind, from one without kinds: any kind will do
abbrev pub of_any_kind : {S : Type 0} → (S → ℕ → List ℕ → Result (List ℕ) NoMemory → S → Type 0)
    → S → ℕ → List ℕ → Result (ResponseKind × List ℕ) NoMemory → S → Type 0
of_any_kind answers_ocsp s now request given t = answers_ocsp s now request (bytes_in given) t

-- the response to a request, if OCSP responses are bytes without a kind
abbrev pub RespondsTo
    : {S : Type 0} → (S → ℕ → Command → Result Reply Fault → S → Type 0)
    → (S → ℕ → Query → Result Reply Fault → S → Type 0)
    → (S → ℕ → List ℕ → Result (List ℕ) NoMemory → S → Type 0)
    → (S → Option ℕ → Result (List ℕ) Fault → S → Type 0)
    → ℕ → S → RoutedRequest → Response → S → Type 0
RespondsTo runs asks answers_ocsp gives_crl now s what response t =
    (it : AnswerEffects) × Answers runs asks (of_any_kind answers_ocsp) gives_crl now s what it t
    × (response ≡ it.response)

-- the answers of an office, with its relations
abbrev pub AnswersIn : {O : Type 0} → Office O → ℕ → O → RoutedRequest → AnswerEffects → O → Type 0
AnswersIn office = Answers (RunsIn office) (AsksIn office) (RepliesIn office) (GivesCrlIn office)

-- the same, or the draft of a response to be signed
abbrev pub BeginsIn
    : {O : Type 0} → Office O → ℕ → O → RoutedRequest → ReadyOrUnsigned HttpAnswer Drafted → O → Type 0
BeginsIn office =
    BeginsTo (RunsIn office) (AsksIn office) (RepliesIn office) (GivesCrlIn office) (DraftsIn office)

-- the responses of an office, by its calls
abbrev pub RespondsIn : {O : Type 0} → Office O → ℕ → O → RoutedRequest → Response → O → Type 0
RespondsIn office = RespondsTo (RunsIn office) (AsksIn office) (AnswersOcspIn office) (GivesCrlIn office)
