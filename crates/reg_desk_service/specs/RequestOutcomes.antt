-- The outcome of a request at a desk that may leave an OCSP response to be signed.
use Rattle.std.specs.Prelude.{◌≡◌, ℕ, List, Result, Ok, Err}
use Rattle.reg_office_api.specs.CallSteps.{Signs}
use Rattle.reg_office_api.specs.Drafts.{Drafts}
use Rattle.reg_office_api.specs.Signers.{OfficeSigners}
use Rattle.reg_core.specs.Records.{Records}
use Rattle.reg_core.specs.declared.memory.Memory.{Memory as NoMemory}
use Rattle.reg_http_head.specs.Frame.{asked}
use Rattle.reg_http.specs.Added.{AddsARequestAtMost}
use Rattle.reg_http.specs.RoutedRequests.{ocsp_of, path_of, asked as asks_for}
use Rattle.reg_http.specs.RouteNames.{route_at}
use Rattle.reg_http.specs.AnswerEffects.{answer_effects}
use Rattle.reg_http.specs.declared.answered.HttpAnswer.{HttpAnswer}
use Rattle.reg_http.specs.declared.exchange.Exchange.{Exchange}
use Rattle.reg_http.specs.declared.exchange.UnsignedResponse.{UnsignedResponse}
use Rattle.reg_ocsp.specs.Drafts.{Drafted}
use Rattle.reg_io.specs.declared.begun.ReadyOrUnsigned.{ReadyOrUnsigned}
use Rattle.reg_io.specs.declared.begun.ReadyOrUnsigned.TheVariants.{Ready, Unsigned}
use Rattle.reg_desk_service.specs.Exchanges.{AnswersAt, IsExchange, IsRouteOf, Says, dispatch}
use Rattle.reg_desk_service.specs.FinishedResponses.{FinishesAt}
use Rattle.reg_desk_service.specs.declared.admission.Admission.{Admission}
use Rattle.reg_desk_service.specs.declared.http_exchanges.DeskKind.{DeskKind}
use Rattle.reg_desk_service.specs.declared.http_exchanges.Dispatch.{Dispatch}
use Rattle.reg_desk_service.specs.declared.http_exchanges.Dispatch.TheVariants.{ToRegister, ToLimits}

-- an answer that is ready, or out of memory
abbrev pub ready_of : Result HttpAnswer NoMemory → Result (ReadyOrUnsigned HttpAnswer Drafted) NoMemory
ready_of (Ok answered) = Ok (Ready answered)
ready_of (Err memory) = Err memory

-- only the register may leave a response to be signed, also for a request that an open desk first compares with its limits
abbrev pub MayNeedSignature : Dispatch → Type 0
MayNeedSignature ToRegister = Unit {0}
MayNeedSignature ToLimits = Unit {0}
MayNeedSignature other = ⊥

-- the outcome of a request that was read: an answer; or, only by the register, a response to be signed; or out of memory
abbrev pub BeginsAt
    : DeskKind → Signs → ℕ → Admission → OfficeSigners → Records → List ℕ → List ℕ → List ℕ
    → Result (ReadyOrUnsigned HttpAnswer Drafted) NoMemory → Records → Type 0
BeginsAt kind signs now admission signers before method target body (Ok (Ready answered)) after =
    Says signs now admission signers before (answer_effects answered) after kind
    (asked method target body)
    × AddsARequestAtMost now before after
BeginsAt kind signs now admission signers before method target body (Ok (Unsigned draft)) after =
    MayNeedSignature (dispatch kind (route_at (path_of target)))
    × ((request : List ℕ) × (asks_for method target body ≡ ocsp_of request)
    × Drafts signers before now request draft after)
BeginsAt kind signs now admission signers before method target body (Err memory) after = after ≡ before

-- the answer to the bytes that came: an exchange that is ready; or a response to be signed, such that any text that finishes it is that of an
-- exchange. The records gain at most one request for revocation.
abbrev pub AnswersBegun
    : (List ℕ → List ℕ → Type 0) → DeskKind → Signs → ℕ → Admission → Admission → OfficeSigners → Records → List ℕ
    → ReadyOrUnsigned Exchange UnsignedResponse → Records → Type 0
AnswersBegun signer_answered kind signs now admission admission' signers before request
    (Ready exchange) after =
    IsExchange kind signs now admission admission' signers before request exchange after
    × AddsARequestAtMost now before after
AnswersBegun signer_answered kind signs now admission admission' signers before request
    (Unsigned left) after =
    ((text : List ℕ) → FinishesAt signer_answered left.draft now text
    → AnswersAt kind signs now admission admission' signers before request text after)
    × AddsARequestAtMost now before after

-- the route under which the exchange is counted
abbrev pub IsBegunRoute : List ℕ → ReadyOrUnsigned Exchange UnsignedResponse → Type 0
IsBegunRoute request (Ready exchange) = IsRouteOf request exchange.route
IsBegunRoute request (Unsigned left) = IsRouteOf request left.route
