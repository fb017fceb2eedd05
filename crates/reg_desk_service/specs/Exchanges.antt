-- HTTP requests to a desk: which part of it answers each, and what the answer is.
use Rattle.std.specs.Prelude.{◌≡◌, ◌⊎◌, ℕ, Bool, true, false, cond, List, Ok}
use Rattle.reg_core.specs.Records.{Records}
use Rattle.reg_office_api.specs.Signers.{OfficeSigners}
use Rattle.reg_office_api.specs.CallSteps.{Signs, Runs, Asks, GivesCrl}
use Rattle.reg_office_api.specs.Responses.{Replies}
use Rattle.reg_http_head.specs.Collected.{HoldsRequest}
use Rattle.reg_http_head.specs.Frame.{IsUnfinished, RequestMeaning, asked, refused}
use Rattle.reg_http.specs.Added.{AddsARequestAtMost}
use Rattle.reg_http.specs.Answers.{Answers}
use Rattle.reg_http.specs.RoutedRequests.{RoutedRequest, path_of, requested_serial, asked as asks_for}
use Rattle.reg_http.specs.Bodies.{http_refusal, ocsp_reply}
use Rattle.reg_http.specs.Exchanges.{IsEmpty, IsMemoryAnswer, HasNoEffects, HasEffects}
use Rattle.reg_http.specs.Changes.{RespondsChanges, changes_request}
use Rattle.reg_http.specs.Lists.{RespondsList, list_request}
use Rattle.reg_http.specs.RouteNames.{named_route, route_at}
use Rattle.reg_http.specs.AnswerEffects.{AnswerEffects, plain}
use Rattle.reg_http.specs.declared.exchange.Exchange.{Exchange as HttpExchange}
use Rattle.reg_http.specs.declared.route.Route.{Route}
use Rattle.reg_http.specs.declared.route.Route.TheVariants.{Ocsp, OcspRest, Requests, List as ListOf, Health, Metrics, Changes}
use Rattle.reg_ocsp.specs.Response.{refusal_response}
use Rattle.reg_ocsp.specs.declared.response.RefusalStatus.TheVariants as refusal
use Rattle.reg_desk_service.specs.Admission.{AnswersAdmitted, after_request_if}
use Rattle.reg_desk_metrics.specs.declared.follower_status.FollowerStatus.{FollowerStatus}
use Rattle.reg_desk_service.specs.HealthRoutes.{ByGet, AnswersHealth, AnswersMetrics, AnswersFollowerHealth, AnswersFollowerMetrics}
use Rattle.reg_desk_service.specs.declared.admission.Admission.{Admission}
use Rattle.reg_desk_service.specs.declared.http_exchanges.DeskKind.{DeskKind}
use Rattle.reg_desk_service.specs.declared.http_exchanges.DeskKind.TheVariants.{Serving, Open, Following}
use Rattle.reg_desk_service.specs.declared.http_exchanges.Dispatch.{Dispatch}
use Rattle.reg_desk_service.specs.declared.http_exchanges.Dispatch.TheVariants.{ToRegister, ToLimits, ToList, ToHealth, ToMetrics, ToChanges, ToFollowerHealth, ToFollowerMetrics, TryLater, Refuse}

-- ---- requests

-- which part of an open desk answers a request: the register; or one that refuses requests for revocation beyond the limits, or answers with a page
-- of a list, the health, the metrics or a page of the changes feed
abbrev pub dispatch_open : Route → Dispatch
dispatch_open Requests = ToLimits
dispatch_open ListOf = ToList
dispatch_open Health = ToHealth
dispatch_open Metrics = ToMetrics
dispatch_open Changes = ToChanges
dispatch_open route = ToRegister

-- which part of a follower answers a request: it always reports its health and metrics, and gives neither changes nor requests for revocation; once
-- its lag is over, it refuses all else
abbrev pub dispatch_following : FollowerStatus → Route → Dispatch
dispatch_following follower Health = ToFollowerHealth follower
dispatch_following follower Metrics = ToFollowerMetrics follower
dispatch_following follower Changes = Refuse 404
dispatch_following follower Requests = Refuse 503
dispatch_following follower Ocsp = cond follower.is_current (dispatch_open Ocsp) TryLater
dispatch_following follower OcspRest = cond follower.is_current (dispatch_open OcspRest) TryLater
dispatch_following follower route = cond follower.is_current (dispatch_open route) (Refuse 503)

-- which part answers a request, by the kind of the desk
abbrev pub dispatch : DeskKind → Route → Dispatch
dispatch Serving route = ToRegister
dispatch Open route = dispatch_open route
dispatch (Following follower) route = dispatch_following follower route

-- the kind of a desk that is open, or only serves
abbrev pub kind_of_desk : Bool → DeskKind
kind_of_desk true = Open
kind_of_desk false = Serving

-- the admission after this part answered a request: only `ToLimits` may count it, if it is for a serial number
abbrev pub admission_by : Dispatch → ℕ → RoutedRequest → Admission → Admission
admission_by ToLimits now what admission = after_request_if now (requested_serial what) admission
admission_by other now what admission = admission

-- the same by the kind of the desk; a refused request is not counted
abbrev pub admission_after : DeskKind → ℕ → RequestMeaning → Admission → Admission
admission_after kind now (refused status) admission = admission
admission_after kind now (asked method target body) admission =
    admission_by (dispatch kind (route_at (path_of target))) now (asks_for method target body) admission

-- The answer to a request that was read. The register is asked at most once, and the records gain at most one request for revocation.
module _ (signs : Signs) (now : ℕ) (admission : Admission) (signers : OfficeSigners) (before : Records)
    (it : AnswerEffects) (after : Records) where
  -- by the part that answers
  abbrev pub AnswersAtRoute : Dispatch → List ℕ → List ℕ → List ℕ → Type 0
  AnswersAtRoute ToRegister method target body =
      Answers (Runs signs signers) Asks (Replies signs signers) GivesCrl now before
      (asks_for method target body) it after
  AnswersAtRoute ToLimits method target body =
      AnswersAdmitted admission signs now signers before (asks_for method target body) it after
  AnswersAtRoute ToList method target body =
      RespondsList before now (list_request method target) it × (after ≡ before)
  AnswersAtRoute ToHealth method target body =
      ByGet method (AnswersHealth admission.accepted now before) it × (after ≡ before)
  AnswersAtRoute ToMetrics method target body = ByGet method (AnswersMetrics now before) it × (after ≡ before)
  AnswersAtRoute ToChanges method target body =
      RespondsChanges before (changes_request method target) it × (after ≡ before)
  AnswersAtRoute (ToFollowerHealth follower) method target body =
      ByGet method (AnswersFollowerHealth follower now before) it × (after ≡ before)
  AnswersAtRoute (ToFollowerMetrics follower) method target body =
      ByGet method (AnswersFollowerMetrics follower now before) it × (after ≡ before)
  AnswersAtRoute TryLater method target body =
      (it ≡ plain (ocsp_reply (Ok (refusal_response refusal.TryLater)))) × (after ≡ before)
  AnswersAtRoute (Refuse status) method target body = (it ≡ plain (http_refusal status)) × (after ≡ before)

  -- by the kind of the desk
  abbrev pub Says : DeskKind → RequestMeaning → Type 0
  Says kind (refused status) = (it ≡ plain (http_refusal status)) × (after ≡ before)
  Says kind (asked method target body) =
      AnswersAtRoute (dispatch kind (route_at (path_of target))) method target body

-- the route under which a request is counted: that of its target, or the one that its first line names
abbrev pub IsRouteOf : List ℕ → Route → Type 0
IsRouteOf request route =
    (route ≡ named_route request)
    ⊎ ((method target body : List ℕ) × ∥ HoldsRequest request (asked method target body) ∥₁
    × (route ≡ route_at (path_of target)))

-- the admission stays, or it is the one after the whole request with which the bytes begin
abbrev pub MayCount : DeskKind → ℕ → List ℕ → Admission → Admission → Type 0
MayCount kind now request admission admission' =
    (admission' ≡ admission)
    ⊎ ((part : RequestMeaning) × ∥ HoldsRequest request part ∥₁
    × (admission' ≡ admission_after kind now part admission))

-- One HTTP exchange (RFC 9112) of a desk at a moment, over the bytes that came on a connection. Either they begin with a whole request, which the
-- desk answered, and the admission is the one after it; or they do not, and the text is empty; or the text is the answer if out of memory. In the
-- last two cases no record changed, and a whole request was counted or not.
abbrev pub IsExchange
    : DeskKind → Signs → ℕ → Admission → Admission → OfficeSigners → Records → List ℕ → HttpExchange
    → Records → Type 0
IsExchange kind signs now admission admission' signers before request exchange after =
    ((part : RequestMeaning) × (it : AnswerEffects) × ∥ HoldsRequest request part ∥₁
    × Says signs now admission signers before it after kind part × HasEffects now it exchange
    × (admission' ≡ admission_after kind now part admission))
    ⊎ (HasNoEffects exchange × ((∥ IsUnfinished request ∥₁ × IsEmpty exchange) ⊎ IsMemoryAnswer exchange)
    × (after ≡ before) × MayCount kind now request admission admission')

-- the same for the text alone; the records gain at most one request for revocation, and no count of certificates by status changes
pub record AnswersAt (kind : DeskKind) (signs : Signs) (now : ℕ) (admission admission' : Admission)
    (signers : OfficeSigners) (before : Records) (request text : List ℕ) (after : Records) : Type 0 where
  pub exchange : HttpExchange
  pub is_exchange : IsExchange kind signs now admission admission' signers before request exchange after
  pub text_is : text ≡ exchange.text.items
  pub adds : AddsARequestAtMost now before after

-- the same at a moment of a clock
abbrev pub AnswersAs
    : DeskKind → Signs → (ℕ → Type 0) → Admission → Admission → OfficeSigners → Records → List ℕ → List ℕ
    → Records → Type 0
AnswersAs kind signs clock_reached admission admission' signers before request text after =
    (now : ℕ) × clock_reached now
    × AnswersAt kind signs now admission admission' signers before request text after

-- the same of a desk that is open, or only serves
abbrev pub AnswersBy
    : Bool → Signs → (ℕ → Type 0) → Admission → Admission → OfficeSigners → Records → List ℕ → List ℕ → Records
    → Type 0
AnswersBy is_open = AnswersAs (kind_of_desk is_open)
