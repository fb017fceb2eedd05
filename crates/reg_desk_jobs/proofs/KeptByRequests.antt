-- An HTTP request to a follower leaves the records as they are.
use Rattle.std.proofs.Common.{◌≡◌, ℕ, Bool, true, false, List, [], Global, Vec, None, Result, Ok, Err, arith, inr, refl, subst}
use Rattle.reg_core.specs.Records.{Records}
use Rattle.reg_core.specs.declared.memory.Memory.{Memory as NoMemory}
use Rattle.reg_desk_metrics.specs.declared.follower_status.FollowerStatus.{FollowerStatus}
use Rattle.reg_http_head.specs.Frame.{RequestMeaning, asked, refused}
use Rattle.reg_http.specs.AnswerEffects.{AnswerEffects, plain}
use Rattle.reg_http.specs.Answers.{Answers}
use Rattle.reg_http.specs.Bodies.{http_refusal}
use Rattle.reg_http.specs.RouteNames.{route_at}
use Rattle.reg_http.specs.RoutedRequests.{RoutedRequest, counts_of, crl_of, malformed, method_not_allowed, ocsp_of, path_of, request_of, status_of, unreadable}
use Rattle.reg_http.specs.RoutedRequests.{asked as asks_for, refused as is_refused}
use Rattle.reg_http.specs.declared.exchange.Exchange.{Exchange}
use Rattle.reg_http.specs.declared.route.Route.{Route}
use Rattle.reg_http.specs.declared.route.Route.TheVariants.{Ocsp, OcspRest, Crl, CrlNumber, Status, Counts, Requests, List as ListOf, Health, Metrics, Changes, Other}
use Rattle.reg_ocsp.specs.Drafts.{drafted_response}
use Rattle.reg_office_api.specs.CallSteps.{Asks, GivesCrl, Runs, Signs}
use Rattle.reg_office_api.specs.Responses.{Replies}
use Rattle.reg_office_api.specs.Signers.{OfficeSigners}
use Rattle.reg_office_api.specs.declared.effects.SignatureOutcome.TheVariants.{Failed}
use Rattle.reg_office_api.specs.declared.effects.StoreEffect.TheVariants.{Unwritten}
use Rattle.reg_office_api.specs.declared.response.ResponseKind.{ResponseKind}
use Rattle.reg_desk_service.specs.Exchanges.{AnswersAtRoute, dispatch_following}
use Rattle.reg_desk_service.specs.FinishedResponses.{FinishesUnsigned}
use Rattle.reg_desk_service.specs.declared.admission.Admission.{Admission}
use Rattle.reg_desk_service.specs.declared.unsigned_responses.Unsigned.{Unsigned}
use Rattle.reg_desk_jobs.proofs.RequestsPath.{AsksRevocation, asks_at_requests}

-- ---- by the route

module _ (signs : Signs) (now : ℕ) (admission : Admission) (signers : OfficeSigners) (before : Records) (it : AnswerEffects) (after : Records) where
  reply_keeps : (request : List ℕ) (given : Result (ResponseKind × List ℕ) NoMemory) → Replies signs signers before now request given after → after ≡ before
  reply_keeps request (Ok response) replies = replies.1
  reply_keeps request (Err memory) same = same

  -- only a request for revocation changes the records
  answer_keeps : (what : RoutedRequest) → ¬ AsksRevocation what → Answers (Runs signs signers) Asks (Replies signs signers) GivesCrl now before what it after → after ≡ before
  answer_keeps (is_refused status) not answers = answers.0
  answer_keeps (method_not_allowed method) not answers = answers.0
  answer_keeps unreadable not answers = answers.0
  answer_keeps malformed not answers = answers.0
  answer_keeps (ocsp_of request) not answers = reply_keeps request answers.0 answers.1
  answer_keeps (crl_of number) not answers = answers.1.1
  answer_keeps (status_of serial) not answers = answers.1.1
  answer_keeps counts_of not answers = answers.1.1
  answer_keeps (request_of serial word) not answers = absurd (not tt)

  module _ (method target body : List ℕ) where
    -- a follower answers at this route
    abbrev SaysAt : FollowerStatus → Route → Type 0
    SaysAt follower at = AnswersAtRoute signs now admission signers before it after (dispatch_following follower at) method target body

    -- within its lag, or once that is over
    by_lag : (follower : FollowerStatus) (at : Route) → (SaysAt (record follower { is_current = true }) at → after ≡ before)
        → (SaysAt (record follower { is_current = false }) at → after ≡ before) → SaysAt follower at → after ≡ before
    by_lag follower at current behind answers = go follower.is_current refl
      where
        at_lag : (is_current : Bool) → follower.is_current ≡ is_current → SaysAt (record follower { is_current = is_current }) at
        at_lag is_current e = subst (λ (b : Bool). SaysAt (record follower { is_current = b }) at) e answers

        go : (is_current : Bool) → follower.is_current ≡ is_current → after ≡ before
        go true e = current (at_lag true e)
        go false e = behind (at_lag false e)

    route_keeps : (follower : FollowerStatus) (at : Route) → (AsksRevocation (asks_for method target body) → at ≡ Requests) → SaysAt follower at → after ≡ before
    route_keeps follower Health only answers = answers.1
    route_keeps follower Metrics only answers = answers.1
    route_keeps follower Changes only answers = answers.1
    route_keeps follower Requests only answers = answers.1
    route_keeps follower Ocsp only answers = by_lag follower Ocsp (answer_keeps (asks_for method target body) (λ asks. let same = only asks in cc)) (λ refuses. refuses.1) answers
    route_keeps follower OcspRest only answers = by_lag follower OcspRest (answer_keeps (asks_for method target body) (λ asks. let same = only asks in cc)) (λ refuses. refuses.1) answers
    route_keeps follower Crl only answers = by_lag follower Crl (answer_keeps (asks_for method target body) (λ asks. let same = only asks in cc)) (λ refuses. refuses.1) answers
    route_keeps follower CrlNumber only answers = by_lag follower CrlNumber (answer_keeps (asks_for method target body) (λ asks. let same = only asks in cc)) (λ refuses. refuses.1) answers
    route_keeps follower Status only answers = by_lag follower Status (answer_keeps (asks_for method target body) (λ asks. let same = only asks in cc)) (λ refuses. refuses.1) answers
    route_keeps follower Counts only answers = by_lag follower Counts (answer_keeps (asks_for method target body) (λ asks. let same = only asks in cc)) (λ refuses. refuses.1) answers
    route_keeps follower Other only answers = by_lag follower Other (answer_keeps (asks_for method target body) (λ asks. let same = only asks in cc)) (λ refuses. refuses.1) answers
    route_keeps follower ListOf only answers = by_lag follower ListOf (λ lists. lists.1) (λ refuses. refuses.1) answers

  -- the answer of a follower to a request that was read
  abbrev pub SaysFollowing : FollowerStatus → RequestMeaning → Type 0
  SaysFollowing follower (refused status) = (it ≡ plain (http_refusal status)) × (after ≡ before)
  SaysFollowing follower (asked method target body) = SaysAt method target body follower (route_at (path_of target))

  pub request_keeps : (follower : FollowerStatus) (part : RequestMeaning) → SaysFollowing follower part → after ≡ before
  request_keeps follower (refused status) refuses = refuses.1
  request_keeps follower (asked method target body) answers =
      route_keeps method target body follower (route_at (path_of target)) (asks_at_requests method target body) answers

-- a text without bytes
emptied : Vec ℕ Global → (text : Vec ℕ Global) × (text.items ≡ [])
emptied text = (record text { len = 0; cap = 0; items = []; ok = (refl, omega arith); small = omega arith }, refl)

-- each response that is left to be signed may be finished, if only by an empty text
pub finished : (signer_answered : List ℕ → List ℕ → Type 0) (ticket : Unsigned) → (text : List ℕ) × FinishesUnsigned signer_answered ticket text
finished signer_answered ticket =
    let (text, empty) = emptied ticket.log_prefix in
    let exchange : Exchange = record { route = Other; status = None; signature = Failed; store = Unwritten; named = None; text = text } in (
      text.items,
      record {
        signature = None;
        signed = tt;
        exchange = exchange;
        finished = record {
          given = Ok (drafted_response ticket.draft None);
          made = refl;
          answer_text = inr (inr (refl, empty));
          signature_outcome = refl;
          store = refl;
        };
        text_is = refl;
      },
    )
