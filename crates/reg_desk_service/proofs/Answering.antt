-- What a desk answers to what came on a connection, over an office that keeps records.
use Rattle.std.proofs.Common.{◌≡◌, ◌⊎◌, ℕ, Bool, List, inl, inr, sym, subst}
use Rattle.std.specs.Prelude.{Result, Ok, Err, IfOk}
use Rattle.reg_office_api.specs.CallSteps.{Signs}
use Rattle.reg_office_api.specs.Drafts.{Drafts}
use Rattle.reg_office_api.specs.Leads.{Leads}
use Rattle.reg_office_api.specs.Signers.{OfficeSigners}
use Rattle.reg_office_api.proofs.PublicLaws.{follows, stays}
use Rattle.reg_core.specs.Records.{Records}
use Rattle.reg_core.specs.declared.memory.Memory.{Memory as NoMemory}
use Rattle.reg_crl.specs.Signing.{Identity}
use Rattle.reg_http_head.specs.Collected.{HoldsRequest}
use Rattle.reg_http_head.specs.Frame.{asked, refused}
use Rattle.reg_http.specs.RoutedRequests.{path_of, asked as asks_for}
use Rattle.reg_http.specs.Bodies.{http_refusal}
use Rattle.reg_http.specs.Exchanges.{BeginsExchange}
use Rattle.reg_http.specs.RouteNames.{route_at}
use Rattle.reg_http.specs.AnswerEffects.{plain, answer_effects}
use Rattle.reg_http.specs.declared.answered.HttpAnswer.{HttpAnswer}
use Rattle.reg_http.specs.declared.exchange.Exchange.{Exchange}
use Rattle.reg_http.specs.declared.exchange.UnsignedResponse.{UnsignedResponse}
use Rattle.reg_http.specs.declared.route.Route.{Route}
use Rattle.reg_http.proofs.PublicLaws.{nothing_added}
use Rattle.reg_desk_server.specs.Exchange.{Outcome, said, pending, later}
use Rattle.reg_ocsp.specs.Drafts.{Drafted}
use Rattle.reg_crl_signer.specs.Forms.{HasForm}
use Rattle.reg_desk_metrics.specs.declared.follower_status.FollowerStatus.{FollowerStatus}
use Rattle.reg_desk_metrics.specs.declared.tally.Tally.{Tally}
use Rattle.reg_io.specs.declared.begun.ReadyOrUnsigned.{ReadyOrUnsigned}
use Rattle.reg_io.specs.declared.begun.ReadyOrUnsigned.TheVariants.{Ready, Unsigned}
use Rattle.reg_desk_service.specs.RequestOutcomes.{AnswersBegun, BeginsAt, MayNeedSignature, ready_of}
use Rattle.reg_desk_service.specs.Counted.{CountsBegun}
use Rattle.reg_desk_service.specs.Admission.{BeginsAdmitted, CountsRequest}
use Rattle.reg_desk_service.specs.Exchanges.{AnswersAs, AnswersAtRoute, MayCount, admission_after, admission_by, dispatch}
use Rattle.reg_desk_service.specs.HealthRoutes.{AnswersFollowerMetrics, ByGet}
use Rattle.reg_desk_service.specs.FinishedResponses.{FinishesAt, FinishesUnsigned, Meets}
use Rattle.reg_desk_service.specs.declared.admission.Admission.{Admission}
use Rattle.reg_desk_service.specs.declared.unsigned_responses.Unsigned.{Unsigned as UnsignedOf}
use Rattle.reg_desk_service.specs.declared.http_exchanges.DeskKind.{DeskKind}
use Rattle.reg_desk_service.specs.declared.http_exchanges.Dispatch.{Dispatch}
use Rattle.reg_desk_service.specs.declared.http_exchanges.Dispatch.TheVariants.{ToFollowerMetrics, ToLimits}
use Rattle.reg_desk_service.proofs.Finishing.{left_exchange}

-- what is begun behind the limits of an open desk is begun there
pub limited_begins : (admission : Admission) (kind : DeskKind) (signs : Signs) (now : ℕ) (signers : OfficeSigners) (before : Records) (method target body : List ℕ)
    (begun : Result (ReadyOrUnsigned HttpAnswer Drafted) NoMemory) (after : Records) → dispatch kind (route_at (path_of target)) ≡ ToLimits
    → BeginsAdmitted admission signs now signers before (asks_for method target body) begun after
    → BeginsAt kind signs now admission signers before method target body begun after
limited_begins admission kind signs now signers before method target body (Ok (Ready answered)) after to (says, adds) =
    let P : Dispatch → Type 0 = λ by. AnswersAtRoute signs now admission signers before (answer_effects answered) after by method target body in
    (subst P (sym to) says, adds)
limited_begins admission kind signs now signers before method target body (Ok (Unsigned draft)) after to left = (subst MayNeedSignature (sym to) tt, left)
limited_begins admission kind signs now signers before method target body (Err memory) after to same = same

-- a follower's metrics at their route
pub metrics_begin : (follower : FollowerStatus) (admission : Admission) (kind : DeskKind) (signs : Signs) (now : ℕ) (signers : OfficeSigners) (before : Records)
    (method target body : List ℕ) (answered : Result HttpAnswer NoMemory) (after : Records) → dispatch kind (route_at (path_of target)) ≡ ToFollowerMetrics follower
    → IfOk answered (λ it. ByGet method (AnswersFollowerMetrics follower now before) (answer_effects it)) → after ≡ before
    → BeginsAt kind signs now admission signers before method target body (ready_of answered) after
metrics_begin follower admission kind signs now signers before method target body (Ok answered) after to is same =
    let P : Dispatch → Type 0 = λ by. AnswersAtRoute signs now admission signers before (answer_effects answered) after by method target body in
    (subst P (sym to) (is, same), nothing_added now before after same)
metrics_begin follower admission kind signs now signers before method target body (Err memory) after to is same = same

-- the limits after a request at its route
pub counted_at : {A : Type 0} (result : Result A NoMemory) (kind : DeskKind) (now : ℕ) (method target body : List ℕ) (admission admission' : Admission) (by : Dispatch)
    → dispatch kind (route_at (path_of target)) ≡ by
    → CountsRequest result (admission_by by now (asks_for method target body) admission) admission admission'
    → CountsRequest result (admission_after kind now (asked method target body) admission) admission admission'
counted_at result kind now method target body admission admission' by to counted =
    let P : Dispatch → Type 0 = λ it. CountsRequest result (admission_by it now (asks_for method target body) admission) admission admission' in
    subst P (sym to) counted

-- without memory
may_count : (kind : DeskKind) (now : ℕ) (line_outcome method target body : List ℕ) (admission admission' : Admission)
    → ∥ HoldsRequest line_outcome (asked method target body) ∥₁
    → (admission' ≡ admission) ⊎ (admission' ≡ admission_after kind now (asked method target body) admission)
    → MayCount kind now line_outcome admission admission'
may_count kind now line_outcome method target body admission admission' holds (inl same) = inl same
may_count kind now line_outcome method target body admission admission' holds (inr counted) = inr (asked method target body, holds, counted)

-- What stands in an office before and after, who signs, and the moment; and the limits.
module _ {S : Type 0} (is_clean : S → Type 0) (stands : OfficeSigners → S → Records → Type 0) (signs : Signs) (now : ℕ) (admission admission' : Admission) (kind : DeskKind) (s t : S) where
  -- The signer gave this, and what that is; the bytes that came.
  module _ (signer_answered : List ℕ → List ℕ → Type 0)
      (answer_in_form_signs : (identity : Identity) (message answer : List ℕ) → signer_answered message answer → HasForm identity answer → signs identity message answer)
      (line_outcome : List ℕ) where
    -- an exchange, or what is left of one
    abbrev pub Answer : ReadyOrUnsigned Exchange UnsignedResponse → OfficeSigners → Records → Records → Type 0
    Answer begun signers before after = AnswersBegun signer_answered kind signs now admission admission' signers before line_outcome begun after

    -- a request that asks something
    pub asked_answers : (method target body : List ℕ) (route : Route) (begun : Result (ReadyOrUnsigned HttpAnswer Drafted) NoMemory) (made : ReadyOrUnsigned Exchange UnsignedResponse)
        → ∥ HoldsRequest line_outcome (asked method target body) ∥₁ → BeginsExchange now route begun made
        → CountsRequest begun (admission_after kind now (asked method target body) admission) admission admission'
        → Leads is_clean stands (λ signers before after. BeginsAt kind signs now admission signers before method target body begun after) s t
        → Leads is_clean stands (Answer made) s t
    asked_answers method target body route (Ok (Ready answered)) (Ready exchange) holds answers counted moved =
        follows is_clean stands _ _
        (λ signers before after said. (inl (asked method target body, answer_effects answered, holds, said.0, answers.1, counted), said.1)) s t moved
    asked_answers method target body route (Ok (Ready answered)) (Unsigned left) holds answers counted moved = absurd answers
    asked_answers method target body route (Ok (Unsigned draft)) (Ready exchange) holds answers counted moved = absurd answers
    asked_answers method target body route (Ok (Unsigned draft)) (Unsigned left) holds answers counted moved =
        follows is_clean stands _ _
        (λ signers before after (to, (request, asks_it, drafted)).
        let P : Drafted → Type 0 = λ it. Drafts signers before now request it after in (
          (λ text finished. left_exchange signs signer_answered answer_in_form_signs now signers before after admission admission' kind line_outcome method target body request text left.draft holds to asks_it
              (subst P (sym answers.1) drafted) finished counted),
          nothing_added now before after drafted.1,
        ))
        s t moved
    asked_answers method target body route (Err memory) (Ready exchange) holds answers counted moved =
        follows is_clean stands _ _
        (λ signers before after same.
        (inr (answers.2, inr answers.1, same, may_count kind now line_outcome method target body admission admission' holds counted), nothing_added now before after same))
        s t moved
    asked_answers method target body route (Err memory) (Unsigned left) holds answers counted moved = absurd answers

    -- one that is refused before any route
    pub refused_answers : (status : ℕ) (route : Route) (answered : Result HttpAnswer NoMemory) (made : ReadyOrUnsigned Exchange UnsignedResponse)
        → ∥ HoldsRequest line_outcome (refused status) ∥₁ → IfOk answered (λ it. answer_effects it ≡ plain (http_refusal status)) → BeginsExchange now route (ready_of answered) made
        → admission' ≡ admission → t ≡ s → Leads is_clean stands (Answer made) s t
    refused_answers status route (Ok answered) (Ready exchange) holds is answers uncounted same =
        follows is_clean stands _ _
        (λ signers before after stayed. (inl (refused status, answer_effects answered, holds, (is, stayed), answers.1, uncounted), nothing_added now before after stayed)) s t
        (stays is_clean stands s t same)
    refused_answers status route (Ok answered) (Unsigned left) holds is answers uncounted same = absurd answers
    refused_answers status route (Err memory) (Ready exchange) holds is answers uncounted same =
        follows is_clean stands _ _
        (λ signers before after stayed. (inr (answers.2, inr answers.1, stayed, inl uncounted), nothing_added now before after stayed)) s t (stays is_clean stands s t same)
    refused_answers status route (Err memory) (Unsigned left) holds is answers uncounted same = absurd answers

    -- what was begun and counted meets what is wanted of its text
    pub answers_meet : (clock : ℕ → Type 0) (begun : ReadyOrUnsigned Exchange UnsignedResponse) (outcome : Outcome UnsignedOf) (before_it after_answer : Tally)
        → clock now → CountsBegun now line_outcome begun outcome before_it after_answer → Leads is_clean stands (Answer begun) s t
        → Leads is_clean stands
        (λ signers before after. Meets (FinishesUnsigned signer_answered) (λ text. AnswersAs kind signs clock admission admission' signers before line_outcome text after) outcome) s t
    answers_meet clock (Ready exchange) (said text) first last at is moved =
        follows is_clean stands _ _
        (λ signers before after made. (now, at, record { exchange = exchange; is_exchange = made.0; text_is = is.0; adds = made.1 })) s t moved
    answers_meet clock (Unsigned left) (pending unsigned) first last at is moved =
        follows is_clean stands _ _
        (λ signers before after made text finished.
        let P : Drafted → ℕ → Type 0 = λ it moment. FinishesAt signer_answered it moment text in
        (now, at, made.0 text (subst (λ it. P it now) is.0 (subst (P unsigned.draft) is.1 finished))))
        s t moved
    answers_meet clock (Ready exchange) (pending unsigned) first last at is moved = absurd is
    answers_meet clock (Ready exchange) later first last at is moved = absurd is
    answers_meet clock (Unsigned left) (said text) first last at is moved = absurd is
    answers_meet clock (Unsigned left) later first last at is moved = absurd is

    -- the same of another name of the kind
    pub answers_meet_as : (other : DeskKind) → kind ≡ other → (clock : ℕ → Type 0) (begun : ReadyOrUnsigned Exchange UnsignedResponse) (outcome : Outcome UnsignedOf)
        (before_it after_answer : Tally) → clock now → CountsBegun now line_outcome begun outcome before_it after_answer → Leads is_clean stands (Answer begun) s t
        → Leads is_clean stands
        (λ signers before after. Meets (FinishesUnsigned signer_answered) (λ text. AnswersAs other signs clock admission admission' signers before line_outcome text after) outcome) s t
    answers_meet_as other same clock begun outcome before_it after_answer at is moved =
        subst
        (λ (it : DeskKind). Leads is_clean stands
        (λ signers before after. Meets (FinishesUnsigned signer_answered) (λ text. AnswersAs it signs clock admission admission' signers before line_outcome text after) outcome) s t)
        same
        (answers_meet clock begun outcome before_it after_answer at is moved)
