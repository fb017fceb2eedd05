-- An OCSP response that was left to be signed, once it is finished: an exchange over the records of where it was begun.
use Rattle.std.proofs.Common.{◌≡◌, ℕ, Bool, List, Global, Vec, ap, inl, refl, sym, subst, ◌∙◌}
use Rattle.std.specs.Prelude.{Option, Some, None, Result, Ok, Err, IfOk, OnOk}
use Rattle.reg_core.specs.Records.{Records}
use Rattle.reg_core.specs.declared.memory.Memory.{Memory as NoMemory}
use Rattle.reg_office_api.specs.Drafts.{Drafts, IsBy, IsDraft}
use Rattle.reg_office_api.specs.Items.{items_of}
use Rattle.reg_office_api.specs.Leads.{Leads}
use Rattle.reg_office_api.specs.Responses.{IsOcspResponse, Replies}
use Rattle.reg_office_api.specs.Signers.{Responder, OfficeSigners}
use Rattle.reg_office_api.specs.CallSteps.{Signs, Runs, Asks, GivesCrl}
use Rattle.reg_office_api.specs.declared.response.ResponseKind.{ResponseKind}
use Rattle.reg_office_api.specs.declared.response.ResponseKind.TheVariants.{Signed, SignerFailure}
use Rattle.reg_office_api.proofs.PublicLaws.{follows, signed_response, unsigned_response}
use Rattle.reg_crl.specs.Signing.{Identity}
use Rattle.reg_http_head.specs.Collected.{HoldsRequest}
use Rattle.reg_http_head.specs.Frame.{asked}
use Rattle.reg_http.specs.RoutedRequests.{RoutedRequest, ocsp_of, path_of, requested_serial, asked as asks_for}
use Rattle.reg_http.specs.Answers.{Answers}
use Rattle.reg_http.specs.Bodies.{ocsp_reply}
use Rattle.reg_http.specs.Exchanges.{AnswersText}
use Rattle.reg_http.specs.RouteNames.{route_at}
use Rattle.reg_http.specs.AnswerEffects.{AnswerEffects, ocsp_effects}
use Rattle.reg_http.specs.declared.exchange.Exchange.{Exchange}
use Rattle.reg_http.proofs.PublicLaws.{nothing_added}
use Rattle.reg_ocsp.specs.Drafts.{Drafted, drafted_response}
use Rattle.reg_crl_signer.specs.Forms.{HasForm}
use Rattle.reg_desk_server.specs.Exchange.{Outcome, said, pending, later}
use Rattle.reg_desk_service.specs.Admission.{IsWithin}
use Rattle.reg_desk_service.specs.RequestOutcomes.{MayNeedSignature}
use Rattle.reg_desk_service.specs.Exchanges.{AnswersAt, AnswersAtRoute, admission_after, dispatch}
use Rattle.reg_desk_service.specs.SignerAnswers.{AtGivenPath, AnsweredAtPath, AnsweredAtSomePath}
use Rattle.reg_desk_service.specs.FinishedResponses.{FinishesUnsigned, FinishesAt, IsSignatureOf, Meets}
use Rattle.reg_desk_service.specs.declared.unsigned_responses.Unsigned.{Unsigned}
use Rattle.reg_desk_service.specs.declared.http_exchanges.DeskKind.{DeskKind}
use Rattle.reg_desk_service.specs.declared.http_exchanges.Dispatch.{Dispatch}
use Rattle.reg_desk_service.specs.declared.http_exchanges.Dispatch.TheVariants.{ToRegister, ToLimits, ToList, ToHealth, ToMetrics, ToChanges, ToFollowerHealth, ToFollowerMetrics, TryLater, Refuse}
use Rattle.reg_desk_service.specs.declared.admission.Admission.{Admission}

-- The signer gave this, and what that is.
module _ (signs : Signs) (signer_answered : List ℕ → List ℕ → Type 0)
    (answer_in_form_signs : (identity : Identity) (message answer : List ℕ) → signer_answered message answer → HasForm identity answer → signs identity message answer) where
  -- what has the form of a signature by who is to sign is one by who answers
  formed_by : (responder : Responder) (draft : Drafted) (signature : List ℕ) → IsBy responder draft
      → HasForm (record { algorithm = draft.algorithm; public_key = draft.key }) signature → HasForm responder.identity signature
  formed_by responder draft signature by form =
      let P : Identity → Type 0 = λ it. HasForm it signature in
      let same : record { algorithm = draft.algorithm; public_key = draft.key } ≡ responder.identity =
      λ i. record { algorithm = by.algorithm i; public_key = by.key i } in
      subst P same form

  -- which response it is that finishes one
  abbrev kind_of : Option (List ℕ) → ResponseKind
  kind_of (Some signature) = Signed
  kind_of None = SignerFailure

  response_of : (responder : Responder) (records : Records) (now : ℕ) (request : List ℕ) (draft : Drafted) (signature : Option (List ℕ))
      → IsDraft responder records now request draft → IsSignatureOf signer_answered draft signature
      → IsOcspResponse signs responder records now request (kind_of signature) (drafted_response draft signature)
  response_of responder records now request draft (Some signature) left (given, form) =
      signed_response signs responder records now request draft signature left
      (answer_in_form_signs responder.identity draft.message signature given (formed_by responder draft signature left.read.by form))
  response_of responder records now request draft None left given = unsigned_response signs responder records now request draft left

  -- The moment, who signs, and the records where it was begun.
  module _ (now : ℕ) (signers : OfficeSigners) (before after : Records) where
    -- what finishes it, with its kind
    abbrev kinded : Option (List ℕ) → Result (List ℕ) NoMemory → Result (ResponseKind × List ℕ) NoMemory
    kinded signature (Ok bytes) = Ok (kind_of signature, bytes)
    kinded signature (Err memory) = Err memory

    replies_of : (request : List ℕ) (draft : Drafted) (signature : Option (List ℕ)) (given : Result (List ℕ) NoMemory)
        → Drafts signers before now request draft after → IsSignatureOf signer_answered draft signature
        → (IfOk given (λ bytes. bytes ≡ drafted_response draft signature))
        → Replies signs signers before now request (kinded signature given) after
    replies_of request draft signature (Ok bytes) (left, same) signed made =
        let P : List ℕ → Type 0 = λ it. IsOcspResponse signs signers.answers before now request (kind_of signature) it in
        (subst P (sym made) (response_of signers.answers before now request draft signature left signed), same)
    replies_of request draft signature (Err memory) (left, same) signed made = same

    given_text : (signature : Option (List ℕ)) (given : Result (List ℕ) NoMemory) (exchange : Exchange) → AnswersText now (ocsp_reply given) exchange
        → AnswersText now (ocsp_effects (kinded signature given)).response exchange
    given_text signature (Ok bytes) exchange has_text = has_text
    given_text signature (Err memory) exchange has_text = has_text

    -- what the register says to an OCSP request is said at a desk, also behind its limits
    says_left : (admission : Admission) (by : Dispatch) (method target body request : List ℕ) (it : AnswerEffects) → MayNeedSignature by → asks_for method target body ≡ ocsp_of request
        → Answers (Runs signs signers) Asks (Replies signs signers) GivesCrl now before (asks_for method target body) it after
        → AnswersAtRoute signs now admission signers before it after by method target body
    says_left admission ToRegister method target body request it to asks_it answers = answers
    says_left admission ToLimits method target body request it to asks_it answers =
        let P : RoutedRequest → Type 0 = λ what. IsWithin admission before now (requested_serial what) in
        inl (subst P (sym asks_it) tt, answers)
    says_left admission ToList method target body request it to asks_it answers = absurd to
    says_left admission ToHealth method target body request it to asks_it answers = absurd to
    says_left admission ToMetrics method target body request it to asks_it answers = absurd to
    says_left admission ToChanges method target body request it to asks_it answers = absurd to
    says_left admission (ToFollowerHealth follower) method target body request it to asks_it answers = absurd to
    says_left admission (ToFollowerMetrics follower) method target body request it to asks_it answers = absurd to
    says_left admission TryLater method target body request it to asks_it answers = absurd to
    says_left admission (Refuse status) method target body request it to asks_it answers = absurd to

    -- the exchange of the register
    pub left_exchange : (admission admission' : Admission) (kind : DeskKind) (line_outcome method target body request text : List ℕ) (draft : Drafted)
        → ∥ HoldsRequest line_outcome (asked method target body) ∥₁ → MayNeedSignature (dispatch kind (route_at (path_of target)))
        → asks_for method target body ≡ ocsp_of request → Drafts signers before now request draft after
        → FinishesAt signer_answered draft now text → admission' ≡ admission_after kind now (asked method target body) admission
        → AnswersAt kind signs now admission admission' signers before line_outcome text after
    left_exchange admission admission' kind line_outcome method target body request text draft holds to asks_it drafted it counted =
        let given = kinded it.signature it.finished.given in
        let replies = replies_of request draft it.signature it.finished.given drafted it.signed it.finished.made in
        let P : RoutedRequest → Type 0 = λ what. Answers (Runs signs signers) Asks (Replies signs signers) GivesCrl now before what (ocsp_effects given) after in
        record {
          exchange = record {
            route = it.exchange.route;
            status = it.exchange.status;
            signature = (ocsp_effects given).signature;
            store = (ocsp_effects given).store;
            named = (ocsp_effects given).named;
            text = it.exchange.text;
          };
          is_exchange = inl (
            asked method target body,
            ocsp_effects given,
            holds,
            says_left admission (dispatch kind (route_at (path_of target))) method target body request (ocsp_effects given) to asks_it
                (subst P (sym asks_it) (given, replies, refl)),
            (refl, refl, refl, given_text it.signature it.finished.given it.exchange it.finished.answer_text),
            counted,
          );
          text_is = it.text_is;
          adds = nothing_added now before after drafted.1;
        }

-- what was made of a draft, as bytes
pub items_made : (draft : Drafted) (given : Result (Vec ℕ Global) NoMemory) (first second : Option (List ℕ)) → first ≡ second
    → IfOk given (λ bytes. bytes.items ≡ drafted_response draft first) → IfOk (items_of given) (λ bytes. bytes ≡ drafted_response draft second)
items_made draft (Ok bytes) first second same is = is ∙ ap (λ (signature : Option (List ℕ)). drafted_response draft signature) same
items_made draft (Err memory) first second same is = tt

-- what is asked at a path is asked at the one that was told, where that is it
pub asked_at : {A E : Type 0} (socket : Option (List ℕ)) (path : List ℕ) (Was : List ℕ → Type 0) (Is : List ℕ → A → Type 0) (result : Result A E) → socket ≡ Some path
    → OnOk result (Was path) → IfOk result (Is path) → IfOk result (λ sent_request. AtGivenPath socket (λ it. Was it × Is it sent_request))
asked_at socket path Was Is (Ok sent_request) same was is = (path, same, (was, is))
asked_at socket path Was Is (Err error) same was is = tt

-- What was given at the path that was told, was given.
module _ (signer_answered : List ℕ → List ℕ → List ℕ → Type 0) (socket : Option (List ℕ)) where
  signed_somewhere : (draft : Drafted) (signature : Option (List ℕ)) → IsSignatureOf (AnsweredAtPath signer_answered socket) draft signature
      → IsSignatureOf (AnsweredAtSomePath signer_answered) draft signature
  signed_somewhere draft (Some signature) (given, form) = ((given.0, given.2), form)
  signed_somewhere draft None given = given

  -- what finishes an answer with a signature from there finishes it
  finished_somewhere : (unsigned : Unsigned) (text : List ℕ) → FinishesUnsigned (AnsweredAtPath signer_answered socket) unsigned text → FinishesUnsigned (AnsweredAtSomePath signer_answered) unsigned text
  finished_somewhere unsigned text it =
      record {
        signature = it.signature;
        signed = signed_somewhere unsigned.draft it.signature it.signed;
        exchange = it.exchange;
        finished = it.finished;
        text_is = it.text_is;
      }

  pub meets_at_path : (wanted : List ℕ → Type 0) (outcome : Outcome Unsigned) → Meets (FinishesUnsigned (AnsweredAtSomePath signer_answered)) wanted outcome
      → Meets (FinishesUnsigned (AnsweredAtPath signer_answered socket)) wanted outcome
  meets_at_path wanted (said text) met = met
  meets_at_path wanted (pending unsigned) met = λ text finished. met text (finished_somewhere unsigned text finished)
  meets_at_path wanted later met = met

-- What stands in an office before and after.
module _ {S : Type 0} (is_clean : S → Type 0) (stands : OfficeSigners → S → Records → Type 0) (s t : S) where
  -- where what finishes an answer has its signature from some path, so where it is the one that was told
  pub path_moves : (signer_answered : List ℕ → List ℕ → List ℕ → Type 0) (socket : Option (List ℕ)) (wanted : OfficeSigners → Records → Records → List ℕ → Type 0)
      (outcome : Outcome Unsigned)
      → Leads is_clean stands (λ identity before after. Meets (FinishesUnsigned (AnsweredAtSomePath signer_answered)) (λ text. wanted identity before after text) outcome) s t
      → Leads is_clean stands (λ identity before after. Meets (FinishesUnsigned (AnsweredAtPath signer_answered socket)) (λ text. wanted identity before after text) outcome) s t
  path_moves signer_answered socket wanted outcome moved =
      follows is_clean stands
      (λ identity before after. Meets (FinishesUnsigned (AnsweredAtSomePath signer_answered)) (λ text. wanted identity before after text) outcome)
      (λ identity before after. Meets (FinishesUnsigned (AnsweredAtPath signer_answered socket)) (λ text. wanted identity before after text) outcome)
      (λ identity before after. meets_at_path signer_answered socket (λ text. wanted identity before after text) outcome)
      s
      t
      moved
