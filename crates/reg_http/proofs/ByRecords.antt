-- What a request comes to, by the calls of an office, is a step of the records that stand in it.
use Rattle.std.proofs.Common.{◌≡◌, ℕ, List, refl, subst, sym}
use Rattle.std.specs.Prelude.{Result, Ok, Err}
use Rattle.reg_office_api.specs.CallSteps.{Runs, Asks, AnswersOcsp, GivesCrl}
use Rattle.reg_office_api.specs.Calls.{RunsIn, AsksIn, DraftsIn, GivesCrlIn}
use Rattle.reg_office_api.specs.Drafts.{Begins, Drafts}
use Rattle.reg_office_api.specs.Leads.{Leads}
use Rattle.reg_office_api.specs.Responses.{Replies}
use Rattle.reg_office_api.specs.Signers.{OfficeSigners}
use Rattle.reg_office_api.specs.declared.office.Office.{Ghosts as Office}
use Rattle.reg_office_api.specs.declared.response.OcspResponse.{OcspResponse}
use Rattle.reg_office_api.specs.declared.response.ResponseKind.{ResponseKind}
use Rattle.reg_office_api.proofs.PublicLaws.{stays, follows}
use Rattle.reg_core.specs.Records.{Records}
use Rattle.reg_core.specs.declared.memory.Memory.{Memory as NoMemory}
use Rattle.reg_http_head.specs.Response.{Response}
use Rattle.reg_http.specs.Added.{AddsARequestAtMost}
use Rattle.reg_http.specs.Answers.{Answers, BeginsIn, BeginsTo, RespondsIn, RespondsTo, BeginsOcsp, of_any_kind}
use Rattle.reg_http.specs.RoutedRequests.{RoutedRequest, refused, method_not_allowed, unreadable, malformed, ocsp_of, crl_of, status_of, counts_of, request_of}
use Rattle.reg_http.specs.AnswerEffects.{AnswerEffects, answer_effects}
use Rattle.reg_http.specs.declared.answered.HttpAnswer.{HttpAnswer}
use Rattle.reg_crl.specs.Signing.{signed_by}
use Rattle.reg_http.proofs.Added.{nothing_added, ocsp_stays, replies_stay, request_adds}
use Rattle.reg_ocsp.specs.Drafts.{Drafted}
use Rattle.reg_io.specs.declared.begun.ReadyOrUnsigned.{ReadyOrUnsigned}
use Rattle.reg_io.specs.declared.begun.ReadyOrUnsigned.TheVariants.{Ready, Unsigned}

module _ {O : Type 0} (office : Office O) (now : ℕ) (s t : O) where
  -- What OCSP responses are, over the records, and that they change nothing.
  module _ (replies : OfficeSigners → Records → ℕ → List ℕ → Result (ResponseKind × List ℕ) NoMemory → Records → Type 0)
      (stay : (signers : OfficeSigners) (before : Records) (now : ℕ) (request : List ℕ) (given : Result (ResponseKind × List ℕ) NoMemory) (after : Records)
      → replies signers before now request given after → after ≡ before) where
    abbrev RepliesBy : O → ℕ → List ℕ → Result (ResponseKind × List ℕ) NoMemory → O → Type 0
    RepliesBy s now request given t = Leads office.is_clean office.stands (λ signers before after. replies signers before now request given after) s t

    -- what is told, over the records, which gain one request for revocation at most
    abbrev Answer : RoutedRequest → AnswerEffects → OfficeSigners → Records → Records → Type 0
    Answer what it signers before after =
        Answers (Runs office.signs signers) Asks (replies signers) GivesCrl now before what it after × AddsARequestAtMost now before after

    stayed : (what : RoutedRequest) (it : AnswerEffects) → t ≡ s
        → ((signers : OfficeSigners) (before after : Records) → after ≡ before → Answers (Runs office.signs signers) Asks (replies signers) GivesCrl now before what it after)
        → Leads office.is_clean office.stands (Answer what it) s t
    stayed what it same from =
        follows office.is_clean office.stands _ (Answer what it)
        (λ signers before after still. (from signers before after still, nothing_added now before after still)) s t (stays office.is_clean office.stands s t same)

    pub answer_leads : (what : RoutedRequest) (it : AnswerEffects) → Answers (RunsIn office) (AsksIn office) RepliesBy (GivesCrlIn office) now s what it t
        → Leads office.is_clean office.stands (Answer what it) s t
    answer_leads (refused status) it (same, is) = stayed (refused status) it same (λ signers before after still. (still, is))
    answer_leads (method_not_allowed method) it (same, is) = stayed (method_not_allowed method) it same (λ signers before after still. (still, is))
    answer_leads unreadable it (same, is) = stayed unreadable it same (λ signers before after still. (still, is))
    answer_leads malformed it (same, is) = stayed malformed it same (λ signers before after still. (still, is))
    answer_leads (ocsp_of request) it (given, came, is) =
        follows office.is_clean office.stands _ (Answer (ocsp_of request) it)
        (λ signers before after made. ((given, made, is), nothing_added now before after (stay signers before now request given after made))) s t came
    answer_leads (crl_of number) it (given, came, is) =
        follows office.is_clean office.stands _ (Answer (crl_of number) it)
        (λ signers before after made. ((given, made, is), nothing_added now before after made.1)) s t came
    answer_leads (status_of serial) it (given, came, is) =
        follows office.is_clean office.stands _ (Answer (status_of serial) it)
        (λ signers before after made. ((given, made, is), nothing_added now before after made.1)) s t came
    answer_leads counts_of it (given, came, is) =
        follows office.is_clean office.stands _ (Answer counts_of it)
        (λ signers before after made. ((given, made, is), nothing_added now before after made.1)) s t came
    answer_leads (request_of serial word) it (given, came, is) =
        follows office.is_clean office.stands _ (Answer (request_of serial word) it)
        (λ signers before after made. ((given, made, is), request_adds (signed_by office.signs signers.crls) now serial word before after given made)) s t came

  -- the response alone, to what is asked
  pub responds_to : (what asks : RoutedRequest) (response : Response) → what ≡ asks → RespondsIn office now s what response t → RespondsIn office now s asks response t
  responds_to what asks response is = subst (λ a. RespondsIn office now s a response t) is

  pub responds_leads : (asks : RoutedRequest) (response : Response) → RespondsIn office now s asks response t
      → Leads office.is_clean office.stands
      (λ signers before after. RespondsTo (Runs office.signs signers) Asks (AnswersOcsp office.signs signers) GivesCrl now before asks response after
      × AddsARequestAtMost now before after)
      s t
  responds_leads asks response (it, answered, same) =
      follows office.is_clean office.stands _ _ (λ signers before after made. ((it, made.0, same), made.1)) s t
      (answer_leads (λ signers. of_any_kind (AnswersOcsp office.signs signers)) (ocsp_stays office.signs) asks it answered)

  -- the answer, or what is left to be signed for it
  pub begins_to : (what asks : RoutedRequest) (begun : ReadyOrUnsigned HttpAnswer Drafted) → what ≡ asks → BeginsIn office now s what begun t → BeginsIn office now s asks begun t
  begins_to what asks begun is = subst (λ a. BeginsIn office now s a begun t) is

  pub begin_leads : (asks : RoutedRequest) (begun : ReadyOrUnsigned HttpAnswer Drafted) → BeginsIn office now s asks begun t
      → Leads office.is_clean office.stands
      (λ signers before after. BeginsTo (Runs office.signs signers) Asks (Replies office.signs signers) GivesCrl (Drafts signers) now before asks begun after
      × AddsARequestAtMost now before after)
      s t
  begin_leads asks (Ready answered) made = answer_leads (Replies office.signs) (replies_stay office.signs) asks (answer_effects answered) made
  begin_leads asks (Unsigned draft) (request, is, drafted) =
      follows office.is_clean office.stands _ _ (λ signers before after made. ((request, is, made), nothing_added now before after made.1)) s t drafted

  -- an OCSP request, as the office begins its response
  pub begins_ocsp : (request : List ℕ) (given : Result (ReadyOrUnsigned OcspResponse Drafted) NoMemory) (begun : ReadyOrUnsigned HttpAnswer Drafted)
      → Leads office.is_clean office.stands (λ signers before after. Begins (Replies office.signs signers) (Drafts signers) before now request given after) s t
      → BeginsOcsp given begun → BeginsIn office now s (ocsp_of request) begun t
  begins_ocsp request (Ok (Ready response)) (Ready answered) came it = (Ok (response.kind, response.bytes.items), came, it)
  begins_ocsp request (Ok (Unsigned draft)) (Unsigned left) came it =
      (request, refl, subst (λ d. DraftsIn office s now request d t) (sym it) came)
  begins_ocsp request (Err memory) (Ready answered) came it = (Err memory, came, it)
  begins_ocsp request (Ok (Ready response)) (Unsigned left) came it = absurd it
  begins_ocsp request (Ok (Unsigned draft)) (Ready answered) came it = absurd it
  begins_ocsp request (Err memory) (Unsigned left) came it = absurd it
