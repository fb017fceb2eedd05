-- A request for revocation that the register answers, or a limit refuses, over an office that keeps records.
use Rattle.std.proofs.Common.{◌≡◌, ℕ, Some, None, Ok, Err, inl, inr, refl, subst, sym}
use Rattle.std.specs.Prelude.{Option, Result, IfOk, OnErr}
use Rattle.reg_core.specs.Records.{Records}
use Rattle.reg_core.specs.declared.memory.Memory.{Memory as NoMemory}
use Rattle.reg_office_api.specs.CallSteps.{Signs, Runs, Asks, GivesCrl}
use Rattle.reg_office_api.specs.Drafts.{Drafts}
use Rattle.reg_office_api.specs.Leads.{Leads, Looks}
use Rattle.reg_office_api.specs.Responses.{Replies}
use Rattle.reg_office_api.specs.Signers.{OfficeSigners}
use Rattle.reg_office_api.proofs.PublicLaws.{chains, follows, stays}
use Rattle.reg_http.specs.Added.{AddsARequestAtMost}
use Rattle.reg_http.specs.Answers.{BeginsTo}
use Rattle.reg_http.specs.RoutedRequests.{RoutedRequest, requested_serial}
use Rattle.reg_http.specs.AnswerEffects.{answer_effects}
use Rattle.reg_http.specs.declared.answered.HttpAnswer.{HttpAnswer}
use Rattle.reg_http.proofs.PublicLaws.{nothing_added}
use Rattle.reg_ocsp.specs.Drafts.{Drafted}
use Rattle.reg_io.specs.declared.begun.ReadyOrUnsigned.{ReadyOrUnsigned}
use Rattle.reg_io.specs.declared.begun.ReadyOrUnsigned.TheVariants.{Ready, Unsigned}
use Rattle.reg_desk_service.specs.Admission.{BeginsAdmitted, CountsRequest, IsWithin, ChecksLimits, RefusesAtLimit}
use Rattle.reg_desk_service.specs.declared.admission.Admission.{Admission}

-- a request that was counted, with memory or without
pub was_counted : {A : Type 0} (result : Result A NoMemory) (counted admission admission' : Admission) → admission' ≡ counted
    → CountsRequest result counted admission admission'
was_counted (Ok begun) counted admission admission' is = is
was_counted (Err memory) counted admission admission' is = inr is

module _ {S : Type 0} (is_clean : S → Type 0) (stands : OfficeSigners → S → Records → Type 0) (admission : Admission) (signs : Signs) (now : ℕ) (what : RoutedRequest) where
  -- what the register begins, and what it adds
  abbrev pub Begins : ReadyOrUnsigned HttpAnswer Drafted → OfficeSigners → Records → Records → Type 0
  Begins begun signers before after =
      BeginsTo (Runs signs signers) Asks (Replies signs signers) GivesCrl (Drafts signers) now before what begun after × AddsARequestAtMost now before after

  abbrev pub Admits : Result (ReadyOrUnsigned HttpAnswer Drafted) NoMemory → OfficeSigners → Records → Records → Type 0
  Admits result signers before after = BeginsAdmitted admission signs now signers before what result after

  begun_within : (begun : ReadyOrUnsigned HttpAnswer Drafted) (signers : OfficeSigners) (before after : Records) → IsWithin admission before now (requested_serial what)
      → Begins begun signers before after → Admits (Ok begun) signers before after
  begun_within (Ready answered) signers before after within (begins, adds) = (inl (within, begins), adds)
  begun_within (Unsigned draft) signers before after within (begins, adds) = begins

  -- the register is asked after a look at the limits
  pub admitted : (result : Result (ReadyOrUnsigned HttpAnswer Drafted) NoMemory) (s m t : S)
      → Looks is_clean stands (λ records. IsWithin admission records now (requested_serial what)) s m
      → IfOk result (λ begun. Leads is_clean stands (Begins begun) m t) → OnErr result (t ≡ m) → Leads is_clean stands (Admits result) s t
  admitted (Ok begun) s m t look begins same =
      follows is_clean stands
      (λ signers before after. (middle : Records) × (IsWithin admission before now (requested_serial what) × (middle ≡ before)) × Begins begun signers middle after)
      (Admits (Ok begun))
      (λ signers before after both.
      let (middle, seen, made) = both in
      begun_within begun signers before after seen.0 (subst (λ (r : Records). Begins begun signers r after) seen.1 made))
      s
      t
      (chains is_clean stands (λ signers before after. IsWithin admission before now (requested_serial what) × (after ≡ before)) (Begins begun) s m t look begins)
  admitted (Err memory) s m t look begins same =
      follows is_clean stands
      (λ signers before after. IsWithin admission before now (requested_serial what) × (after ≡ before))
      (Admits (Err memory))
      (λ signers before after seen. seen.1)
      s
      t
      (let P : S → Type 0 = λ v. Looks is_clean stands (λ records. IsWithin admission records now (requested_serial what)) s v in subst P (sym same) look)

  -- no limit is looked at for any other request
  pub unlimited : (result : Result (ReadyOrUnsigned HttpAnswer Drafted) NoMemory) (s t : S) → None ≡ requested_serial what
      → IfOk result (λ begun. Leads is_clean stands (Begins begun) s t) → OnErr result (t ≡ s) → Leads is_clean stands (Admits result) s t
  unlimited result s t none begins same =
      admitted result s s t
      (follows is_clean stands
      (λ signers before after. after ≡ before)
      (λ signers before after. IsWithin admission before now (requested_serial what) × (after ≡ before))
      (λ signers before after still. (subst (IsWithin admission before now) none tt, still))
      s
      s
      (stays is_clean stands s s refl))
      begins
      same

  -- a request for a serial number that is within the limits
  pub within : (serial : ℕ) (s m : S) → Some serial ≡ requested_serial what
      → Looks is_clean stands (λ records. ChecksLimits admission records now serial None) s m
      → Looks is_clean stands (λ records. IsWithin admission records now (requested_serial what)) s m
  within serial s m some look =
      follows is_clean stands
      (λ signers before after. ChecksLimits admission before now serial None × (after ≡ before))
      (λ signers before after. IsWithin admission before now (requested_serial what) × (after ≡ before))
      (λ signers before after seen. (subst (IsWithin admission before now) some seen.0, seen.1))
      s
      m
      look

  -- a request for a serial number that a limit refuses
  pub refused : (serial : ℕ) (answered : HttpAnswer) (s t : S) → Some serial ≡ requested_serial what
      → Looks is_clean stands (λ records. ChecksLimits admission records now serial (Some answered)) s t → Leads is_clean stands (Admits (Ok (Ready answered))) s t
  refused serial answered s t some look =
      follows is_clean stands
      (λ signers before after. ChecksLimits admission before now serial (Some answered) × (after ≡ before))
      (Admits (Ok (Ready answered)))
      (λ signers before after seen.
      let P : Option ℕ → Type 0 = λ it. RefusesAtLimit admission before now it (answer_effects answered) in
      (inr (subst P some seen.0, seen.1), nothing_added now before after seen.1))
      s
      t
      look

  -- without memory for a refusal
  pub unanswered : (seen : Records → Type 0) (memory : NoMemory) (s t : S) → Looks is_clean stands seen s t → Leads is_clean stands (Admits (Err memory)) s t
  unanswered seen memory s t look =
      follows is_clean stands (λ signers before after. seen before × (after ≡ before)) (Admits (Err memory)) (λ signers before after looked. looked.1) s t look
