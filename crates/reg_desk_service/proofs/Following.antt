-- The steps of a follower's work over an office.
use Rattle.std.proofs.Common.{◌≡◌, ◌⊎◌, ℕ, List, [], ◌∷◌, ◌++◌, Some, Ok, Err, Vec, Global, ap, inl, inr, refl, subst, sym, ◌∙◌}
use Rattle.std.specs.Prelude.{Result, OnErr, OnOk}
use Rattle.reg_core.specs.Records.{Records}
use Rattle.reg_core_lists.specs.ReceivedPages.{received_of, received_text}
use Rattle.reg_core_lists.specs.declared.feed_reader.ReceivedPage.{ReceivedPage}
use Rattle.reg_core_lists.specs.declared.positions.Positions.{Positions}
use Rattle.reg_office_api.specs.Follows.{FollowStep, FormsSign}
use Rattle.reg_office_api.specs.Leads.{Leads}
use Rattle.reg_office_api.specs.Signers.{OfficeSigners}
use Rattle.reg_office_api.specs.declared.follow.FollowFault.{FollowFault}
use Rattle.reg_office_api.specs.declared.office.Office.{Ghosts as Office}
use Rattle.reg_desk_service.specs.ExpectedCrls.{ExpectsCrls, LeadsWithCrls}
use Rattle.reg_desk_service.specs.Following.{SendsRequest, FollowsAt, KeepsProgress, KeepsRecords, LastEnds, Reaches, TakesResponse}
use Rattle.reg_desk_service.specs.PageSchedules.{HasLastSteps, steps_in}
use Rattle.reg_desk_service.specs.declared.follower.Follower.{Follower}

-- what holds anyway holds for a result
pub on_ok : {A E P : Type 0} (result : Result A E) → P → OnOk result P
on_ok (Ok it) holds = holds
on_ok (Err fault) holds = tt

pub on_err : {A E P : Type 0} (result : Result A E) → P → OnErr result P
on_err (Ok it) holds = tt
on_err (Err fault) holds = holds

-- the steps of the schedule in the page that was kept last
pub last_steps : (earlier pages : List ReceivedPage) (page : ReceivedPage) (body steps : List ℕ) → pages ≡ earlier ++ page ∷ []
    → body ≡ received_text (received_of page) → steps ≡ steps_in body → HasLastSteps pages steps
last_steps earlier pages page body steps kept text is = (page, (earlier, kept), is ∙ ap steps_in text)

-- the progress stays, one step after the other
pub progress_same : (old new : Follower) → new ≡ old → KeepsProgress old new
progress_same old new same = record {
  lag = ap (λ (it : Follower). it.lag) same;
  own = ap (λ (it : Follower). it.own) same;
  schedule = ap (λ (it : Follower). it.schedule) same;
  asked_at = ap (λ (it : Follower). it.asked_at) same;
  reached_at = ap (λ (it : Follower). it.reached_at) same;
}

pub progress_then : (old middle new : Follower) → KeepsProgress old middle → KeepsProgress middle new → KeepsProgress old new
progress_then old middle new first next = record {
  lag = next.lag ∙ first.lag;
  own = next.own ∙ first.own;
  schedule = next.schedule ∙ first.schedule;
  asked_at = next.asked_at ∙ first.asked_at;
  reached_at = next.reached_at ∙ first.reached_at;
}

-- at a fault the records stay
pub stays_at_fault : (from : Positions) (pages : List ReceivedPage) (fault : FollowFault) (before after : Records) → FollowStep from pages (Err fault) before after → after ≡ before
stays_at_fault from pages fault before after (inl same) = same
stays_at_fault from pages fault before after (inr it) = it.stays

module _ {O : Type 0} (office : Office O) where
  -- nothing is done
  pub expects_none : (s t : O) → t ≡ s → ExpectsCrls office s t
  expects_none s t same = (
    (λ clean. subst office.is_clean same clean),
    (λ signers before stood clean. (signers.crls, before, refl, subst (λ (it : O). office.stands signers it before) (sym same) stood)),
  )

  pub keeps_none : (s t : O) → t ≡ s → KeepsRecords office s t
  keeps_none s t same forms = expects_none s t same

  -- the progress stays, and so do the records
  pub takes_none : (old new : Follower) (s t : O) → KeepsProgress old new → t ≡ s → TakesResponse office old new s t
  takes_none old new s t progress same = inl (progress, keeps_none s t same)

  -- the signer of CRLs may become another one, and then there is a step
  pub expects_then : (step : Records → Records → Type 0) (s m t : O) → ExpectsCrls office s m → Leads office.is_clean office.stands (λ signers. step) m t
      → LeadsWithCrls office step s t
  expects_then step s m t first next = (
    (λ clean. first.0 (next.0 clean)),
    (λ signers before stood clean.
        let (crls, middle, same, stands_middle) = first.1 signers before stood (next.0 clean) in
        let (after, stepped, stands_after) = next.1 (record { crls = crls; answers = signers.answers }) middle stands_middle clean in
        (crls, after, subst (λ (it : Records). step it after) same stepped, stands_after)),
  )

  -- at a fault the records stay
  pub keeps_at_fault : (from : Positions) (pages : List ReceivedPage) (result : Result Positions FollowFault) (fault : FollowFault) (s t : O) → result ≡ Err fault
      → (FormsSign office.signs office.forms → LeadsWithCrls office (FollowStep from pages result) s t) → KeepsRecords office s t
  keeps_at_fault from pages result fault s t is entered forms =
      let it = subst (λ (r : Result Positions FollowFault). LeadsWithCrls office (FollowStep from pages r) s t) is (entered forms) in (
        it.0,
        (λ signers before stood clean.
            let (crls, after, stepped, stands_after) = it.1 signers before stood clean in
            (crls, after, stays_at_fault from pages fault before after stepped, stands_after)),
      )

  -- pages were entered, and that is kept
  pub reaches_of : (old new : Follower) (positions : Positions) (schedule : Vec ℕ Global) (result : Result Positions FollowFault) (s t : O) → LastEnds old.pages.items
      → HasLastSteps old.pages.items schedule.items → new.schedule ≡ schedule → result ≡ Ok positions
      → (FormsSign office.signs office.forms → LeadsWithCrls office (FollowStep old.own old.pages.items result) s t)
      → new.own ≡ positions → new.lag ≡ old.lag → new.asked_at ≡ old.asked_at → new.reached_at ≡ Some old.asked_at → Reaches office old new s t
  reaches_of old new positions schedule result s t ends steps kept is entered own lag asked_at reached_at = record {
    pages = old.pages.items;
    ends = ends;
    steps = subst (λ (it : Vec ℕ Global). HasLastSteps old.pages.items it.items) (sym kept) steps;
    entered = λ forms. subst (λ (r : Result Positions FollowFault). LeadsWithCrls office (FollowStep old.own old.pages.items r) s t) (is ∙ ap Ok (sym own)) (entered forms);
    lag = lag;
    asked_at = asked_at;
    reached_at = reached_at ∙ ap Some (sym asked_at);
  }

  -- the progress stays, and then it takes a response
  pub takes_after : (old middle new : Follower) (s t : O) → KeepsProgress old middle → TakesResponse office middle new s t → TakesResponse office old new s t
  takes_after old middle new s t first (inl kept) = inl (progress_then old middle new first kept.0, kept.1)
  takes_after old middle new s t first (inr it) = inr record {
    pages = it.pages;
    ends = it.ends;
    steps = it.steps;
    entered = λ forms. subst (λ (from : Positions). LeadsWithCrls office (FollowStep from it.pages (Ok new.own)) s t) first.own (it.entered forms);
    lag = it.lag ∙ first.lag;
    asked_at = it.asked_at ∙ first.asked_at;
    reached_at = it.reached_at;
  }

  -- it takes a response, and then its progress stays
  pub takes_then : (old middle new : Follower) (s m t : O) → TakesResponse office old middle s m → KeepsProgress middle new → t ≡ m → TakesResponse office old new s t
  takes_then old middle new s m t (inl kept) next same =
      inl (progress_then old middle new kept.0 next, λ forms. subst (λ (it : O). ExpectsCrls office s it) (sym same) (kept.1 forms))
  takes_then old middle new s m t (inr it) next same = inr record {
    pages = it.pages;
    ends = it.ends;
    steps = subst (λ (kept : Vec ℕ Global). HasLastSteps it.pages kept.items) (sym next.schedule) it.steps;
    entered = λ forms.
        subst (λ (own : Positions). LeadsWithCrls office (FollowStep old.own it.pages (Ok own)) s t) (sym next.own)
        (subst (λ (o : O). LeadsWithCrls office (FollowStep old.own it.pages (Ok middle.own)) s o) (sym same) (it.entered forms));
    lag = next.lag ∙ it.lag;
    asked_at = next.asked_at ∙ it.asked_at;
    reached_at = next.reached_at ∙ it.reached_at ∙ ap Some (sym next.asked_at);
  }

  -- it does nothing
  pub follows_none : (now : ℕ) (old new : Follower) (s t : O) → new ≡ old → t ≡ s → FollowsAt office now old new s t
  follows_none now old new s t same still = (old, inl refl, inl (progress_same old new same, λ forms. expects_none s t still))

  -- the progress stays, and then it reaches the leader, if that succeeds
  pub takes_if : {A E : Type 0} (result : Result A E) (old middle new : Follower) (s t : O) → KeepsProgress old middle → OnOk result (Reaches office middle new s t)
      → OnOk result (TakesResponse office old new s t)
  takes_if (Ok it) old middle new s t first reached = takes_after old middle new s t first (inr reached)
  takes_if (Err fault) old middle new s t first reached = tt
