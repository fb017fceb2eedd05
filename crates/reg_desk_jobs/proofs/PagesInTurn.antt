-- A run of a follower's desk enters pages in turn, and so it follows its leader.
use Rattle.std.specs.Prelude.{Option, Result}
use Rattle.std.proofs.Common.{◌≡◌, ◌⊎◌, ◌∙◌, ◌≤◌, ℕ, List, [], ◌∷◌, Ok, ap, arith, inl, inr, le_refl, refl, subst, subst₂, sym}
use Rattle.reg_core.specs.Records.{Records}
use Rattle.reg_core_lists.specs.declared.feed_reader.ReceivedPage.{ReceivedPage}
use Rattle.reg_core_lists.specs.declared.positions.Declines.{Declines}
use Rattle.reg_core_lists.specs.declared.positions.Positions.{Positions}
use Rattle.reg_core_lists.specs.declared.positions.RowCounts.{RowCounts}
use Rattle.reg_io.specs.RunsOfAnswers.{Answered}
use Rattle.reg_office_api.specs.FollowedLeaders.{AreFeedPages, AreFollowCalls, CallsFollowLeader, FollowCall, FollowsLeader, IsLeader}
use Rattle.reg_office_api.specs.Follows.{ArePositionsOf, FollowStep, FormsSign}
use Rattle.reg_office_api.specs.Leads.{Leads, Looks}
use Rattle.reg_office_api.specs.Signers.{OfficeSigners}
use Rattle.reg_office_api.specs.declared.office.Office.{Ghosts as Office}
use Rattle.reg_desk_cli.specs.declared.failure.Failure.{Failure}
use Rattle.reg_desk_cli.specs.declared.job.FollowJob.{FollowJob}
use Rattle.reg_desk_service.specs.Admission.{first_admission}
use Rattle.reg_desk_service.specs.ExpectedCrls.{ExpectsCrls, LeadsWithCrls}
use Rattle.reg_desk_server.specs.Exchange.{HandlesOrWorks, Input, Outcome, lines, request, work, later, pending, said}
use Rattle.reg_desk_service.specs.Following.{FollowerAnswers, FollowerAnswersLines, FollowerDefers, FollowerState, FollowerWorks, SendsRequest, TakesResponse, is_current_at, progress_at}
use Rattle.reg_desk_service.specs.SignerAnswers.{AnsweredAtSomePath}
use Rattle.reg_desk_service.specs.declared.follower.Follower.{Follower}
use Rattle.reg_desk_service.specs.declared.machine.Machine.{Ghosts as Machine}
use Rattle.reg_desk_service.specs.declared.unsigned_responses.Unsigned.{Unsigned}
use Rattle.reg_lines.specs.Meaning.{OneMeaning}
use Rattle.reg_desk_jobs.specs.FollowedRuns.{AreLeaderPages, AreLeaderRuns, EnteredPages, EntersInRuns, EntersInTurn, JobRun, PagesFollowLeader, RunsEnterPages, RunsFollowLeader, ServesByRun}
use Rattle.reg_desk_jobs.proofs.KeptByLines.{lines_keep}
use Rattle.reg_desk_jobs.proofs.KeptByRequests.{finished, request_keeps}

-- ---- a leader

module _ (leader : ℕ → Records) where
  feed_order : (pages : List ReceivedPage) (since at : ℕ) (counts : RowCounts) (declines : Declines) → AreFeedPages leader since counts declines pages at → since ≤ at
  feed_order [] since at counts declines are = absurd are
  feed_order (page ∷ []) since at counts declines (order, is_page, ends) = order
  feed_order (page ∷ next ∷ pages) since at counts declines (state, order, is_page, others) =
      let rest = feed_order (next ∷ pages) state at page.positions.counts page.positions.declines others in omega (arith, order, rest)

  -- pages that were entered, as calls of an office
  as_calls : (entered : List EnteredPages) (had at : ℕ) (own own' : Positions) (before after : Records) → AreLeaderPages leader had own entered at
      → EntersInTurn own entered own' before after → (calls : List FollowCall) × AreFollowCalls leader had own calls before after
  as_calls [] had at own own' before after are enters = ([], enters.1)
  as_calls (entered ∷ more) had at own own' before after (state, pages, others) (next, step, rest) =
      let (calls, made) = as_calls more state at entered.reached own' next after others rest in
      (record { pages = entered.pages; at = state; result = Ok entered.reached } ∷ calls, (next, pages, step, made))

  module _ (is : IsLeader leader) (one : FollowsLeader) where
    reached_of : (entered : List EnteredPages) (had at : ℕ) (own own' : Positions) (before after : Records) → before ≡ leader had → ArePositionsOf before own
        → AreLeaderPages leader had own entered at → EntersInTurn own entered own' before after
        → (had ≤ at) × (after ≡ leader at) × ArePositionsOf after own'
    reached_of [] had at own own' before after begun are_own at_is (own_is, same) =
        (omega (arith, at_is), same ∙ begun ∙ ap leader (sym at_is), subst₂ ArePositionsOf (sym same) (sym own_is) are_own)
    reached_of (entered ∷ more) had at own own' before after begun are_own (state, pages, others) (next, step, rest) =
        let has = one leader had had state own entered.pages (Ok entered.reached) before next is begun (le_refl had) are_own pages step in
        let first = feed_order entered.pages had state own.counts own.declines pages in
        let (further, same, positions) = reached_of more state at entered.reached own' next after has.0 has.1 others rest in
        (omega (arith, first, further), same, positions)

pub pages_follow_leader : FollowsLeader → CallsFollowLeader → PagesFollowLeader
pages_follow_leader one all leader had at own own' entered before after is begun are_own are enters =
    let (grown, same, positions) = reached_of leader is one entered had at own own' before after begun are_own are enters in
    let (calls, made) = as_calls leader entered had at own own' before after are enters in
    let (state, order, is_state, adds) = all leader had had own calls before after is begun (le_refl had) are_own made in
    (grown, same, positions, adds)

-- run after run
runs_of : PagesFollowLeader → (leader : ℕ → Records) → IsLeader leader → (runs : List JobRun) (had at : ℕ) (before after : Records) → before ≡ leader had
    → AreLeaderRuns leader had runs at → EntersInRuns runs before after → (had ≤ at) × (after ≡ leader at)
runs_of follows leader is [] had at before after begun at_is same = (omega (arith, at_is), same ∙ begun ∙ ap leader (sym at_is))
runs_of follows leader is (run ∷ runs) had at before after begun (state, pages, others) (are_own, reached, next, enters, rest) =
    let (first, same, positions, adds) = follows leader had state run.own reached run.entered before next is begun are_own pages enters in
    let (further, same_last) = runs_of follows leader is runs state at next after same others rest in
    (omega (arith, first, further), same_last)

pub runs_follow_leader : FollowsLeader → CallsFollowLeader → RunsFollowLeader
runs_follow_leader one all leader had at runs before after is begun are enters =
    runs_of (pages_follow_leader one all) leader is runs had at before after begun are enters

-- ---- an office

module _ {O : Type 0} (office : Office O) where
  -- a step that leaves the records as they are
  pub keeps_of : (step : OfficeSigners → Records → Records → Type 0) (s t : O) → Leads office.is_clean office.stands step s t
      → ((signers : OfficeSigners) (before after : Records) → step signers before after → after ≡ before) → ExpectsCrls office s t
  keeps_of step s t moved same = (
    moved.0,
    (λ signers before stood clean.
        let (after, made, stands_now) = moved.1 signers before stood clean in
        (signers.crls, after, same signers before after made, stands_now)),
  )

  -- a look, and then a step
  look_then : (seen : Records → Type 0) (step : Records → Records → Type 0) (s m t : O) → Looks office.is_clean office.stands seen s m
      → LeadsWithCrls office step m t → LeadsWithCrls office (λ before after. seen before × step before after) s t
  look_then seen step s m t looked led = (
    (λ clean. looked.0 (led.0 clean)),
    (λ signers before stood clean.
        let (middle, found, stands_middle) = looked.1 signers before stood (led.0 clean) in
        let (crls, after, made, stands_after) = led.1 signers middle stands_middle clean in
        (crls, after, (found.0, subst (λ (r : Records). step r after) found.1 made), stands_after)),
  )

  -- nothing is done
  pub expects_none : (s t : O) → t ≡ s → ExpectsCrls office s t
  expects_none s t same = (
    (λ clean. subst office.is_clean same clean),
    (λ signers before stood clean. (signers.crls, before, refl, subst (λ (it : O). office.stands signers it before) (sym same) stood)),
  )

  -- one step, and another
  leads_then : (first next whole : Records → Records → Type 0)
      → ((before middle after : Records) → first before middle → next middle after → whole before after)
      → (s m t : O) → LeadsWithCrls office first s m → LeadsWithCrls office next m t → LeadsWithCrls office whole s t
  leads_then first next whole both s m t one two = (
    (λ clean. one.0 (two.0 clean)),
    (λ signers before stood clean.
        let (crls, middle, made, stands_middle) = one.1 signers before stood (two.0 clean) in
        let (others, after, made_next, stands_after) = two.1 (record { crls = crls; answers = signers.answers }) middle stands_middle clean in
        (others, after, both before middle after made made_next, stands_after)),
  )

  -- ---- a desk with this office, and with positions

  -- the records and the positions stay; or pages are entered
  abbrev pub Enters : Positions → Positions → O → O → Type 0
  Enters own own' s t =
      ((own' ≡ own) × ExpectsCrls office s t)
      ⊎ ((entered : EnteredPages) × (own' ≡ entered.reached) × LeadsWithCrls office (FollowStep own entered.pages (Ok entered.reached)) s t)

  module _ {S Q A : Type 0} (office_of : S → O) (own_of : S → Positions) (answers : S → Q → A → S → Type 0)
      (each : (s : S) (q : Q) (a : A) (t : S) → answers s q a t → Enters (own_of s) (own_of t) (office_of s) (office_of t)) where
    -- a step, and then others
    step_then : (s m t : S) (more : List EnteredPages) → Enters (own_of s) (own_of m) (office_of s) (office_of m)
        → LeadsWithCrls office (EntersInTurn (own_of m) more (own_of t)) (office_of m) (office_of t)
        → (entered : List EnteredPages) × LeadsWithCrls office (EntersInTurn (own_of s) entered (own_of t)) (office_of s) (office_of t)
    step_then s m t more (inl (own, kept)) rest = (
      more,
      leads_then (λ before after. after ≡ before) (EntersInTurn (own_of m) more (own_of t)) (EntersInTurn (own_of s) more (own_of t))
          (λ before middle after same enters.
          subst₂ (λ (from : Positions) (r : Records). EntersInTurn from more (own_of t) r after) own same enters)
          (office_of s) (office_of m) (office_of t) kept rest,
    )
    step_then s m t more (inr (entered, own, led)) rest = (
      entered ∷ more,
      leads_then (FollowStep (own_of s) entered.pages (Ok entered.reached)) (EntersInTurn (own_of m) more (own_of t)) (EntersInTurn (own_of s) (entered ∷ more) (own_of t))
          (λ before middle after step enters. (middle, step, subst (λ (from : Positions). EntersInTurn from more (own_of t) middle after) own enters))
          (office_of s) (office_of m) (office_of t) led rest,
    )

    pub run_enters : (s t : S) (asked : List Q) (given : List A) → Answered answers s asked given t
        → (entered : List EnteredPages) × LeadsWithCrls office (EntersInTurn (own_of s) entered (own_of t)) (office_of s) (office_of t)
    run_enters s t [] [] run = (
      [],
      (
        (λ clean. subst (λ (it : S). office.is_clean (office_of it)) run clean),
        (λ signers before stood clean. (signers.crls, before, (ap own_of run, refl), subst (λ (it : S). office.stands signers (office_of it) before) (sym run) stood)),
      ),
    )
    run_enters s t [] (a ∷ given) run = absurd run
    run_enters s t (q ∷ asked) [] run = absurd run
    run_enters s t (q ∷ asked) (a ∷ given) run =
        let (more, rest) = run_enters run.0 t asked given run.2 in
        step_then s run.0 t more (each s q a run.0 run.1) rest

-- ---- the steps of a follower's desk

module _ {M O D S R : Type 0} (machines : Machine M O D S R) (offices : Office O) where
  abbrev State : Type 0
  State = FollowerState machines offices

  -- a step of the desk: its records stay, or it enters pages
  abbrev Effect : State → State → Type 0
  Effect s t = Enters offices s.2.own t.2.own s.0 t.0

  own_same : (s t : Follower) → t ≡ s → t.own ≡ s.own
  own_same s t same = ap (λ (it : Follower). it.own) same

  -- nothing is done
  stays : (s t : State) → t ≡ s → Effect s t
  stays s t same = inl (own_same s.2 t.2 (ap (λ (it : State). it.2) same), expects_none offices s.0 t.0 (ap (λ (it : State). it.0) same))

  request_step : (s : State) (bytes : List ℕ) (outcome : Outcome Unsigned) (t : State) → FollowerAnswers machines offices s bytes outcome t → Effect s t
  request_step s bytes (said text) t (millis, read, follower, moved) = inl (
    own_same s.2 t.2 follower,
    keeps_of offices _ s.0 t.0 moved (λ signers before after answers.
        elim answers.2.is_exchange [
          | inl whole ↦ request_keeps offices.signs answers.0 s.1 signers before whole.1 after (progress_at s.2 millis) whole.0 whole.3
          | inr none ↦ none.2
        ]),
  )
  request_step s bytes (pending ticket) t (millis, read, follower, moved) = inl (
    own_same s.2 t.2 follower,
    keeps_of offices _ s.0 t.0 moved (λ signers before after meets.
        let text = finished (AnsweredAtSomePath machines.signer_answered) ticket in
        let answers = meets text.0 text.1 in
        elim answers.2.is_exchange [
          | inl whole ↦ request_keeps offices.signs answers.0 s.1 signers before whole.1 after (progress_at s.2 millis) whole.0 whole.3
          | inr none ↦ none.2
        ]),
  )
  request_step s bytes later t (millis, read, follower, moved) =
      inl (own_same s.2 t.2 follower, keeps_of offices _ s.0 t.0 moved (λ signers before after none. absurd none))

  lines_step : OneMeaning → (s : State) (bytes text : List ℕ) (t : State) → FollowerAnswersLines machines offices s bytes text t → Effect s t
  lines_step one s bytes text t (alone, millis, read, inl refuses) = stays s t refuses.1
  lines_step one s bytes text t (alone, millis, read, inr (may, (follower, admission, moved))) = inl (
    own_same s.2 t.2 follower,
    keeps_of offices _ s.0 t.0 moved (lines_keep one (is_current_at s.2 millis) offices.signs machines.clock_reached s.1.accepted bytes text alone may),
  )

  defer_step : (s : State) (bytes : List ℕ) (t : State) → FollowerDefers machines offices s bytes t → Effect s t
  defer_step s bytes t (follower, admission, moved) = inl (own_same s.2 t.2 follower, keeps_of offices _ s.0 t.0 moved (λ signers before after same. same))

  -- the positions stay when a request is sent
  sends_own : (now : ℕ) (old new : Follower) → SendsRequest now old new → new.own ≡ old.own
  sends_own now old new (inl same) = own_same old new same
  sends_own now old new (inr sent) = ap (λ (it : Follower). it.own) sent.0

  module _ (forms : FormsSign offices.signs offices.forms) where
    takes_step : (old sent new : Follower) (s t : O) → sent.own ≡ old.own → TakesResponse offices sent new s t → Enters offices old.own new.own s t
    takes_step old sent new s t same (inl (kept, records)) = inl (kept.own ∙ same, records forms)
    takes_step old sent new s t same (inr reaches) = inr (
      record { pages = reaches.pages; reached = new.own },
      refl,
      subst (λ (from : Positions). LeadsWithCrls offices (FollowStep from reaches.pages (Ok new.own)) s t) same (reaches.entered forms),
    )

    work_step : (s t : State) → FollowerWorks machines offices s t → Effect s t
    work_step s t (inl none) = stays s t none
    work_step s t (inr (millis, read, admission, (sent, sends, takes))) = takes_step s.2 sent t.2 s.0 t.0 (sends_own millis s.2 sent sends) takes

    input_step : OneMeaning → (s : State) (input : Input) (outcome : Outcome Unsigned) (t : State)
        → HandlesOrWorks (FollowerAnswers machines offices) (FollowerAnswersLines machines offices) (FollowerDefers machines offices) (FollowerWorks machines offices) s input outcome t
        → Effect s t
    input_step one s (request bytes) (said text) t step = request_step s bytes (said text) t step
    input_step one s (request bytes) (pending ticket) t step = request_step s bytes (pending ticket) t step
    input_step one s (request bytes) later t step = request_step s bytes later t step
    input_step one s (lines bytes) (said text) t step = lines_step one s bytes text t step
    input_step one s (lines bytes) (pending ticket) t step = absurd step
    input_step one s (lines bytes) later t step = defer_step s bytes t step
    input_step one s work (said text) t step = absurd step
    input_step one s work (pending ticket) t step = absurd step
    input_step one s work later t step = work_step s t step

  pub runs_enter_pages : OneMeaning → RunsEnterPages machines offices
  runs_enter_pages one forms s t inputs outcomes run =
      run_enters offices (λ (it : State). it.0) (λ (it : State). it.2.own)
      (HandlesOrWorks (FollowerAnswers machines offices) (FollowerAnswersLines machines offices) (FollowerDefers machines offices) (FollowerWorks machines offices))
      (λ s input outcome t step. input_step forms one s input outcome t step)
      s t inputs outcomes run

  pub serves_by_run : OneMeaning → {W : Type 0} (contents : W → Option (List ℕ)) → ServesByRun machines offices contents
  serves_by_run one contents forms writer writer' it result first last (inl kept) = inl (keeps_of offices _ first last kept.0 (λ signers before after same. same))
  serves_by_run one contents forms writer writer' it result first last (inr (bound, (middle, follower, follower', admission, inputs, outcomes, starts, run, ends))) =
      let entered = runs_enter_pages one forms (middle, first_admission, follower) (last, admission, follower') inputs outcomes run in
      inr (
        record { own = follower.own; entered = entered.0 },
        follower'.own,
        look_then offices (λ records. ArePositionsOf records follower.own) (EntersInTurn follower.own entered.0 follower'.own) first middle last starts.own entered.1,
      )
