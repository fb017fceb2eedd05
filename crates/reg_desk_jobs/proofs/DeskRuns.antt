-- What a desk made of its records: one that is open stays open, and one that is not never is. It does no work of its own.
use Rattle.std.proofs.Common.{◌≡◌, ◌⊎◌, ℕ, suc, Bool, List, [], ◌∷◌, Option, Result, IsTrue, ap, refl, subst, sym, ◌∙◌}
use Rattle.reg_office_api.specs.CallSteps.{Signs}
use Rattle.reg_office_api.specs.Leads.{Leads}
use Rattle.reg_office_api.specs.Signers.{OfficeSigners}
use Rattle.reg_office_api.proofs.PublicLaws.{runs}
use Rattle.reg_core.specs.Records.{Records}
use Rattle.reg_desk_server.specs.Exchange.{Input, request, lines, work, Outcome, said, pending, later, requests_in, Handles, HandlesOrWorks}
use Rattle.reg_io.specs.RunsOfAnswers.{Answered}
use Rattle.reg_desk_service.specs.ControlWords.{IsAdmissionAfter, AnswersLinesByClock}
use Rattle.reg_desk_service.specs.Admission.{first_admission}
use Rattle.reg_desk_service.specs.Exchanges.{AnswersBy}
use Rattle.reg_desk_service.specs.SignerAnswers.{AnsweredAtPath, AnsweredAtSomePath}
use Rattle.reg_desk_service.specs.FinishedResponses.{FinishesUnsigned, Meets}
use Rattle.reg_desk_jobs.specs.Serving.{DeskState, Exchanging, Served, Serves, AnswersControlLines, StateStays}
use Rattle.reg_desk_jobs.proofs.PrintedTexts.{served_by}
use Rattle.reg_desk_cli.specs.declared.failure.Failure.{Failure}
use Rattle.reg_desk_service.specs.declared.admission.Admission.{Admission}
use Rattle.reg_desk_service.specs.declared.unsigned_responses.Unsigned.{Unsigned}
use Rattle.reg_desk_service.proofs.PublicLaws.{path_moves}

-- a run by which something stays so, and whose steps where it is so are other ones too
kept_runs : {S Q A : Type 0} (answers other : S → Q → A → S → Type 0) (Keeps : S → Type 0)
    → ((s : S) (q : Q) (a : A) (t : S) → Keeps s → answers s q a t → other s q a t × Keeps t)
    → (s t : S) (asked : List Q) (given : List A) → Keeps s → Answered answers s asked given t → Answered other s asked given t
kept_runs answers other Keeps each s t [] [] keeps run = run
kept_runs answers other Keeps each s t [] (a ∷ given) keeps run = absurd run
kept_runs answers other Keeps each s t (q ∷ asked) [] keeps run = absurd run
kept_runs answers other Keeps each s t (q ∷ asked) (a ∷ given) keeps run =
    let (step, kept) = each s q a run.0 keeps run.1 in
    (run.0, step, kept_runs answers other Keeps each run.0 t asked given kept run.2)

-- These inputs and outcomes, without those of work: the number of requests is the same, and from none come none.
record RunWithoutWork {S T : Type 0} (handles : S → Input → Outcome T → S → Type 0) (s t : S) (inputs : List Input) : Type 0 where
  others : List Input
  outcomes : List (Outcome T)
  run : Answered handles s others outcomes t
  count : requests_in others ≡ requests_in inputs
  none : inputs ≡ [] → others ≡ []

module _ {S T : Type 0} (answers : S → List ℕ → Outcome T → S → Type 0) (answers_lines : S → List ℕ → List ℕ → S → Type 0) (defers : S → List ℕ → S → Type 0) where
  -- a run in which work changes nothing
  without_work : (s t : S) (inputs : List Input) (outcomes : List (Outcome T))
      → Answered (HandlesOrWorks answers answers_lines defers (λ s t. t ≡ s)) s inputs outcomes t
      → RunWithoutWork (Handles answers answers_lines defers) s t inputs
  without_work s t [] [] run = record { others = []; outcomes = []; run = run; count = refl; none = λ is. refl }
  without_work s t [] (outcome ∷ outcomes) run = absurd run
  without_work s t (input ∷ inputs) [] run = absurd run
  without_work s t (request bytes ∷ inputs) (outcome ∷ outcomes) run =
      let rest = without_work run.0 t inputs outcomes run.2 in
      record {
        others = request bytes ∷ rest.others;
        outcomes = outcome ∷ rest.outcomes;
        run = (run.0, run.1, rest.run);
        count = ap suc rest.count;
        none = λ is. let bad : ⊥ = cc in absurd bad;
      }
  without_work s t (lines bytes ∷ inputs) (outcome ∷ outcomes) run =
      let rest = without_work run.0 t inputs outcomes run.2 in
      record {
        others = lines bytes ∷ rest.others;
        outcomes = outcome ∷ rest.outcomes;
        run = (run.0, run.1, rest.run);
        count = rest.count;
        none = λ is. let bad : ⊥ = cc in absurd bad;
      }
  without_work s t (work ∷ inputs) (said text ∷ outcomes) run = absurd run.1
  without_work s t (work ∷ inputs) (pending ticket ∷ outcomes) run = absurd run.1
  without_work s t (work ∷ inputs) (later ∷ outcomes) run =
      let rest = without_work run.0 t inputs outcomes run.2 in
      record {
        others = rest.others;
        outcomes = rest.outcomes;
        run = subst (λ (m : S). Answered (Handles answers answers_lines defers) m rest.others rest.outcomes t) run.1 rest.run;
        count = rest.count;
        none = λ is. let bad : ⊥ = cc in absurd bad;
      }

-- A desk, whether it is open, its limits, and the records that stand in it; who signs, what the clock reached, and what followers confirm.
module _ {S : Type 0} (is_clean : S → Type 0) (stands : OfficeSigners → S → Records → Type 0) (is_open : S → Bool) (admission_of : S → Admission)
    (signs : Signs) (signer_answered : List ℕ → List ℕ → List ℕ → Type 0) (socket : Option (List ℕ)) (clock : ℕ → Type 0)
    (confirms : S → List ℕ → Outcome Unsigned → S → Type 0) (confirms_lines : S → List ℕ → S → Type 0) (confirms_none : S → S → Type 0) where
  -- what it answers, tells and looks at
  abbrev AnswersOf : S → List ℕ → Outcome Unsigned → S → Type 0
  AnswersOf s came outcome t = (is_open t ≡ is_open s) × Leads is_clean stands
      (λ signers before after. Meets (FinishesUnsigned (AnsweredAtSomePath signer_answered))
      (λ text. AnswersBy (is_open s) signs clock (admission_of s) (admission_of t) signers before came text after) outcome) s t
      × confirms s came outcome t

  abbrev AnswersLinesOf : S → List ℕ → List ℕ → S → Type 0
  AnswersLinesOf s came text t = IsTrue (is_open s) × IsTrue (is_open t) × IsAdmissionAfter came (admission_of s) (admission_of t)
      × Leads is_clean stands (λ signers before after. AnswersLinesByClock (admission_of s).accepted signs clock signers before came text after) s t
      × confirms_lines s came t

  abbrev DefersOf : S → List ℕ → S → Type 0
  DefersOf s came t = (is_open t ≡ is_open s) × (admission_of t ≡ admission_of s) × Leads is_clean stands (λ signers before after. after ≡ before) s t
      × confirms_none s t

  -- the records that stand in it, and its limits
  abbrev Stands : OfficeSigners → S → DeskState → Type 0
  Stands signers s state = stands signers s state.0 × (state.1 ≡ admission_of s)

  -- the same over the records and limits of one that is open, or is not
  abbrev Handled : Bool → OfficeSigners → DeskState → Input → Outcome Unsigned → DeskState → Type 0
  Handled now_open signers = Handles (Exchanging now_open signs (AnsweredAtPath signer_answered socket) clock signers) (AnswersControlLines now_open signs clock signers) StateStays

  abbrev Moves : Bool → S → Input → Outcome Unsigned → S → Type 0
  Moves now_open s input outcome t = Leads is_clean Stands (λ signers before after. Handled now_open signers before input outcome after) s t

  -- a step of the records, as one of the records and limits
  with_limits : (step : OfficeSigners → Records → Records → Type 0) (other : OfficeSigners → DeskState → DeskState → Type 0) (s t : S)
      → ((signers : OfficeSigners) (before after : Records) → step signers before after → other signers (before, admission_of s) (after, admission_of t))
      → Leads is_clean stands step s t → Leads is_clean Stands other s t
  with_limits step other s t from moved = (
    moved.0,
    (λ signers before stood clean.
        let (after, made, stands_now) = moved.1 signers before.0 stood.0 clean in
        let P : Admission → Type 0 = λ it. other signers (before.0, it) (after, admission_of t) in
        ((after, admission_of t), subst P (sym stood.1) (from signers before.0 after made), (stands_now, refl))),
  )

  step_moves : (now_open : Bool) (s : S) (input : Input) (outcome : Outcome Unsigned) (t : S) → is_open s ≡ now_open
      → Handles AnswersOf AnswersLinesOf DefersOf s input outcome t → Moves now_open s input outcome t × (is_open t ≡ now_open)
  step_moves now_open s (request came) outcome t is step =
      let P : Bool → Type 0 = λ b. Leads is_clean stands
      (λ signers before after. Meets (FinishesUnsigned (AnsweredAtSomePath signer_answered))
      (λ text. AnswersBy b signs clock (admission_of s) (admission_of t) signers before came text after) outcome) s t in (
        with_limits
            (λ signers before after. Meets (FinishesUnsigned (AnsweredAtPath signer_answered socket))
            (λ text. AnswersBy now_open signs clock (admission_of s) (admission_of t) signers before came text after) outcome)
            (λ signers before after. Exchanging now_open signs (AnsweredAtPath signer_answered socket) clock signers before came outcome after)
            s t (λ signers before after answered. answered)
            (path_moves is_clean stands s t signer_answered socket
            (λ signers before after text. AnswersBy now_open signs clock (admission_of s) (admission_of t) signers before came text after) outcome (subst P is step.1)),
        step.0 ∙ is,
      )
  step_moves now_open s (lines came) (said text) t is step = (
    with_limits (λ signers before after. AnswersLinesByClock (admission_of s).accepted signs clock signers before came text after)
        (λ signers before after. AnswersControlLines now_open signs clock signers before came text after)
        s t (λ signers before after word. (sym is ∙ step.0, step.2, word)) step.3,
    step.1 ∙ sym step.0 ∙ is,
  )
  step_moves now_open s (lines came) (pending ticket) t is step = absurd step
  step_moves now_open s work outcome t is step = absurd step
  step_moves now_open s (lines came) later t is step = (
    with_limits (λ signers before after. after ≡ before) (λ signers before after. StateStays before came after)
        s t (λ signers before after same. (same, step.1)) step.2,
    step.0 ∙ is,
  )

  -- the records and limits of a desk, from what it starts with
  desk_runs : (now_open : Bool) (s t : S) (inputs : List Input) (outcomes : List (Outcome Unsigned)) → is_open s ≡ now_open
      → admission_of s ≡ first_admission → Answered (Handles AnswersOf AnswersLinesOf DefersOf) s inputs outcomes t
      → Leads is_clean stands (Serves now_open signs (AnsweredAtPath signer_answered socket) clock inputs outcomes) s t
  desk_runs now_open s t inputs outcomes is starts ran =
      let moved = runs is_clean Stands (Moves now_open) (Handled now_open) (λ s input outcome t moved. moved) s t inputs outcomes
      (kept_runs (Handles AnswersOf AnswersLinesOf DefersOf) (Moves now_open) (λ s. is_open s ≡ now_open) (step_moves now_open) s t inputs outcomes is ran) in (
        moved.0,
        (λ signers before stood clean.
            let (after, made, stands_now) = moved.1 signers (before, first_admission) (stood, sym starts) clean in
            (after.0, (after.1, made), stands_now.0)),
      )

  -- the same of one that does no work, and how serving it ended
  pub desk_moves : (now_open : Bool) (s t : S) (inputs : List Input) (outcomes : List (Outcome Unsigned)) → is_open s ≡ now_open
      → admission_of s ≡ first_admission → Answered (HandlesOrWorks AnswersOf AnswersLinesOf DefersOf (λ s t. t ≡ s)) s inputs outcomes t
      → (port requests : ℕ) (Early : Type 0) (out out' : Option (List ℕ)) (result : Result (Unit {0}) Failure)
      → Served port requests (Early ⊎ ⊥) inputs out out' result
      → (others : List Input) × (given : List (Outcome Unsigned))
      × Leads is_clean stands (Serves now_open signs (AnsweredAtPath signer_answered socket) clock others given) s t
      × Served port requests Early others out out' result
  desk_moves now_open s t inputs outcomes is starts ran port requests Early out out' result served =
      let it = without_work AnswersOf AnswersLinesOf DefersOf s t inputs outcomes ran in (
        it.others,
        it.outcomes,
        desk_runs now_open s t it.others it.outcomes is starts it.run,
        served_by port requests Early inputs it.others out out' result it.count it.none served,
      )
