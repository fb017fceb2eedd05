-- What a follower's desk does with its register, and how its job ends.
use Rattle.std.proofs.Common.{◌≡◌, ◌⊎◌, ℕ, Bool, true, false, List, [], ◌∷◌, Some, None, Ok, Err, IsTrue, ap, inl, inr, refl, subst}
use Rattle.std.specs.Prelude.{Option, Result, IsErrAnd, IsFalse, is_some}
use Rattle.reg_core.specs.declared.refusal.Fault.TheVariants as fault
use Rattle.reg_desk_cli.specs.declared.failure.Failure.{Failure}
use Rattle.reg_desk_cli.specs.declared.failure.Failure.TheVariants as failure
use Rattle.reg_desk_server.specs.Exchange.{Input, request, lines, work, Outcome, said, pending, later, HandlesOrWorks}
use Rattle.reg_io.specs.RunsOfAnswers.{Answered}
use Rattle.reg_office_api.proofs.PublicLaws.{chains, follows}
use Rattle.reg_office_api.specs.Leads.{Leads, Looks}
use Rattle.reg_desk_server.specs.Failures.{EndsEarly}
use Rattle.reg_office_api.specs.declared.office.Office.{Ghosts as Office}
use Rattle.reg_desk_service.specs.declared.machine.Machine.{Ghosts as Machine}
use Rattle.reg_core_lists.specs.declared.feed_reader.ReceivedPage.{ReceivedPage}
use Rattle.reg_desk_jobs.specs.FollowJobs.{CopiesFilled, EndsFollowing, FillsFile, ending_by}
use Rattle.reg_desk_jobs.specs.Serving.{Served}

-- a run, seen through a function of its states
pub mapped_run : {S T Q A : Type 0} (f : S → T) (answers : S → Q → A → S → Type 0) (other : T → Q → A → T → Type 0)
    → ((s : S) (q : Q) (a : A) (t : S) → answers s q a t → other (f s) q a (f t))
    → (s t : S) (asked : List Q) (given : List A) → Answered answers s asked given t → Answered other (f s) asked given (f t)
mapped_run f answers other each s t [] [] run = ap f run
mapped_run f answers other each s t [] (a ∷ given) run = absurd run
mapped_run f answers other each s t (q ∷ asked) [] run = absurd run
mapped_run f answers other each s t (q ∷ asked) (a ∷ given) run =
    (f run.0, each s q a run.0 run.1, mapped_run f answers other each run.0 t asked given run.2)

-- A handler, and another one, to whose states its states lead.
module _ {S T X : Type 0} (f : S → T) (answers : S → List ℕ → Outcome X → S → Type 0) (answers_lines : S → List ℕ → List ℕ → S → Type 0)
    (defers : S → List ℕ → S → Type 0) (works : S → S → Type 0) (other : T → List ℕ → Outcome X → T → Type 0)
    (other_lines : T → List ℕ → List ℕ → T → Type 0) (other_defers : T → List ℕ → T → Type 0) (other_works : T → T → Type 0) where
  step_mapped : ((s : S) (bytes : List ℕ) (outcome : Outcome X) (t : S) → answers s bytes outcome t → other (f s) bytes outcome (f t))
      → ((s : S) (bytes text : List ℕ) (t : S) → answers_lines s bytes text t → other_lines (f s) bytes text (f t))
      → ((s : S) (bytes : List ℕ) (t : S) → defers s bytes t → other_defers (f s) bytes (f t))
      → ((s t : S) → works s t → other_works (f s) (f t))
      → (s : S) (input : Input) (outcome : Outcome X) (t : S) → HandlesOrWorks answers answers_lines defers works s input outcome t
      → HandlesOrWorks other other_lines other_defers other_works (f s) input outcome (f t)
  step_mapped requests_to lines_to defers_to works_to s (request bytes) (said text) t step = requests_to s bytes (said text) t step
  step_mapped requests_to lines_to defers_to works_to s (request bytes) (pending ticket) t step = requests_to s bytes (pending ticket) t step
  step_mapped requests_to lines_to defers_to works_to s (request bytes) later t step = requests_to s bytes later t step
  step_mapped requests_to lines_to defers_to works_to s (lines bytes) (said text) t step = lines_to s bytes text t step
  step_mapped requests_to lines_to defers_to works_to s (lines bytes) (pending ticket) t step = absurd step
  step_mapped requests_to lines_to defers_to works_to s (lines bytes) later t step = defers_to s bytes t step
  step_mapped requests_to lines_to defers_to works_to s work (said text) t step = absurd step
  step_mapped requests_to lines_to defers_to works_to s work (pending ticket) t step = absurd step
  step_mapped requests_to lines_to defers_to works_to s work later t step = works_to s t step

  pub handles_mapped : ((s : S) (bytes : List ℕ) (outcome : Outcome X) (t : S) → answers s bytes outcome t → other (f s) bytes outcome (f t))
      → ((s : S) (bytes text : List ℕ) (t : S) → answers_lines s bytes text t → other_lines (f s) bytes text (f t))
      → ((s : S) (bytes : List ℕ) (t : S) → defers s bytes t → other_defers (f s) bytes (f t))
      → ((s t : S) → works s t → other_works (f s) (f t))
      → (s t : S) (inputs : List Input) (outcomes : List (Outcome X)) → Answered (HandlesOrWorks answers answers_lines defers works) s inputs outcomes t
      → Answered (HandlesOrWorks other other_lines other_defers other_works) (f s) inputs outcomes (f t)
  handles_mapped requests_to lines_to defers_to works_to s t inputs outcomes run =
      mapped_run f (HandlesOrWorks answers answers_lines defers works) (HandlesOrWorks other other_lines other_defers other_works)
      (step_mapped requests_to lines_to defers_to works_to) s t inputs outcomes run

-- the result of a `?` is its error
pub is_err : {A : Type 0} (result : Result A Failure) (why : Failure) → IsErrAnd result (λ it. it ≡ why) → result ≡ Err why
is_err (Ok done) why is = absurd is
is_err (Err it) why is = ap Err is

-- how serving ended, where what ends it early is something else too
pub served_as : (port requests : ℕ) (Early Other : Type 0) (inputs : List Input) (out out' : Option (List ℕ)) (result : Result (Unit {0}) Failure)
    → (Early → Other) → Served port requests Early inputs out out' result → Served port requests Other inputs out out' result
served_as port requests Early Other inputs out out' (Ok done) to served = served
served_as port requests Early Other inputs out out' (Err (failure.Fault fault.Read)) to served = (served.0, to served.1, served.2)
served_as port requests Early Other inputs out out' (Err (failure.Fault fault.Write)) to served = served
served_as port requests Early Other inputs out out' (Err other) to served = absurd served

-- how following ended: a follower that need not end did not end the loop
pub ends_following : {M O D S R : Type 0} (machines : Machine M O D S R) (offices : Office O) (port : ℕ) (stop : Option Failure) (inputs : List Input)
    (out out' : Option (List ℕ)) (ending : Result (Unit {0}) Failure)
    → Served port 18446744073709551615 (EndsEarly machines.failed machines.waited ⊎ IsTrue (is_some stop)) inputs out out' ending
    → EndsFollowing machines offices port stop inputs out out' (ending_by stop ending)
ends_following machines offices port (Some why) inputs out out' ending served = refl
ends_following machines offices port None inputs out out' ending served =
    served_as port 18446744073709551615 _ _ inputs out out' ending (λ early. elim early [ inl ended ↦ ended | inr bad ↦ absurd cc ]) served

-- what was done with files, by the paths' other names
module _ {M O D S R : Type 0} (machines : Machine M O D S R) (offices : Office O) where
  pub fills_at : (path other : List ℕ) (pages : List ReceivedPage) (result : Result (Unit {0}) Failure) (m m' : M) → path ≡ other
      → FillsFile machines offices path pages result m m' → FillsFile machines offices other pages result m m'
  fills_at path other pages result m m' same filled = subst (λ (it : List ℕ). FillsFile machines offices it pages result m m') same filled

  pub copies_at : (path other to to' : List ℕ) (entered result : Result (Unit {0}) Failure) (m m' : M) → path ≡ other → to ≡ to'
      → CopiesFilled machines offices path to entered result m m' → CopiesFilled machines offices other to' entered result m m'
  copies_at path other to to' entered result m m' same same_to copied =
      subst (λ (it : List ℕ). CopiesFilled machines offices other it entered result m m') same_to
      (subst (λ (it : List ℕ). CopiesFilled machines offices it to entered result m m') same copied)

-- a path was claimed, or something lay there and the machine is as it was
pub claims : {M : Type 0} (Claimed Lies : Type 0) (machine start : M) (is_ours : Bool) → (IsTrue is_ours → Claimed) → (IsFalse is_ours → Lies)
    → (IsFalse is_ours → start ≡ machine) → Claimed ⊎ (Lies × (start ≡ machine))
claims Claimed Lies machine start true claimed taken same = inl (claimed refl)
claims Claimed Lies machine start false claimed taken same = inr (taken refl, same refl)

module _ {S I R : Type 0} (is_clean : S → Type 0) (stands : I → S → R → Type 0) where
  -- a look changes no record
  pub look_keeps : (seen : R → Type 0) (s t : S) → Looks is_clean stands seen s t → Leads is_clean stands (λ i before after. after ≡ before) s t
  look_keeps seen s t look =
      follows is_clean stands (λ i before after. seen before × (after ≡ before)) (λ i before after. after ≡ before) (λ i before after looked. looked.1) s t look

  -- a look, and then a step
  pub look_then : (seen : R → Type 0) (step : R → R → Type 0) (s m t : S) → Looks is_clean stands seen s m
      → Leads is_clean stands (λ i. step) m t → Leads is_clean stands (λ i before after. seen before × step before after) s t
  look_then seen step s m t look stepped =
      follows is_clean stands
      (λ i before after. (middle : R) × (seen before × (middle ≡ before)) × step middle after)
      (λ i before after. seen before × step before after)
      (λ i before after (middle, looked, made). (looked.0, subst (λ (r : R). step r after) looked.1 made))
      s
      t
      (chains is_clean stands (λ i before after. seen before × (after ≡ before)) (λ i. step) s m t look stepped)
