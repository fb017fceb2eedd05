-- The law of a follower's job: nothing but pages of its leader's feed changes its records. So they are records that the leader had.
use Rattle.std.specs.Prelude.{◌≡◌, ◌⊎◌, ◌≤◌, ℕ, List, [], ◌∷◌, Option, Result, Ok}
use Rattle.reg_core.specs.Records.{Records}
use Rattle.reg_core_lists.specs.declared.feed_reader.ReceivedPage.{ReceivedPage}
use Rattle.reg_core_lists.specs.declared.positions.Positions.{Positions}
use Rattle.reg_desk_cli.specs.declared.failure.Failure.{Failure}
use Rattle.reg_desk_cli.specs.declared.job.FollowJob.{FollowJob}
use Rattle.reg_desk_server.specs.Exchange.{HandlesOrWorks, Input, Outcome}
use Rattle.reg_io.specs.RunsOfAnswers.{Answered}
use Rattle.reg_office_api.specs.FollowedLeaders.{AreFeedPages, IsLeader, OnlyAddsRows}
use Rattle.reg_office_api.specs.Follows.{ArePositionsOf, FollowStep, FormsSign}
use Rattle.reg_office_api.specs.declared.office.Office.{Ghosts as Office}
use Rattle.reg_desk_jobs.specs.FollowJobs.{FollowsRegister}
use Rattle.reg_desk_service.specs.ExpectedCrls.{ExpectsCrls, LeadsWithCrls}
use Rattle.reg_desk_service.specs.Following.{FollowerAnswers, FollowerAnswersLines, FollowerDefers, FollowerState, FollowerWorks}
use Rattle.reg_desk_service.specs.declared.machine.Machine.{Ghosts as Machine}
use Rattle.reg_desk_service.specs.declared.unsigned_responses.Unsigned.{Unsigned}

-- ---- pages that are entered

-- pages that were entered together, and the positions of the records after them
pub record EnteredPages : Type 0 where
  pub pages : List ReceivedPage
  pub reached : Positions

-- Pages were entered in turn, from these positions and records on: each time those after the positions that were reached last. Nothing else changed
-- the records.
abbrev pub EntersInTurn : Positions → List EnteredPages → Positions → Records → Records → Type 0
EntersInTurn own [] own' before after = (own' ≡ own) × (after ≡ before)
EntersInTurn own (entered ∷ more) own' before after =
    (next : Records) × FollowStep own entered.pages (Ok entered.reached) before next
    × EntersInTurn entered.reached more own' next after

-- All of them are pages of a leader's feed: each time those after the positions that were reached last, up to the end of the feed. The leader had the
-- records before them in the state `had`, and it made the last page in the state `at`; it made no page in an earlier state than the one before.
abbrev pub AreLeaderPages : (ℕ → Records) → ℕ → Positions → List EnteredPages → ℕ → Type 0
AreLeaderPages leader had own [] at = at ≡ had
AreLeaderPages leader had own (entered ∷ more) at =
    (state : ℕ) × AreFeedPages leader had own.counts own.declines entered.pages state
    × AreLeaderPages leader state entered.reached more at

-- A follower has records that its leader had, and enters pages of this leader's feed in turn. Then it has exactly the records of which the leader
-- made the last page, and their positions. It lost and changed no row and no CRL.
abbrev pub PagesFollowLeader : Type 0
PagesFollowLeader =
    (leader : ℕ → Records)
    (had at : ℕ)
    (own own' : Positions)
    (entered : List EnteredPages)
    (before after : Records)
    → IsLeader leader
    → before ≡ leader had
    → ArePositionsOf before own
    → AreLeaderPages leader had own entered at
    → EntersInTurn own entered own' before after
    → (had ≤ at) × (after ≡ leader at) × ArePositionsOf after own' × OnlyAddsRows before after

-- ---- run after run

-- a run of the job over its file: the positions of the records that it finds there, and the pages that it enters up to its end or to a stop
pub record JobRun : Type 0 where
  pub own : Positions
  pub entered : List EnteredPages

-- Runs of the job over one file. Each finds the records that the one before left. If a run was stopped while it entered pages, it left the records
-- before them or after them: these pages are among those that it entered, or not.
abbrev pub EntersInRuns : List JobRun → Records → Records → Type 0
EntersInRuns [] before after = after ≡ before
EntersInRuns (run ∷ runs) before after =
    ArePositionsOf before run.own × (reached : Positions) × (next : Records)
    × EntersInTurn run.own run.entered reached before next × EntersInRuns runs next after

-- the pages of all runs are of a leader's feed, from the state `had` on; it made the last one in the state `at`
abbrev pub AreLeaderRuns : (ℕ → Records) → ℕ → List JobRun → ℕ → Type 0
AreLeaderRuns leader had [] at = at ≡ had
AreLeaderRuns leader had (run ∷ runs) at =
    (state : ℕ) × AreLeaderPages leader had run.own run.entered state × AreLeaderRuns leader state runs at

-- The same over any runs of the job and stops between them: the records are those of which the leader made the last page, in no earlier state.
abbrev pub RunsFollowLeader : Type 0
RunsFollowLeader =
    (leader : ℕ → Records)
    (had at : ℕ)
    (runs : List JobRun)
    (before after : Records)
    → IsLeader leader
    → before ≡ leader had
    → AreLeaderRuns leader had runs at
    → EntersInRuns runs before after
    → (had ≤ at) × (after ≡ leader at)

-- ---- runs of a follower's desk

module _ {M O D S R : Type 0} (machines : Machine M O D S R) (offices : Office O) where
  -- requests, lines and work of a follower's desk, one after the other, with their outcomes
  abbrev pub FollowerRuns
      : FollowerState machines offices → List Input → List (Outcome Unsigned) → FollowerState machines offices
      → Type 0
  FollowerRuns =
      Answered (HandlesOrWorks (FollowerAnswers machines offices) (FollowerAnswersLines machines offices)
      (FollowerDefers machines offices) (FollowerWorks machines offices))

  -- Whatever clients ask and send: a follower's desk only enters pages in turn, from its positions before to those after. No request and no line
  -- changes the records.
  abbrev pub RunsEnterPages : Type 0
  RunsEnterPages =
      FormsSign offices.signs offices.forms
      → (s t : FollowerState machines offices) (inputs : List Input) (outcomes : List (Outcome Unsigned))
      → FollowerRuns s inputs outcomes t
      → (entered : List EnteredPages)
      × LeadsWithCrls offices (EntersInTurn s.2.own entered t.2.own) s.0 t.0

  -- A register is served by the job: no record changes; or the job runs as above, from the positions of the records on.
  abbrev pub ServesByRun : {W : Type 0} → (W → Option (List ℕ)) → Type 0
  ServesByRun {W = W} contents =
      FormsSign offices.signs offices.forms
      → (writer writer' : W) (it : FollowJob) (result : Result (Unit {0}) Failure) (first last : O)
      → FollowsRegister machines offices contents writer writer' it result first last
      → ExpectsCrls offices first last
      ⊎ ((run : JobRun) × (reached : Positions)
      × LeadsWithCrls offices
      (λ before after. ArePositionsOf before run.own × EntersInTurn run.own run.entered reached before after)
      first last)
