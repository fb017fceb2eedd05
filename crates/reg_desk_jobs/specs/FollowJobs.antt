-- The job that follows another desk: it fills its file if there is none, and then serves the register in it.
use Rattle.std.specs.Prelude.{◌≡◌, ◌⊎◌, ◌*◌, ℕ, min, List, ◌++◌, codes, Result, Ok, Err, Some, None}
use Rattle.std.specs.declared.option.Option.{Option}
use Rattle.reg_core.specs.Issuer.{Issuer}
use Rattle.reg_core.specs.Policy.{Terms}
use Rattle.reg_core.specs.Records.{Records, no_records}
use Rattle.reg_core.specs.declared.refusal.Fault.TheVariants as fault
use Rattle.reg_core_lists.specs.declared.feed_reader.ReceivedPage.{ReceivedPage}
use Rattle.reg_core_lists.specs.declared.positions.Positions.{Positions}
use Rattle.reg_crl_signer.specs.declared.algorithm.Algorithm.{Algorithm}
use Rattle.reg_desk_cli.specs.declared.failure.Failure.{Failure}
use Rattle.reg_desk_cli.specs.declared.failure.Failure.TheVariants as failure
use Rattle.reg_desk_cli.specs.declared.job.FollowJob.{FollowJob}
use Rattle.reg_desk_metrics.specs.Tallies.{greatest}
use Rattle.reg_desk_server.specs.Exchange.{Input, Outcome, HandlesOrWorks}
use Rattle.reg_desk_server.specs.Failures.{EndsEarly}
use Rattle.reg_io.specs.RunsOfAnswers.{Answered}
use Rattle.reg_office_api.specs.Calls.{KeepsIn, LooksIn}
use Rattle.reg_office_api.specs.Follows.{ArePositionsOf, FollowStep, FormsSign}
use Rattle.reg_office_api.specs.declared.office.Office.{Ghosts as Office}
use Rattle.reg_desk_jobs.specs.Fetches.{IsWholeFeed}
use Rattle.reg_desk_jobs.specs.Serving.{IsBoundOn, Served}
use Rattle.reg_desk_service.specs.Admission.{first_admission}
use Rattle.reg_desk_service.specs.Following.{FollowerAnswers, FollowerAnswersLines, FollowerDefers, FollowerWorks}
use Rattle.reg_desk_service.specs.RegisterUses.{Creates, NotCreatedAt, NotOpened, UsesRegister}
use Rattle.reg_desk_service.specs.Registers.{Opened}
use Rattle.reg_desk_service.specs.Signers.{entering, signing_with}
use Rattle.reg_desk_service.specs.declared.admission.Admission.{Admission}
use Rattle.reg_desk_service.specs.declared.follower.Follower.{Follower}
use Rattle.reg_desk_service.specs.declared.machine.Machine.{Ghosts as Machine}
use Rattle.reg_desk_service.specs.declared.unsigned_responses.Unsigned.{Unsigned}

-- the file beside the one at a path that is filled first
abbrev pub fill_path : List ℕ → List ℕ
fill_path path = path ++ codes ".fill"

-- the job fails
abbrev pub JobFails : Result (Unit {0}) Failure → Type 0
JobFails result = (why : Failure) × (result ≡ Err why)

-- all pages of a feed are entered, after the positions of the records; at a failure no record changes
abbrev pub EntersFeed : List ReceivedPage → Result (Unit {0}) Failure → Records → Records → Type 0
EntersFeed pages (Ok done) before after =
    (own reached : Positions) × ArePositionsOf before own × FollowStep own pages (Ok reached) before after
EntersFeed pages (Err why) before after = after ≡ before

-- the result of the job: the failure of a follower that must end, or else how serving ended
abbrev pub ending_by : Option Failure → Result (Unit {0}) Failure → Result (Unit {0}) Failure
ending_by (Some why) ending = Err why
ending_by None ending = ending

module _ {M O D S R : Type 0} (machines : Machine M O D S R) (offices : Office O) where
  -- the files are removed that a run which was stopped while it filled the file at a path may have left beside it
  abbrev pub RemovesLeftovers : List ℕ → M → M → Type 0
  RemovesLeftovers path machine machine' =
      (first second : M) × machines.removed machine (fill_path path) first
      × machines.removed first (path ++ codes ".fill-wal") second
      × machines.removed second (path ++ codes ".part") machine'

  -- The register at a path is opened to enter CRLs with some algorithm, and pages are entered.
  abbrev pub EntersAt : List ℕ → List ReceivedPage → Result (Unit {0}) Failure → M → M → Type 0
  EntersAt path pages result machine machine' =
      (algorithm : Option Algorithm)
      × (NotOpened machines machine machine' path (entering algorithm) result
      ⊎ UsesRegister machines offices machine machine' path (entering algorithm)
      (λ identity before after. EntersFeed pages result before after))

  -- A register without records is created at a path where there was no file, and closed; or a step fails.
  abbrev pub CreatesEmpty : List ℕ → Result (Unit {0}) Failure → M → M → Type 0
  CreatesEmpty path result machine machine' =
      ((machine' ≡ machine) × JobFails result)
      ⊎ ((claimed : M)
      × (machines.claimed machine path claimed ⊎ (machines.taken machine path × (claimed ≡ machine)))
      × (NotCreatedAt machines claimed machine' path result
      ⊎ ((issuer : Issuer) × (terms : Terms)
      × Creates machines offices claimed machine' path (no_records issuer terms) × (result ≡ Ok tt))))

  -- Such a register is not created; or it is, and pages are entered into it.
  abbrev pub FillsFile : List ℕ → List ReceivedPage → Result (Unit {0}) Failure → M → M → Type 0
  FillsFile path pages result machine machine' =
      (CreatesEmpty path result machine machine' × JobFails result)
      ⊎ ((created : M) × CreatesEmpty path (Ok tt) machine created × EntersAt path pages result created machine')

  -- a filled file is copied; one that could not be filled is not
  abbrev pub CopiesFilled
      : List ℕ → List ℕ → Result (Unit {0}) Failure → Result (Unit {0}) Failure → M → M → Type 0
  CopiesFilled path to (Ok done) result machine machine' =
      ((bytes : ℕ) × machines.copied machine path to bytes machine' × (result ≡ Ok tt))
      ⊎ ((why : Failure) × machines.copy_failed machine path to why machine' × (result ≡ Err why))
  CopiesFilled path to (Err why) result machine machine' = (machine' ≡ machine) × (result ≡ Err why)

  -- The file at a path is filled from the leader: no whole feed came, and nothing changed; or the file beside it is filled with one, copied to the
  -- path, and removed.
  abbrev pub Fills : List ℕ → Result (Unit {0}) Failure → M → M → Type 0
  Fills path result machine machine' =
      ((machine' ≡ machine) × JobFails result)
      ⊎ ((pages : List ReceivedPage) × (entered : Result (Unit {0}) Failure) × (filled copied : M)
      × IsWholeFeed pages
      × (FormsSign offices.signs offices.forms → FillsFile (fill_path path) pages entered machine filled)
      × CopiesFilled (fill_path path) path entered result filled copied
      × machines.removed copied (fill_path path) machine')

  -- a file at a path stays; if there is none, it is filled
  abbrev pub Prepares : List ℕ → Result (Unit {0}) Failure → M → M → Type 0
  Prepares path result machine machine' =
      (machines.taken machine path × (machine' ≡ machine) × (result ≡ Ok tt))
      ⊎ (machines.absent machine path × Fills path result machine machine')

  -- a follower that has the positions of the records of its office, and has not reached its leader
  pub record StartsAt (lag : ℕ) (first middle : O) (follower : Follower) : Type 0 where
    pub own : LooksIn offices (λ records. ArePositionsOf records follower.own) first middle
    pub lag_is : follower.lag ≡ min (lag * 1000) greatest
    pub reached_at : follower.reached_at ≡ None

  -- the failure of a follower that must end, or else how serving ended
  abbrev pub EndsFollowing
      : ℕ → Option Failure → List Input → Option (List ℕ) → Option (List ℕ) → Result (Unit {0}) Failure → Type 0
  EndsFollowing port (Some why) inputs out out' result = result ≡ Err why
  EndsFollowing port None inputs out out' result =
      Served port 18446744073709551615 (EndsEarly machines.failed machines.waited) inputs out out' result

  -- An office is served by a follower: nothing could be bound, and its records stay; or requests, lines and work followed one another.
  abbrev pub FollowsRegister
      : {W : Type 0} → (W → Option (List ℕ)) → W → W → FollowJob → Result (Unit {0}) Failure → O → O → Type 0
  FollowsRegister contents writer writer' it result first last =
      (KeepsIn offices first last × JobFails result × (writer' ≡ writer))
      ⊎ (IsBoundOn machines it.endpoint it.control
      × ((middle : O) × (follower follower' : Follower) × (admission : Admission) × (inputs : List Input)
      × (outcomes : List (Outcome Unsigned))
      × StartsAt it.lag first middle follower
      × Answered (HandlesOrWorks (FollowerAnswers machines offices) (FollowerAnswersLines machines offices)
      (FollowerDefers machines offices) (FollowerWorks machines offices))
      (middle, first_admission, follower) inputs outcomes (last, admission, follower')
      × EndsFollowing it.endpoint.port follower'.stop inputs (contents writer) (contents writer') result))

  -- the register at the path of the job, once there is one: it is opened, served and closed
  abbrev pub FollowsPrepared
      : {W : Type 0} → (W → Option (List ℕ)) → W → W → FollowJob → Result (Unit {0}) Failure
      → Result (Unit {0}) Failure → M → M → Type 0
  FollowsPrepared contents writer writer' it (Err why) result machine machine' =
      (machine' ≡ machine) × (result ≡ Err why) × (writer' ≡ writer)
  FollowsPrepared contents writer writer' it (Ok done) result machine machine' =
      (NotOpened machines machine machine' it.file (signing_with it.signer it.responder) result
      × (writer' ≡ writer))
      ⊎ ((first last : O) × (between : M)
      × Opened machines machine it.file (signing_with it.signer it.responder) first between
      × FollowsRegister contents writer writer' it result first last
      × machines.closed between it.file last machine')

  -- The job: out of memory, and nothing changed; or what an earlier run left is removed, the file is filled if there is none, and it is served.
  abbrev pub FollowAt
      : {W : Type 0} → (W → Option (List ℕ)) → W → W → FollowJob → Result (Unit {0}) Failure → M → M → Type 0
  FollowAt contents writer writer' it result machine machine' =
      ((result ≡ Err (failure.Fault fault.Memory)) × (machine' ≡ machine) × (writer' ≡ writer))
      ⊎ ((cleared start : M) × (prepared : Result (Unit {0}) Failure)
      × RemovesLeftovers it.file machine cleared
      × Prepares it.file prepared cleared start
      × FollowsPrepared contents writer writer' it prepared result start machine')
