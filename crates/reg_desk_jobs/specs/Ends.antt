-- How a job of the program ends.
use Rattle.std.specs.Prelude.{◌≡◌, ◌≢◌, ◌⊎◌, ℕ, Bool, true, false, List, codes, is_some, not, IsFalse, IsTrue, Result, Ok, Err, Some, None}
use Rattle.std.specs.declared.option.Option.{Option}
use Rattle.std.specs.Io.KnownBytes.{Appends}
use Rattle.reg_core.specs.Issuer.{Issuer}
use Rattle.reg_core.specs.Policy.{Terms, IsPolicy}
use Rattle.reg_core.specs.Records.{Records, no_records}
use Rattle.reg_core.specs.Schedule.{IsSchedule}
use Rattle.reg_core.specs.declared.refusal.Fault.{Fault}
use Rattle.reg_core.specs.declared.refusal.Fault.TheVariants as fault
use Rattle.reg_office_api.specs.Signers.{OfficeSigners}
use Rattle.reg_lines.specs.ByCalls.{Lines}
use Rattle.reg_office_api.specs.CallSteps.{GivesCrl}
use Rattle.reg_office_api.specs.declared.office.Office.{Ghosts as Office}
use Rattle.reg_desk_server.specs.Exchange.{Input, Outcome}
use Rattle.reg_desk_server.specs.Failures.{EndsEarly}
use Rattle.reg_desk_cli.specs.Checks.{WritesIdentified, WritesIdentifier, IsNoIdentifier, IsNoIssuerOrPolicy, IsNoSchedule, terms_of_days}
use Rattle.reg_desk_cli.specs.ExitStatus.{exit_status}
use Rattle.reg_desk_cli.specs.declared.failure.Failure.{Failure}
use Rattle.reg_desk_cli.specs.declared.failure.Failure.TheVariants as failure
use Rattle.reg_lines.specs.Import.{ImportEnds}
use Rattle.reg_core_lists.specs.Pages.{GivesWholeList}
use Rattle.reg_lines.specs.Script.{LinesEnd, ScriptEnds}
use Rattle.reg_lines.specs.Strict.{StrictEnds}
use Rattle.reg_lines.specs.AuditLines.{broken_text, sound_text}
use Rattle.reg_lines.specs.declared.audit_lines.TheConstants.{OTHER_SCHEMA}
use Rattle.reg_core.specs.declared.audit_result.AuditResult.{AuditResult}
use Rattle.reg_core.specs.declared.audit_result.AuditResult.TheVariants as audit_result
use Rattle.reg_io.specs.Put.{AppendsPrefix}
use Rattle.reg_desk_cli.specs.declared.job.Job.{Job}
use Rattle.reg_desk_cli.specs.declared.job.Job.TheVariants as job
use Rattle.reg_desk_cli.specs.declared.job.ResponderChoice.{ResponderChoice}
use Rattle.reg_desk_cli.specs.declared.job.Endpoint.{Endpoint}
use Rattle.reg_desk_cli.specs.declared.job.OpenJob.{OpenJob}
use Rattle.reg_desk_cli.specs.declared.job.SignerAddress.{SignerAddress}
use Rattle.reg_desk_cli.specs.declared.job.LineScript.{LineScript}
use Rattle.reg_desk_cli.specs.declared.job.ListJob.{ListJob}
use Rattle.reg_desk_cli.specs.declared.job.NewRegister.{NewRegister}
use Rattle.reg_desk_cli.specs.declared.job.ImportJob.{ImportJob}
use Rattle.reg_desk_cli.specs.declared.job.ServeJob.{ServeJob}
use Rattle.reg_desk_cli.specs.declared.job.ScriptOptions.{ScriptOptions}
use Rattle.reg_lines.specs.declared.answered.Ended.{Ended}
use Rattle.reg_desk_metrics.specs.Ahead.{is_ahead}
use Rattle.reg_desk_jobs.specs.Conversations.{AtControlSocket, RowsAtControlSocket}
use Rattle.reg_desk_service.specs.Copies.{copied_text}
use Rattle.reg_desk_jobs.specs.Digest.{digest_alone, digests}
use Rattle.reg_desk_jobs.specs.FollowJobs.{FollowAt}
use Rattle.reg_desk_service.specs.RegisterFailures.{IsCreateFailure, IsOpenFailure, IsReadFailure}
use Rattle.reg_office_api.specs.LookUps.{IsOfStore}
use Rattle.reg_office_api.specs.Settings.{SetsKeyIdentifier, ReplacesSchedule}
use Rattle.reg_desk_jobs.specs.Published.{Compares, HasAll}
use Rattle.reg_desk_jobs.specs.Sample.{sample_records}
use Rattle.reg_desk_jobs.specs.Replays.{ReplaysAt}
use Rattle.reg_desk_jobs.specs.RowTasks.{SendsRowsAt}
use Rattle.reg_desk_service.specs.Registers.{Audits, Unaudited}
use Rattle.reg_desk_jobs.specs.Serving.{IsBoundOn, ServesOn, ServedAt}
use Rattle.reg_desk_service.specs.FailureReports.{Explains}
use Rattle.reg_desk_service.specs.Signers.{Signing, issuer_responds, signing_with, unsigned}
use Rattle.reg_desk_service.specs.RegisterUses.{UsesRegister, NotCreatedAt, NotOpened, Creates, exit_of, exit_of_run}
use Rattle.reg_desk_service.specs.declared.unsigned_responses.Unsigned.{Unsigned}
use Rattle.reg_desk_service.specs.declared.machine.Machine.{Ghosts as Machine}

-- a text is written and the job is done; or a prefix of it, and the job fails with `Write`
abbrev pub PrintsText : List ℕ → Option (List ℕ) → Option (List ℕ) → Result (Unit {0}) Failure → Type 0
PrintsText text out out' (Ok done) = Appends out out' text
PrintsText text out out' (Err why) = (why ≡ failure.Fault fault.Write) × AppendsPrefix out out' text

-- the text of the result is written, as `PrintsText` states; or its fault ends the job, and nothing is written
abbrev pub PrintsResult
    : {W : Type 0} → (W → Option (List ℕ)) → W → W → Result (List ℕ) Fault → Result (Unit {0}) Failure
    → Type 0
PrintsResult contents writer writer' (Ok text) result =
    PrintsText text (contents writer) (contents writer') result
PrintsResult contents writer writer' (Err why) result =
    (result ≡ Err (failure.Fault why)) × (writer' ≡ writer)

-- a text is written after a setting was changed; or out of memory or a failure of the store ends the job, and nothing is written
abbrev pub PrintsSetResult
    : {W : Type 0} → List ℕ → (W → Option (List ℕ)) → W → W → Result (Unit {0}) Fault
    → Result (Unit {0}) Failure → Type 0
PrintsSetResult text contents writer writer' (Ok done) result =
    PrintsText text (contents writer) (contents writer') result
PrintsSetResult text contents writer writer' (Err why) result =
    (result ≡ Err (failure.Fault why)) × IsOfStore why × (writer' ≡ writer)

-- the text of a line is written, as `PrintsText` states; or there was no memory for it, and nothing is written
abbrev pub PrintsLine
    : {W : Type 0} → List ℕ → (W → Option (List ℕ)) → W → W → Result (Unit {0}) Failure → Type 0
PrintsLine text contents writer writer' result =
    PrintsText text (contents writer) (contents writer') result
    ⊎ ((result ≡ Err (failure.Fault fault.Memory)) × (writer' ≡ writer))

-- the text of an audit whose result is not sound is written, and the job fails with `Broken`; or a prefix of it, and the job fails with `Write`; or
-- there was no memory for it, and nothing is written
abbrev pub PrintsBroken
    : {W : Type 0} → List ℕ → (W → Option (List ℕ)) → W → W → Result (Unit {0}) Failure → Type 0
PrintsBroken text contents writer writer' result =
    ((result ≡ Err failure.Broken) × Appends (contents writer) (contents writer') text)
    ⊎ (((result ≡ Err (failure.Fault fault.Write)) × AppendsPrefix (contents writer) (contents writer') text)
    ⊎ ((result ≡ Err (failure.Fault fault.Memory)) × (writer' ≡ writer)))

-- the report of an audit: a register of an older version is not audited, and the job fails with `OldVersion`
abbrev pub ReportsAuditResult
    : {W : Type 0} → (W → Option (List ℕ)) → W → W → AuditResult → Result (Unit {0}) Failure → Type 0
ReportsAuditResult contents writer writer' (audit_result.Sound found) result =
    PrintsLine (sound_text found) contents writer writer' result
ReportsAuditResult contents writer writer' (audit_result.Broken broken) result =
    PrintsBroken (broken_text broken) contents writer writer' result
ReportsAuditResult contents writer writer' audit_result.OtherSchema result =
    PrintsBroken OTHER_SCHEMA.now contents writer writer' result
ReportsAuditResult contents writer writer' audit_result.Older result =
    (result ≡ Err failure.OldVersion) × (writer' ≡ writer)

-- the given moment, or else one that the clock has reached
abbrev pub IsMomentOf : (ℕ → Type 0) → Option ℕ → ℕ → Type 0
IsMomentOf clock (Some given) now = now ≡ given
IsMomentOf clock None now = clock now

-- the terms of the policy of a register that is to be created
abbrev pub terms_of_new : NewRegister → Terms
terms_of_new new = terms_of_days new.days new.crl_life new.ocsp_life new.cap

-- A job that writes: the machine and the writer, before the job and after it.
module _ {M O D S R W : Type 0} (machines : Machine M O D S R) (offices : Office O)
    (contents : W → Option (List ℕ))
    (machine machine' : M) (writer writer' : W) where
  -- a new register at a path, which has no records
  abbrev pub CreatesAt : List ℕ → Issuer → Terms → Result (Unit {0}) Failure → Type 0
  CreatesAt path issuer terms result =
      (NotCreatedAt machines machine machine' path result × (writer' ≡ writer))
      ⊎ (Creates machines offices machine machine' path (no_records issuer terms)
      × PrintsText (codes "created\n") (contents writer) (contents writer') result)

  -- over the register at a path: it could not be opened, and nothing was written; or `Done`
  abbrev pub Over : List ℕ → Signing → Result (Unit {0}) Failure → Type 0 → Type 0
  Over path signing result Done =
      (NotOpened machines machine machine' path signing result × (writer' ≡ writer)) ⊎ Done

  -- the bytes of a CRL of the register at a path (RFC 5280 5); no record changes
  abbrev pub CrlAt : List ℕ → Option ℕ → Result (Unit {0}) Failure → Type 0
  CrlAt path number result = Over path unsigned result ((given : Result (List ℕ) Fault)
      × UsesRegister machines offices machine machine' path unsigned (λ identity before after.
      GivesCrl before number given after)
      × PrintsResult contents writer writer' given result)

  -- a list of the register at a path, at a moment: all rows that are wanted, each once and in order, written as `PrintsResult` states; no record
  -- changes. If the clock can't be read, the job ends before it opens the path
  abbrev pub ListAt : ListJob → Result (Unit {0}) Failure → Type 0
  ListAt it result =
      ((result ≡ Err (failure.Fault fault.Read)) × (writer' ≡ writer) × (machine' ≡ machine))
      ⊎ ((now : ℕ) × IsMomentOf machines.clock_reached it.moment now
      × Over it.file unsigned result ((given : Result (List ℕ) Fault)
      × UsesRegister machines offices machine machine' it.file unsigned
      (λ identity before after. GivesWholeList before now it.form it.filter it.from given after)
      × PrintsResult contents writer writer' given result))

  -- an audit of the register at a path: the register could not be read, or the audit's result is reported; the machine is as it was
  abbrev pub AuditAt : List ℕ → Result (Unit {0}) Failure → Type 0
  AuditAt path result =
      (machine' ≡ machine)
      × (((why : Failure) × (result ≡ Err why) × Unaudited machines machine path why × IsOpenFailure why
      × (writer' ≡ writer))
      ⊎ ((found : AuditResult) × Audits machines machine path found
      × ReportsAuditResult contents writer writer' found result))

  -- a copy of the register at a path, to another path: none was created; or one was, where nothing was before, and its length in bytes and the
  -- milliseconds that it took are written
  abbrev pub CopyAt : List ℕ → List ℕ → Result (Unit {0}) Failure → Type 0
  CopyAt path to result =
      ((why : Failure) × (result ≡ Err why) × machines.copy_failed machine path to why machine'
      × IsReadFailure why × (writer' ≡ writer))
      ⊎ ((bytes millis : ℕ) × machines.copied machine path to bytes machine'
      × PrintsLine (copied_text bytes millis) contents writer writer' result)

  -- another schedule for the register at a path: its steps are checked before the path is opened
  abbrev pub ScheduleAt : List ℕ → List (ℕ × ℕ) → Result (Unit {0}) Failure → Type 0
  ScheduleAt path steps result =
      ((why : Failure) × (result ≡ Err why) × IsNoSchedule steps why × (writer' ≡ writer)
      × (machine' ≡ machine))
      ⊎ (IsSchedule steps × Over path unsigned result ((set : Result (Unit {0}) Fault)
      × UsesRegister machines offices machine machine' path unsigned (λ identity. ReplacesSchedule steps set)
      × PrintsSetResult (codes "schedule set\n") contents writer writer' set result))

  -- a key identifier for the issuer of the register at a path (RFC 5280 5.2.1): its hexadecimal is checked before the path is opened
  abbrev pub KeyIdAt : List ℕ → List ℕ → Result (Unit {0}) Failure → Type 0
  KeyIdAt path key_id result =
      ((why : Failure) × (result ≡ Err why) × IsNoIdentifier key_id why × (writer' ≡ writer)
      × (machine' ≡ machine))
      ⊎ ((octets : List ℕ) × WritesIdentifier key_id octets
      × Over path unsigned result ((set : Result (Unit {0}) Fault)
      × UsesRegister machines offices machine machine' path unsigned (λ identity.
      SetsKeyIdentifier octets set)
      × PrintsSetResult (codes "key-id set\n") contents writer writer' set result))

-- A new register at a path.
module _ {M O D S R W : Type 0} (machines : Machine M O D S R) (offices : Office O)
    (contents : W → Option (List ℕ))
    (machine machine' : M) (writer writer' : W) where
  -- an empty file was created at a path, with the machine after that; or the path was taken (`Machine.taken`), and the machine did not change
  abbrev pub Claims : List ℕ → M → Type 0
  Claims path start = machines.claimed machine path start ⊎ (machines.taken machine path × (start ≡ machine))

  -- what is left at the path of a new register: all stays if the job is done, if the file had tables already (`NotEmpty`), or if the path was taken
  -- before; else the file that was created there is removed
  abbrev pub Leaves : List ℕ → M → M → Result (Unit {0}) Failure → Type 0
  Leaves path start between (Ok done) = machine' ≡ between
  Leaves path start between (Err why) =
      (((why ≡ failure.NotEmpty) ⊎ (machines.taken machine path × (start ≡ machine))) × (machine' ≡ between))
      ⊎ (machines.claimed machine path start × (why ≢ failure.NotEmpty)
      × machines.removed between path machine')

  -- a new register at a path, with the given issuer and policy, which are checked before the path is used
  abbrev pub InitAt : NewRegister → Result (Unit {0}) Failure → Type 0
  InitAt new result =
      ((why : Failure) × (result ≡ Err why) × IsNoIssuerOrPolicy new.name new.key new.key_id (terms_of_new new) why
      × (writer' ≡ writer) × (machine' ≡ machine))
      ⊎ ((issuer : Issuer) × WritesIdentified new.name new.key new.key_id issuer × IsPolicy (terms_of_new new)
      × ((start between : M) × Claims new.file start
      × CreatesAt machines offices contents start between writer writer'
      new.file issuer (terms_of_new new) result
      × Leaves new.file start between result))

-- a script without FILE: no register could be created in memory, or the script ran over it
abbrev pub ScriptInMemory
    : {E W : Type 0} → (E → Option (List ℕ)) → (W → Option (List ℕ)) → Type 0 → Type 0 → E → E → W → W
    → Result (Unit {0}) Failure → Type 0
ScriptInMemory remaining contents input_failed output_failed reader reader' writer writer' result =
    ((why : Failure) × (result ≡ Err why) × IsCreateFailure why × (reader' ≡ reader) × (writer' ≡ writer))
    ⊎ ((ran : Result (Unit {0}) Fault) × (result ≡ exit_of ran) × ((after : Records)
    × ScriptEnds (Lines digests digest_alone) remaining contents input_failed output_failed sample_records after
    reader reader' writer writer' ran))

-- a moment is not too far ahead of the last accepted command's; or it is, or that one can't be read, and the job fails
abbrev pub ChecksMoment : ℕ → Records → Result (Unit {0}) Failure → Type 0
ChecksMoment now records (Ok done) = IsFalse (is_ahead now records.last None)
ChecksMoment now records (Err why) =
    ((why ≡ failure.BadClock) × IsTrue (is_ahead now records.last None))
    ⊎ ((store_fault : Fault) × (why ≡ failure.Fault store_fault) × IsOfStore store_fault)

-- the lines of a script run at the machine's clock, and the operator does not accept one that is too far ahead
abbrev pub IsChecked : ScriptOptions → Type 0
IsChecked options = IsTrue options.is_clocked × IsFalse options.accepts_clock

-- the check of a script's clock: lines whose clock is not checked run; so do those whose clock can't be read, and the first one reports that
abbrev pub ChecksLines
    : ScriptOptions → (ℕ → Type 0) → Type 0 → Records → Result (Unit {0}) Failure → Type 0
ChecksLines options clock_reached clock_failed records result =
    ((result ≡ Ok tt) × ((¬ IsChecked options) ⊎ clock_failed))
    ⊎ (IsChecked options × ((now : ℕ) × clock_reached now × ChecksMoment now records result))

-- A job that reads and writes: the machine, the reader and the writer, before the job and after it, and what states that a read or a write of
-- those failed.
module _ {M O D S R E W : Type 0} (machines : Machine M O D S R) (offices : Office O)
    (remaining : E → Option (List ℕ)) (contents : W → Option (List ℕ)) (input_failed output_failed : Type 0)
    (machine machine' : M) (reader reader' : E) (writer writer' : W) where
  -- a run over the register at a path, and how the job ends: the register could not be opened, or the run led from its records to others
  abbrev pub RunsAt
      : {A : Type 0} → (A → Result (Unit {0}) Failure) → List ℕ → Signing
      → (A → OfficeSigners → Records → Records → Type 0)
      → Result (Unit {0}) Failure → Type 0
  RunsAt {A = A} ending path signing Ran result =
      (NotOpened machines machine machine' path signing result × (reader' ≡ reader) × (writer' ≡ writer))
      ⊎ ((ran : A) × (result ≡ ending ran)
      × UsesRegister machines offices machine machine' path signing (Ran ran))

  -- a script over the register at a path
  abbrev pub ScriptAt : List ℕ → Option SignerAddress → Result (Unit {0}) Failure → Type 0
  ScriptAt path signer =
      RunsAt exit_of path (signing_with signer issuer_responds) (λ ran identity before after.
      ScriptEnds (Lines offices.signs identity) remaining contents input_failed output_failed before after
      reader reader' writer writer' ran)

  -- no line of a script runs, because the clock is too far ahead, or can't be compared with the last accepted command's moment
  abbrev pub ClockRefusedAt : LineScript → Result (Unit {0}) Failure → Type 0
  ClockRefusedAt it result =
      (why : Failure) × (result ≡ Err why) × (reader' ≡ reader) × (writer' ≡ writer)
      × UsesRegister machines offices machine machine' it.file (signing_with it.signer issuer_responds)
      (λ identity before after.
      ChecksLines it.options machines.clock_reached machines.failed before (Err why) × (after ≡ before))

  -- the lines of a script run over the register at a path
  abbrev pub LinesRunAt : LineScript → Result (Unit {0}) Failure → Type 0
  LinesRunAt it =
      RunsAt exit_of_run it.file (signing_with it.signer issuer_responds) (λ ran identity before after.
      ChecksLines it.options machines.clock_reached machines.failed before (Ok tt)
      × LinesEnd (Lines offices.signs identity) remaining contents input_failed output_failed before after
      reader reader' writer writer' machines.clock_reached machines.failed it.options.is_clocked
      it.options.is_strict ran)

  -- a script over the register at a path, run line by line
  abbrev pub LinesAt : LineScript → Result (Unit {0}) Failure → Type 0
  LinesAt it result = ClockRefusedAt it result ⊎ LinesRunAt it result

  -- the rows of an import ran at a moment, which is checked or not; the import is strict or not
  abbrev pub ImportRan : Bool → Bool → List ℕ → ℕ → Result (Unit {0}) Failure → Type 0
  ImportRan is_checked false path now result = (ran : Result (Unit {0}) Fault) × (result ≡ exit_of ran)
      × UsesRegister machines offices machine machine' path unsigned (λ identity before after.
      (IsTrue is_checked → ChecksMoment now before (Ok tt))
      × ImportEnds (Lines offices.signs identity) remaining contents input_failed output_failed now before after
      reader reader' writer writer' ran)
  ImportRan is_checked true path now result = (ran : Result Ended Fault) × (result ≡ exit_of_run ran)
      × UsesRegister machines offices machine machine' path unsigned (λ identity before after.
      (IsTrue is_checked → ChecksMoment now before (Ok tt))
      × StrictEnds (Lines offices.signs identity) remaining contents input_failed output_failed now before after
      reader reader' writer writer' ran)

  -- an import into the register at a path: it could not be opened, or the rows ran
  abbrev pub ImportAt : Bool → Bool → List ℕ → ℕ → Result (Unit {0}) Failure → Type 0
  ImportAt is_checked is_strict path now result =
      (NotOpened machines machine machine' path unsigned result × (reader' ≡ reader) × (writer' ≡ writer))
      ⊎ ImportRan is_checked is_strict path now result

  -- no row is imported, because the moment of the import is too far ahead, or can't be compared with the last accepted command's
  abbrev pub ImportRefusedAt : List ℕ → ℕ → Result (Unit {0}) Failure → Type 0
  ImportRefusedAt path now result =
      (why : Failure) × (result ≡ Err why) × (reader' ≡ reader) × (writer' ≡ writer)
      × UsesRegister machines offices machine machine' path unsigned (λ identity before after.
      ChecksMoment now before (Err why) × (after ≡ before))

  -- an import at a moment; if the moment is checked, the whole import is refused exactly where the moment is too far ahead
  abbrev pub ImportChecked : Bool → Bool → List ℕ → ℕ → Result (Unit {0}) Failure → Type 0
  ImportChecked is_checked is_strict path now result =
      (IsTrue is_checked × ImportRefusedAt path now result) ⊎ ImportAt is_checked is_strict path now result

  -- an import at the given moment, which is not checked, or else at one of the clock, which is checked unless the operator accepts it; if the clock
  -- can't be read, nothing is done
  abbrev pub ImportAtMoment : Option ℕ → Bool → Bool → List ℕ → Result (Unit {0}) Failure → Type 0
  ImportAtMoment (Some now) accepts is_strict path result = ImportAt false is_strict path now result
  ImportAtMoment None accepts is_strict path result =
      ((result ≡ Err (failure.Fault fault.Read)) × (machine' ≡ machine) × (reader' ≡ reader)
      × (writer' ≡ writer))
      ⊎ ((now : ℕ) × machines.clock_reached now × ImportChecked (not accepts) is_strict path now result)

  abbrev pub ImportJobEnds : ImportJob → Result (Unit {0}) Failure → Type 0
  ImportJobEnds it = ImportAtMoment it.moment it.accepts_clock it.is_strict it.file

  -- HTTP requests over the register at a path (RFC 9112), which is opened before the port is bound, and lines if there is a control socket. If a
  -- published CRL is given and can't be compared, or the register lacks any of it, nothing is served. Else the register has all of a given CRL, and
  -- answers `inputs` in their order, with `outcomes`. An OCSP signature that was awaited came from the signer of OCSP responses. Without a
  -- published CRL, `reader` is not read.
  abbrev pub AtPort
      : List ℕ → Option SignerAddress → ResponderChoice → Option (List ℕ) → Endpoint → Option (List ℕ) → ℕ
      → Result (Unit {0}) Failure → Type 0
  AtPort path signer responder published endpoint control requests result =
      let Uses = UsesRegister machines offices machine machine' path (signing_with signer responder) in
      (IsFalse (is_some published) → reader' ≡ reader)
      × Over machines offices contents machine machine' writer writer'
      path (signing_with signer responder) result
      (((why : Failure) × (result ≡ Err why) × IsTrue (is_some published) × Uses
      (λ identity before after.
      Compares before (remaining reader) (contents writer) (contents writer') (Err why) × (after ≡ before)))
      ⊎ ((inputs : List Input) × (outcomes : List (Outcome Unsigned)) × Uses
      (λ identity before after. (IsTrue (is_some published) → HasAll before (remaining reader))
      × ServesOn machines offices signer responder (is_some control) inputs outcomes identity before after)
      × ServedAt contents writer writer' (IsBoundOn machines endpoint control)
      (EndsEarly machines.failed machines.waited) endpoint.port requests inputs result))

  -- as many requests as the job says
  abbrev pub ServeAt : ServeJob → Result (Unit {0}) Failure → Type 0
  ServeAt it = AtPort it.file it.signer it.responder it.published it.endpoint None it.requests

  -- requests, and lines at the control socket, until 2^64 - 1 requests are answered
  abbrev pub OpenAt : OpenJob → Result (Unit {0}) Failure → Type 0
  OpenAt it =
      AtPort it.file it.signer it.responder it.published it.endpoint (Some it.control) 18446744073709551615

  -- a job that reads no input, and whose result is as `Done` states
  abbrev pub Writes : (Result (Unit {0}) Failure → Type 0) → Result (Unit {0}) Failure → Type 0
  Writes Done result = (reader' ≡ reader) × Done result

  -- the end of a job: what it read, what it did on its machine to the register at its path and to nothing else, and what it wrote. A script without
  -- FILE and with a signer fails with `BadSigner`, because no signer has the sample issuer's key
  abbrev pub Ends : Job → Result (Unit {0}) Failure → Type 0
  Ends (job.Init it) = Writes (InitAt machines offices contents machine machine' writer writer' it)
  Ends (job.Script (Some file) signer) = ScriptAt file signer
  Ends (job.Script None None) =
      λ result. (machine' ≡ machine)
      × ScriptInMemory remaining contents input_failed output_failed reader reader' writer writer' result
  Ends (job.Script None (Some address)) = λ result.
      (machine' ≡ machine) × (reader' ≡ reader) × (writer' ≡ writer) × (result ≡ Err failure.BadSigner)
  Ends (job.Lines it) = LinesAt it
  Ends (job.Import it) = ImportJobEnds it
  Ends (job.Crl file number) =
      Writes (CrlAt machines offices contents machine machine' writer writer' file number)
  Ends (job.Schedule file steps) =
      Writes (ScheduleAt machines offices contents machine machine' writer writer' file steps)
  Ends (job.KeyId file key_id) =
      Writes (KeyIdAt machines offices contents machine machine' writer writer' file key_id)
  Ends (job.Serve it) = ServeAt it
  Ends (job.Open it) = OpenAt it
  Ends (job.Follow it) = Writes (λ result.
      FollowAt machines offices contents writer writer' it result machine machine')
  Ends (job.Listing it) = Writes (ListAt machines offices contents machine machine' writer writer' it)
  Ends (job.Copy file to) = Writes (CopyAt machines offices contents machine machine' writer writer' file to)
  Ends (job.Audit file) = Writes (AuditAt machines offices contents machine machine' writer writer' file)
  Ends (job.At control_path None) = λ result.
      (machine' ≡ machine)
      × AtControlSocket (machines.socket_connected control_path) (remaining reader) (contents writer)
      (contents writer') result
  Ends (job.At control_path (Some file)) = λ result. (machine' ≡ machine)
      × RowsAtControlSocket (machines.socket_connected control_path) input_failed (remaining reader) (remaining reader')
      (contents writer) (contents writer') result
  Ends (job.EachRow control_path rows task) = λ result.
      (machine' ≡ machine)
      × SendsRowsAt task (machines.socket_connected control_path) (remaining reader) (contents writer)
      (contents writer') result
  Ends (job.Replay control_path log) = λ result.
      (machine' ≡ machine)
      × ReplaysAt (machines.socket_connected control_path) (remaining reader) (contents writer)
      (contents writer') result

  -- A job and its report: how it ended, its exit status, and what it wrote to standard error, with a cause or a reason if that is asked for.
  pub record Performs (job : Job) (is_why_asked : Bool) (errors errors' : Option (List ℕ))
      (status : ℕ) : Type 0 where
    pub ending : Result (Unit {0}) Failure
    pub ends : Ends job ending
    pub exits : status ≡ exit_status ending
    pub explains : Explains is_why_asked ending errors errors'
