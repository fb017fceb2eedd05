-- What a job writes to standard error at its end.
use Rattle.std.specs.Prelude.{◌≡◌, ◌⊎◌, ℕ, List, [], ◌∷◌, ◌++◌, Result, Ok, Err}
use Rattle.std.specs.Prelude.{Bool, IsTrue, codes, Some, None}
use Rattle.std.specs.declared.option.Option.{Option}
use Rattle.std.specs.Io.KnownBytes.{Appends}
use Rattle.reg_core.specs.Causes.{cause_line}
use Rattle.reg_desk_cli.specs.ExitStatus.{failure_line, exit_status}
use Rattle.reg_desk_cli.specs.declared.failure.Failure.{Failure}
use Rattle.reg_desk_service.specs.Reasons.{reason_text}
use Rattle.reg_desk_service.specs.declared.failure_cause.FailureCause.{FailureCause}
use Rattle.reg_desk_service.specs.declared.failure_cause.Location.{Location}
use Rattle.reg_desk_service.specs.declared.failure_cause.Location.TheVariants as location
use Rattle.reg_desk_service.specs.declared.reasons.Reason.{Reason}
use Rattle.reg_io.specs.Put.{AppendsPrefix}

-- the text after a cause: a space and, in parentheses, the argument, option or stream that failed; nothing if that is not known
unfoldable pub location_suffix : Option Location → List ℕ
location_suffix None = []
location_suffix (Some location.File) = codes " (FILE)"
location_suffix (Some location.Socket) = codes " (SOCKET)"
location_suffix (Some location.Import) = codes " (--import)"
location_suffix (Some location.Revoke) = codes " (--revoke)"
location_suffix (Some location.Log) = codes " (LOG)"
location_suffix (Some location.Control) = codes " (--control)"
location_suffix (Some location.Port) = codes " (--port)"
location_suffix (Some location.Published) = codes " (--published)"
location_suffix (Some location.Embed) = codes " (--embed)"
location_suffix (Some location.Responder) = codes " (--responder)"
location_suffix (Some location.LogFile) = codes " (--log-file)"
location_suffix (Some location.Output) = codes " (standard output)"

-- the line of standard error for the cause of a failed call, without its LF
abbrev pub located_cause_line : FailureCause → List ℕ
located_cause_line why = cause_line why.cause ++ location_suffix why.location

-- the bytes were written, or only a prefix of them
abbrev pub IsWritten : Option (List ℕ) → Option (List ℕ) → List ℕ → Type 0
IsWritten old new bytes = Appends old new bytes ⊎ AppendsPrefix old new bytes

-- the line was written with its LF, or a prefix of that
abbrev pub IsReportedLine : Option (List ℕ) → Option (List ℕ) → List ℕ → Type 0
IsReportedLine old new line = IsWritten old new (line ++ 10 ∷ [])

-- what standard error gets: nothing if the job is done, else the failure's line or a prefix of it
abbrev pub ReportsExit : Result (Unit {0}) Failure → Option (List ℕ) → Option (List ℕ) → Type 0
ReportsExit (Ok done) old new = new ≡ old
ReportsExit (Err why) old new = IsReportedLine old new (failure_line why)

-- nothing is written, or a line of two spaces and the text of a reason, or a prefix of that line
abbrev pub ReportsReason : Option (List ℕ) → Option (List ℕ) → Type 0
ReportsReason old new =
    (new ≡ old) ⊎ ((reason : Reason) × IsReportedLine old new (codes "  " ++ reason_text reason))

-- nothing more is written; or, if more is asked for, the line of a cause for exit status 1, or of a reason for exit status 3, or a prefix of it
abbrev pub Adds : Bool → ℕ → Option (List ℕ) → Option (List ℕ) → Type 0
Adds is_asked exit_status old new =
    (new ≡ old)
    ⊎ (IsTrue is_asked
    × (((exit_status ≡ 1) × ((why : FailureCause) × IsReportedLine old new (located_cause_line why)))
    ⊎ ((exit_status ≡ 3) × ReportsReason old new)))

-- what standard error gets at the end of a job, by whether more is asked for: the failure's line, and then perhaps one more line
abbrev pub Explains : Bool → Result (Unit {0}) Failure → Option (List ℕ) → Option (List ℕ) → Type 0
Explains is_asked ending old new =
    (between : Option (List ℕ)) × ReportsExit ending old between
    × Adds is_asked (exit_status ending) between new
