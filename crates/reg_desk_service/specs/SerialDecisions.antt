-- A request that is revoked or declined by its number and its serial number.
use Rattle.std.specs.Prelude.{◌≡◌, ◌≢◌, ◌⊎◌, ℕ, List, Option, Some, None, IsSomeAnd}
use Rattle.reg_core.specs.Records.{Records, request_in}
use Rattle.reg_core.specs.declared.command.Command.{Command}
use Rattle.reg_core.specs.declared.refusal.Fault.{Fault}
use Rattle.reg_core.specs.declared.refusal.Fault.TheVariants.{Refused, Memory}
use Rattle.reg_core.specs.declared.refusal.Refusal.TheVariants.{NoRequest}
use Rattle.reg_core.specs.declared.rows.RequestRow.{RequestRow}
use Rattle.reg_core_lists.specs.declared.rows.Row.{Row}
use Rattle.reg_core_lists.specs.declared.rows.Row.TheVariants as kind
use Rattle.reg_office_api.specs.CallSteps.{Signs}
use Rattle.reg_office_api.specs.Signers.{OfficeSigners}
use Rattle.reg_lines.specs.Answer.{OfficeAnswers, reply_of}
use Rattle.reg_lines.specs.ByCalls.{Lines}
use Rattle.reg_lines.specs.Meaning.{means_command}
use Rattle.reg_lines.specs.declared.answered.Answered.{Answered}
use Rattle.reg_desk_service.specs.ControlReplies.{ReportsFault}
use Rattle.reg_desk_service.specs.RowLookUps.{FailsAt}
use Rattle.reg_desk_service.specs.declared.words.SerialDecision.{SerialDecision}

-- the request of a row, if it has one
abbrev pub request_of_row : Option Row → Option RequestRow
request_of_row (Some (kind.AnyRequest with_state)) = Some with_state.request.request
request_of_row other = None

-- the request with the number is for another serial number
abbrev pub IsForOther : Records → SerialDecision → Type 0
IsForOther records serial_decision =
    IsSomeAnd (request_in records.requests serial_decision.request) (λ request.
    request.serial ≢ serial_decision.serial)

-- a command ran, and this is its reply; or the reply is out of memory, or empty, and no record changes
abbrev pub RunsAt : Signs → ℕ → OfficeSigners → Records → Command → List ℕ → Records → Type 0
RunsAt signs now identity before command text after =
    ((answered : Answered)
    × OfficeAnswers (Lines signs identity) now before (means_command command) answered after
    × (text ≡ reply_of answered))
    ⊎ (ReportsFault Memory text × (after ≡ before))

-- a decision and its reply: the refusal `NoRequest` if the request is for another serial number, else that of the command; or why the look-up failed
abbrev pub DecidesAt : Signs → ℕ → OfficeSigners → Records → SerialDecision → List ℕ → Records → Type 0
DecidesAt signs now identity before serial_decision text after =
    (IsForOther before serial_decision × ReportsFault (Refused NoRequest) text × (after ≡ before))
    ⊎ (((¬ IsForOther before serial_decision)
    × RunsAt signs now identity before serial_decision.command text after)
    ⊎ ((why : Fault) × FailsAt before now why × ReportsFault why text × (after ≡ before)))
