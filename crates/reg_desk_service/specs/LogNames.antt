-- How the log names the request that a line enters or decides.
use Rattle.std.specs.Prelude.{◌≡◌, ◌⊎◌, ℕ, List, Option, Some, None, Ok, IsSomeAnd}
use Rattle.reg_core.specs.Records.{Records, request_in}
use Rattle.reg_core.specs.declared.command.Command.{Command}
use Rattle.reg_core.specs.declared.command.Command.TheVariants.{Decline, Request, Revoke}
use Rattle.reg_core.specs.declared.command.Reply.{Reply}
use Rattle.reg_core.specs.declared.command.Reply.TheVariants as replied
use Rattle.reg_http.specs.declared.answered.LoggedRevocationRequest.{LoggedRevocationRequest}
use Rattle.reg_lines.specs.Fields.{fields_of}
use Rattle.reg_lines.specs.Meaning.{LineMeans, means_command}
use Rattle.reg_lines.specs.Script.{line_of}
use Rattle.reg_lines.specs.declared.answered.LineKind.TheVariants as asked
use Rattle.reg_desk_service.specs.ControlWords.{serial_decision_in}
use Rattle.reg_desk_service.specs.declared.control_reply.LineOutcome.{LineOutcome}
use Rattle.reg_desk_service.specs.declared.control_reply.LineOutcome.TheVariants.{Completed}

-- a line decides the request with a number: by number and serial number, or by number alone
abbrev pub Decides : List ℕ → ℕ → Type 0
Decides line id =
    IsSomeAnd (serial_decision_in (fields_of (line_of line))) (λ serial_decision.
    serial_decision.request ≡ id)
    ⊎ (LineMeans (line_of line) (means_command (Revoke id))
    ⊎ LineMeans (line_of line) (means_command (Decline id)))

-- a line decides the named request; the records have it, with the named serial number; no ground is named
abbrev pub NamesDecided : Records → List ℕ → LoggedRevocationRequest → Type 0
NamesDecided records line named =
    Decides line named.id
    × IsSomeAnd (request_in records.requests named.id) (λ request. request.serial ≡ named.serial)
    × (named.ground ≡ None)

-- the request that is named for an accepted command: one that was entered, by the reply's number and the command's serial number and ground; one
-- that was decided, as it was looked up, or none; for another command none
abbrev pub NamesAccepted : Command → Reply → Option LoggedRevocationRequest → Option LoggedRevocationRequest → Type 0
NamesAccepted (Request serial word) (replied.Request id due) before named =
    IsSomeAnd named (λ it. (it.id ≡ id) × (it.serial ≡ serial) × (it.ground ≡ Some word))
NamesAccepted (Revoke request) reply before named = named ≡ before
NamesAccepted (Decline request) reply before named = named ≡ before
NamesAccepted other reply before named = named ≡ None

-- the request that is named for the result of a line: that of an accepted command; for another result none
abbrev pub NamesRequest : LineOutcome → Option LoggedRevocationRequest → Option LoggedRevocationRequest → Type 0
NamesRequest (Completed (asked.Command command) (Ok reply)) before named =
    NamesAccepted command reply before named
NamesRequest other before named = named ≡ None
