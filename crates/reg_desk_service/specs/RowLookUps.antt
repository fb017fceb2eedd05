-- The replies to `show` and `help` at the control socket: a row of the register, and the lines that the socket takes.
use Rattle.std.specs.Prelude.{◌≡◌, ℕ, Bool, false, ◌==◌, List, [], ◌∷◌, ◌++◌, bytes_eq, codes, option_and_then, option_map, Option, Some, None, Result, Ok, Err, IfOk}
use Rattle.reg_core.specs.Checks.{clock_checks, first_refusal}
use Rattle.reg_core.specs.Lines.{fault_line}
use Rattle.reg_core.specs.Records.{Records, certificate_in, request_in, subscriber_named}
use Rattle.reg_core.specs.Sound.{SoundRows}
use Rattle.reg_core.specs.declared.refusal.Fault.{Fault}
use Rattle.reg_core.specs.declared.refusal.Fault.TheVariants.{Refused, Memory, Store, Signer, Read, Write}
use Rattle.reg_core.specs.declared.refusal.Refusal.{Refusal}
use Rattle.reg_core.specs.declared.refusal.Refusal.TheVariants.{NoRequest, NoSubscriber, UnknownSerial}
use Rattle.reg_core_lists.specs.Lists.{certificate_row, history_row}
use Rattle.reg_core_lists.specs.Texts.{row_text}
use Rattle.reg_core_lists.specs.declared.rows.Row.{Row}
use Rattle.reg_core_lists.specs.declared.rows.Row.TheVariants as kind
use Rattle.reg_core_lists.specs.declared.texts.Format.TheVariants.{Json}
use Rattle.reg_desk_service.specs.ControlReplies.{IsReplyText}
use Rattle.reg_desk_service.specs.declared.words.RowKey.{RowKey}
use Rattle.reg_desk_service.specs.declared.words.RowKey.TheVariants.{Request, Certificate, Subscriber}

-- whether a row is the one to be shown
abbrev pub has_key : RowKey → Row → Bool
has_key (Request id) (kind.AnyRequest with_state) = with_state.request.request.id == id
has_key (Certificate serial) (kind.Certificate line) = line.certificate.serial == serial
has_key (Subscriber name) (kind.Subscriber row) = bytes_eq row.name name
has_key shown other = false

-- the row to be shown, as its list has it at a moment
abbrev pub row_with_key : Records → ℕ → RowKey → Option Row
row_with_key records now (Request id) =
    option_and_then (history_row records now) (request_in records.requests id)
row_with_key records now (Certificate serial) =
    option_and_then (certificate_row records now) (certificate_in records.certificates serial)
row_with_key records now (Subscriber name) =
    option_map (λ row. kind.Subscriber row) (subscriber_named records.subscribers name)

-- the refusal if there is no such row
abbrev pub refusal_of : RowKey → Refusal
refusal_of (Request id) = NoRequest
refusal_of (Certificate serial) = UnknownSerial
refusal_of (Subscriber name) = NoSubscriber

-- why a look-up fails: the moment is before that of the last command, or at or past `clock_end`; or out of memory, or a failure of the store
abbrev pub FailsAt : Records → ℕ → Fault → Type 0
FailsAt records now (Refused refusal) = first_refusal (clock_checks now records.last) ≡ Some refusal
FailsAt records now Memory = Unit {0}
FailsAt records now Store = Unit {0}
FailsAt records now Signer = ⊥
FailsAt records now Read = ⊥
FailsAt records now Write = ⊥

-- a look-up gives the known value, and its moment passes the checks of the clock; or it fails
abbrev pub IsLookedUp : {A : Type 0} → Records → ℕ → A → Result A Fault → Type 0
IsLookedUp records now known (Ok found) =
    (first_refusal (clock_checks now records.last) ≡ None) × (found ≡ known)
IsLookedUp records now known (Err why) = FailsAt records now why

-- the same, and if the look-up gives a value, the records are sound
abbrev pub IsSoundLookUp : {A : Type 0} → Records → ℕ → A → Result A Fault → Type 0
IsSoundLookUp records now known result =
    IfOk result (λ found. SoundRows records) × IsLookedUp records now known result

-- the reply to a look-up: the row in the form of `list --json`, the refusal if there is none, or the fault
abbrev pub found_text : RowKey → Result (Option Row) Fault → List ℕ
found_text shown (Ok (Some row)) = row_text Json row
found_text shown (Ok None) = fault_line (Refused (refusal_of shown)) ++ 10 ∷ []
found_text shown (Err why) = fault_line why ++ 10 ∷ []

-- the reply to `show`, or an empty one
abbrev pub AnswersShow : Records → ℕ → RowKey → List ℕ → Type 0
AnswersShow records now shown text =
    (found : Result (Option Row) Fault) × IsLookedUp records now (row_with_key records now shown) found
    × IsReplyText (found_text shown found) text

-- the lines that the control socket takes, in one line without its LF
unfoldable pub help_text : List ℕ
help_text =
    codes "help: subscriber NAME | order SUBSCRIBER DAYS | register ORDER SERIAL NOTBEFORE NOTAFTER | request SERIAL GROUND | decline REQUEST [SERIAL] | revoke REQUEST [SERIAL] | crl | status SERIAL | counts | listing SERIAL | overdue | next-crl | ocsp HEX | show request REQUEST | show SERIAL | show subscriber NAME | why | accept-clock MOMENT | schedule MOMENT=DAYS .. | copy PATH | help"
