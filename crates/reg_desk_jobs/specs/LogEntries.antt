-- The meaning of a line of the log: an exchange, and the command to send again.
use Rattle.std.specs.Prelude.{◌≡◌, ◌⊎◌, ℕ, ◌+◌, ◌==◌, Bool, false, ◌&&◌, ◌||◌, not, nat_lt, List, [], ◌∷◌, length, take, drop, get_or, codes, bytes_eq, if◌then◌else◌, IsFalse, IsTrue, Option, Some, None, option_map, unwrap_or}
use Rattle.std.specs.List.{list_any, position}
use Rattle.std.specs.Option.{option_map_or}
use Rattle.reg_core.specs.Number.{number_of}
use Rattle.reg_core.specs.Sequence.{◌>>=◌}
use Rattle.reg_core.specs.Serial.{serial_of}
use Rattle.reg_core.specs.Label.{label_of}
use Rattle.reg_lines.specs.Fields.{fields_of}
use Rattle.reg_lines.specs.Script.{line_of}
use Rattle.reg_desk_jobs.specs.declared.log_entries.LoggedCommand.{LoggedCommand}
use Rattle.reg_desk_jobs.specs.declared.log_entries.LoggedCommand.TheVariants.{Line, Request, Decision}
use Rattle.reg_desk_jobs.specs.declared.log_entries.LogMeaning.{LogMeaning}
use Rattle.reg_desk_jobs.specs.declared.log_entries.LogMeaning.TheVariants.{Nothing, Unknown, Command}
use Rattle.reg_desk_jobs.specs.declared.log_entries.ExchangeText.{ExchangeText}

-- whether a byte is a quotation mark; the log escapes those in a text
abbrev pub is_quote : ℕ → Bool
is_quote byte = byte == 34

abbrev pub has_quote : List ℕ → Bool
has_quote text = list_any is_quote text

-- the text before the first quotation mark, and the text after it
unfoldable pub split_at_quote : List ℕ → Option (List ℕ × List ℕ)
split_at_quote text = option_map (λ mark. (take mark text, drop (mark + 1) text)) (position is_quote text)

-- an exchange, as the log has it: the moment and the client, the request, the answer, and the fields after them
pub record LoggedExchange : Type 0 where
  pub moment_and_client : List ℕ
  pub asked : List ℕ
  pub answered : List ℕ
  pub after_answer : List ℕ

abbrev pub exchange_of : ExchangeText → LoggedExchange
exchange_of logged_exchange = record {
  moment_and_client = logged_exchange.moment_and_client.now;
  asked = logged_exchange.asked.now;
  answered = logged_exchange.answered.now;
  after_answer = logged_exchange.after_answer.now;
}

-- the exchange of a line of the log: four of its parts, which its first four quotation marks separate; none if there are fewer
unfoldable pub exchange_in : List ℕ → Option LoggedExchange
exchange_in line = do
  moment_and_client ← split_at_quote line
  asked ← split_at_quote moment_and_client.1
  between ← split_at_quote asked.1
  answered ← split_at_quote between.1
  Some (record { moment_and_client = moment_and_client.0; asked = asked.0; answered = answered.0; after_answer = answered.1 })

-- the first word of a text, of those that spaces separate; empty if there is none
abbrev pub first_word : List ℕ → List ℕ
first_word text = get_or (fields_of text) 0 []

-- the second one
abbrev pub second_word : List ℕ → List ℕ
second_word text = get_or (fields_of text) 1 []

-- the decision of a request with this number and serial number
unfoldable pub decision_by : List ℕ → List ℕ → Option LoggedCommand
decision_by number digits = do
  id ← number_of number
  serial ← serial_of digits
  Some (Decision id serial)

-- the entered request with this number, serial number and ground
unfoldable pub request_by : List ℕ → List ℕ → List ℕ → Option LoggedCommand
request_by number digits word = do
  id ← number_of number
  serial ← serial_of digits
  name ← label_of word
  Some (Request id serial name)

-- the entry in the fields after `request`: two fields name a decided request, three an entered one
unfoldable pub request_named : List (List ℕ) → Option LoggedCommand
request_named [] = None
request_named (number ∷ []) = None
request_named (number ∷ digits ∷ []) = decision_by number digits
request_named (number ∷ digits ∷ word ∷ []) = request_by number digits word
request_named (number ∷ digits ∷ word ∷ more ∷ rest) = None

-- the meaning of the fields after the answer, of which the first is empty: length, microseconds, `request` and the request; `None` if they name none
unfoldable pub named_in : List (List ℕ) → Option LogMeaning
named_in [] = None
named_in (empty ∷ []) = None
named_in (empty ∷ bytes ∷ []) = None
named_in (empty ∷ bytes ∷ micros ∷ []) = None
named_in (empty ∷ bytes ∷ micros ∷ word ∷ rest) =
    if bytes_eq word (codes "request") then Some (option_map_or Command (request_named rest) Unknown)
    else None

-- whether a word is that of a line that enters or decides a request; the log names that request
abbrev pub is_of_request : List ℕ → Bool
is_of_request word =
    bytes_eq word (codes "request") || bytes_eq word (codes "revoke") || bytes_eq word (codes "decline")

-- whether a word is that of another line that changes the register
abbrev pub enters : List ℕ → Bool
enters word =
    bytes_eq word (codes "subscriber") || bytes_eq word (codes "order") || bytes_eq word (codes "register")
    || bytes_eq word (codes "crl")
    || bytes_eq word (codes "schedule")

-- a logged text has fewer than 256 bytes, so it was not cut off, and no backslash, so no byte was escaped
abbrev pub is_whole : List ℕ → Bool
is_whole text = nat_lt (length text) 256 && not (list_any (λ byte. byte == 92) text)

-- a reply shows acceptance: it is not empty, and begins neither with E or F, like a refusal or a fault, nor with b, like `bad-policy` and `bad-clock`
abbrev pub accepted : List ℕ → Bool
accepted [] = false
accepted (first ∷ rest) = not (first == 69) && (not (first == 70) && not (first == 98))

-- whether a client is the control socket: `control`, or `counter`, which older desks wrote
abbrev pub is_control : List ℕ → Bool
is_control client = bytes_eq client (codes "control") || bytes_eq client (codes "counter")

-- the client is the control socket, and the reply shows acceptance
abbrev pub was_accepted : LoggedExchange → Bool
was_accepted logged_exchange =
    is_control (second_word logged_exchange.moment_and_client) && accepted logged_exchange.answered

-- the meaning of an exchange that names no request: a command only if the control socket accepted it, it changes the register, and it is whole
unfoldable pub unnamed : LoggedExchange → LogMeaning
unnamed logged_exchange =
    if not (was_accepted logged_exchange) then Nothing
    else if is_of_request (first_word logged_exchange.asked) then Unknown
    else if not (enters (first_word logged_exchange.asked)) then Nothing
    else if is_whole logged_exchange.asked then Command Line
    else Unknown

-- the meaning of a logged exchange: `Unknown` if a quotation mark follows the answer (two lines ran together); else by `named_in` or `unnamed`
unfoldable pub log_meaning_of : LoggedExchange → LogMeaning
log_meaning_of logged_exchange =
    if has_quote logged_exchange.after_answer then Unknown
    else unwrap_or (named_in (fields_of logged_exchange.after_answer)) (unnamed logged_exchange)

-- a line of the log has no quotation mark, or it has an exchange that means `Nothing`
abbrev pub LogsNothing : List ℕ → Type 0
LogsNothing line = ((exchange_in (line_of line) ≡ None) × IsFalse (has_quote (line_of line)))
    ⊎ ((logged_exchange : LoggedExchange) × (exchange_in (line_of line) ≡ Some logged_exchange)
    × (log_meaning_of logged_exchange ≡ Nothing))

-- a line of the log has a quotation mark but no exchange, or an exchange that means `Unknown`
abbrev pub LogsPart : List ℕ → Type 0
LogsPart line = ((exchange_in (line_of line) ≡ None) × IsTrue (has_quote (line_of line)))
    ⊎ ((logged_exchange : LoggedExchange) × (exchange_in (line_of line) ≡ Some logged_exchange)
    × (log_meaning_of logged_exchange ≡ Unknown))

-- a line of the log has this exchange, which means this command
abbrev pub LogsEntry : List ℕ → LoggedExchange → LoggedCommand → Type 0
LogsEntry line logged_exchange logged_command =
    (exchange_in (line_of line) ≡ Some logged_exchange) × (log_meaning_of logged_exchange ≡ Command logged_command)
