-- The meaning of a line at the control socket: one of its own words, or a command line, which scripts also have.
use Rattle.std.specs.Prelude.{◌≡◌, ◌⊎◌, ℕ, List, [], ◌∷◌, ◌++◌, codes, bytes_eq, if◌then◌else◌, IsFalse, IsTrue, MatchOption, Option, Some, None, option_map}
use Rattle.std.specs.Option.{option_map_or}
use Rattle.reg_core.specs.Calendar.{moment_of}
use Rattle.reg_core.specs.Number.{number_of}
use Rattle.reg_core.specs.Sequence.{◌>>=◌}
use Rattle.reg_core.specs.Serial.{serial_of}
use Rattle.reg_core.specs.declared.command.Command.{Command}
use Rattle.reg_core.specs.declared.command.Command.TheVariants.{Decline, Revoke}
use Rattle.reg_core.specs.Label.{label_of}
use Rattle.reg_core.specs.Records.{Records}
use Rattle.reg_core.specs.declared.refusal.Fault.{Fault}
use Rattle.reg_core.specs.declared.refusal.Fault.TheVariants as fault
use Rattle.reg_office_api.specs.LookUps.{IsOfStore}
use Rattle.reg_office_api.specs.Signers.{OfficeSigners}
use Rattle.reg_office_api.specs.CallSteps.{Signs}
use Rattle.reg_lines.specs.Answer.{ComesTo, Replied}
use Rattle.reg_lines.specs.ByCalls.{Lines}
use Rattle.reg_lines.specs.Fields.{fields_of}
use Rattle.reg_lines.specs.Meaning.{LineMeans, means_command}
use Rattle.reg_lines.specs.Script.{IsShortUntimedLine, line_of, pieces}
use Rattle.reg_desk_cli.specs.WordValues.{steps_of}
use Rattle.reg_desk_metrics.specs.Ahead.{is_ahead}
use Rattle.reg_desk_service.specs.ControlReplies.{IsReplyText, ReportsFault}
use Rattle.reg_desk_service.specs.Copies.{AnswersCopy, is_copy_line}
use Rattle.reg_desk_service.specs.Schedules.{SetAt}
use Rattle.reg_desk_service.specs.SerialDecisions.{DecidesAt}
use Rattle.reg_desk_service.specs.RowLookUps.{AnswersShow, help_text}
use Rattle.reg_desk_service.specs.declared.admission.Admission.{Admission}
use Rattle.reg_desk_service.specs.declared.control_reply.ControlReply.{ControlReply}
use Rattle.reg_desk_service.specs.declared.words.ControlWord.{ControlWord}
use Rattle.reg_desk_service.specs.declared.words.ControlWord.TheVariants.{Help, Why, Copy, Show, Decide, AcceptClock, Schedule, Line}
use Rattle.reg_desk_service.specs.declared.words.SerialDecision.{SerialDecision}
use Rattle.reg_desk_service.specs.declared.words.RowKey.{RowKey}
use Rattle.reg_desk_service.specs.declared.words.RowKey.TheVariants.{Request, Certificate, Subscriber}

-- the meanings of a line: `help`; `why`; copy the register; show a row; decide a request, given by number and serial number; accept the clock, with a
-- moment; set a schedule, with steps; a command line
pub data WordMeaning : Type 0 where
  helps : WordMeaning
  why : WordMeaning
  copies : WordMeaning
  shows : RowKey → WordMeaning
  decides : SerialDecision → WordMeaning
  accepts : ℕ → WordMeaning
  schedules : List (ℕ × ℕ) → WordMeaning
  commands : WordMeaning

-- the row that fields ask for: `SERIAL`, `request N` or `subscriber NAME`
abbrev pub row_key_by : List (List ℕ) → Option RowKey
row_key_by [] = None
row_key_by (serial ∷ []) = option_map Certificate (serial_of serial)
row_key_by (kind ∷ named ∷ []) =
    if bytes_eq kind (codes "request") then option_map Request (number_of named)
    else if bytes_eq kind (codes "subscriber") then option_map Subscriber (label_of named)
    else None
row_key_by (kind ∷ named ∷ more ∷ rest) = None

-- the same for the fields after the word `show`
abbrev pub row_key_in : List (List ℕ) → Option RowKey
row_key_in [] = None
row_key_in (word ∷ rest) = if bytes_eq word (codes "show") then row_key_by rest else None

-- the decision of a request, by the word `revoke` or `decline`
abbrev pub serial_decision_by : List ℕ → ℕ → ℕ → Option SerialDecision
serial_decision_by word request serial =
    if bytes_eq word (codes "revoke")
    then Some (record { command = Revoke request; request = request; serial = serial })
    else if bytes_eq word (codes "decline")
    then Some (record { command = Decline request; request = request; serial = serial })
    else None

-- the decision in the fields `revoke N SERIAL` or `decline N SERIAL`
abbrev pub serial_decision_in : List (List ℕ) → Option SerialDecision
serial_decision_in (word ∷ request ∷ serial ∷ []) = do
  request ← number_of request
  serial ← serial_of serial
  serial_decision_by word request serial
serial_decision_in other = None

-- the moment, if the word is `accept-clock`
abbrev pub accepted_by_word : List ℕ → List ℕ → Option ℕ
accepted_by_word word moment = if bytes_eq word (codes "accept-clock") then moment_of moment else None

-- the moment in the fields `accept-clock MOMENT`
abbrev pub accepted_in : List (List ℕ) → Option ℕ
accepted_in (word ∷ moment ∷ []) = accepted_by_word word moment
accepted_in other = None

-- the steps after the word `schedule`: at least one, each `MOMENT=DAYS`
abbrev pub steps_set : List (List ℕ) → Option (List (ℕ × ℕ))
steps_set [] = None
steps_set (word ∷ []) = None
steps_set (word ∷ step ∷ rest) = if bytes_eq word (codes "schedule") then steps_of (step ∷ rest) else None

-- the meaning of the fields of a line: the first of `show`, a decision, `accept-clock` and `schedule` that they are, else a command line
abbrev pub meaning_by_fields : List (List ℕ) → WordMeaning
meaning_by_fields fields =
    option_map_or shows (row_key_in fields) (option_map_or decides (serial_decision_in fields)
    (option_map_or accepts (accepted_in fields) (option_map_or schedules (steps_set fields) commands)))

-- the meaning of a line: by its text without the line end, `help` or `why`; by its first bytes, `copy` and a space; else by its fields
abbrev pub meaning_in : List ℕ → WordMeaning
meaning_in line =
    if bytes_eq (line_of line) (codes "help") then helps
    else if bytes_eq (line_of line) (codes "why") then why
    else if is_copy_line line then copies
    else meaning_by_fields (fields_of (line_of line))

-- a line has this meaning; a command line is given without its line end, and is `None` if it has too many bytes
abbrev pub IsWord : List ℕ → ControlWord → Type 0
IsWord line Help = meaning_in line ≡ helps
IsWord line Why = meaning_in line ≡ why
IsWord line (Copy path) = meaning_in line ≡ copies
IsWord line (Show shown) = meaning_in line ≡ shows shown
IsWord line (Decide serial_decision) = meaning_in line ≡ decides serial_decision
IsWord line (AcceptClock clock) = meaning_in line ≡ accepts clock.moment
IsWord line (Schedule steps) = meaning_in line ≡ schedules steps
IsWord line (Line command) = (meaning_in line ≡ commands)
    × MatchOption command (¬ IsShortUntimedLine line) (λ text. (text.now ≡ line_of line) × IsShortUntimedLine line)

-- a command line at a moment, without its line end, and its reply; or the reply is out of memory, or empty, and no record changes
abbrev pub CommandAt : Signs → ℕ → OfficeSigners → Records → List ℕ → List ℕ → Records → Type 0
CommandAt signs now identity before line text after =
    Replied (ComesTo (Lines signs identity) now) before line text after
    ⊎ (ReportsFault fault.Memory text × (after ≡ before))

-- the clock is too far ahead (`is_ahead`), and the reply is `bad-clock`, or empty
abbrev pub RefusesClock : Option ℕ → ℕ → Records → List ℕ → Type 0
RefusesClock accepted now before text =
    IsTrue (is_ahead now before.last accepted) × IsReplyText (codes "bad-clock\n") text

-- the reply is out of memory or a failure of the store, or empty
abbrev pub RepliesStoreFault : List ℕ → Type 0
RepliesStoreFault text = (why : Fault) × IsOfStore why × ReportsFault why text

-- a command at a moment: it is refused if the clock is too far ahead, else it runs; or the reply is a fault of the store, and no record changes
abbrev pub AtClock : Option ℕ → ℕ → Records → Type 0 → List ℕ → Records → Type 0
AtClock accepted now before Runs text after =
    (RefusesClock accepted now before text × (after ≡ before))
    ⊎ (IsFalse (is_ahead now before.last accepted) × Runs)
    ⊎ (RepliesStoreFault text × (after ≡ before))

-- no reply, if the clock is not too far ahead; or the reply that refuses a command before it runs, or is a fault of the store
abbrev pub ChecksClock : Option ℕ → ℕ → Records → Option ControlReply → Type 0
ChecksClock accepted now before None = IsFalse (is_ahead now before.last accepted)
ChecksClock accepted now before (Some reply) =
    RefusesClock accepted now before reply.text.items ⊎ RepliesStoreFault reply.text.items

-- a line means a command
abbrev pub HasCommand : List ℕ → Type 0
HasCommand line = (command : Command) × LineMeans line (means_command command)

-- a command line without its line end: a command is checked against the clock; a line of another meaning is not
abbrev pub LineAt : Option ℕ → Signs → ℕ → OfficeSigners → Records → List ℕ → List ℕ → Records → Type 0
LineAt accepted signs now identity before line text after =
    (HasCommand line
    × AtClock accepted now before (CommandAt signs now identity before line text after) text after)
    ⊎ ((¬ HasCommand line) × CommandAt signs now identity before line text after)

-- a command line with its line end; or it has too many bytes, the reply is the fault `Read`, or empty, and no record changes
abbrev pub CommandLineAt : Option ℕ → Signs → ℕ → OfficeSigners → Records → List ℕ → List ℕ → Records → Type 0
CommandLineAt accepted signs now identity before line text after =
    (IsShortUntimedLine line × LineAt accepted signs now identity before (line_of line) text after)
    ⊎ ((¬ IsShortUntimedLine line) × ReportsFault fault.Read text × (after ≡ before))

-- the reply to a line with this meaning (any reply to `why`), and the records after it: `help`, `why`, `copy`, `show` and `accept-clock` change no
-- record; a decision, a schedule and a command line may
abbrev pub AnswersWord
    : Option ℕ → Signs → ℕ → OfficeSigners → Records → List ℕ → WordMeaning → List ℕ → Records → Type 0
AnswersWord accepted signs now identity before line helps text after =
    IsReplyText (help_text ++ 10 ∷ []) text × (after ≡ before)
AnswersWord accepted signs now identity before line why text after = after ≡ before
AnswersWord accepted signs now identity before line copies text after =
    AnswersCopy (λ bytes. Unit {0}) text × (after ≡ before)
AnswersWord accepted signs now identity before line (shows shown) text after =
    AnswersShow before now shown text × (after ≡ before)
AnswersWord accepted signs now identity before line (decides serial_decision) text after =
    AtClock accepted now before (DecidesAt signs now identity before serial_decision text after) text after
AnswersWord accepted signs now identity before line (accepts moment) text after =
    IsReplyText (codes "clock accepted\n") text × (after ≡ before)
AnswersWord accepted signs now identity before line (schedules steps) text after =
    SetAt steps before text after
AnswersWord accepted signs now identity before line commands text after =
    CommandLineAt accepted signs now identity before line text after

-- the moment that the operator has accepted after a line of this meaning
abbrev pub accepted_by : WordMeaning → Option ℕ → Option ℕ
accepted_by (accepts moment) accepted = Some moment
accepted_by other accepted = accepted

-- the same after a line; or the accepted moment stays, for example because there was no memory to read the line
abbrev pub IsAcceptedAfter : List ℕ → Option ℕ → Option ℕ → Type 0
IsAcceptedAfter line accepted accepted' =
    (accepted' ≡ accepted_by (meaning_in line) accepted) ⊎ (accepted' ≡ accepted)

-- the moment that the operator has accepted after these lines, one after the other
abbrev pub accepted_after : List (List ℕ) → Option ℕ → Option ℕ
accepted_after [] accepted = accepted
accepted_after (line ∷ lines) accepted = accepted_after lines (accepted_by (meaning_in line) accepted)

-- the admission after whole lines (their bytes): the counted requests stay, and the accepted moment is the one after the lines, or stays
abbrev pub IsAdmissionAfter : List ℕ → Admission → Admission → Type 0
IsAdmissionAfter bytes admission admission' =
    (admission'.recent ≡ admission.recent)
    × ((admission'.accepted ≡ accepted_after (pieces bytes) admission.accepted)
    ⊎ (admission'.accepted ≡ admission.accepted))

-- a line at a moment, its reply and the records after it; or the reply is out of memory, or empty, and no record changes
abbrev pub AnswersLineAt : Option ℕ → Signs → ℕ → OfficeSigners → Records → List ℕ → List ℕ → Records → Type 0
AnswersLineAt accepted signs now identity before line text after =
    AnswersWord accepted signs now identity before line (meaning_in line) text after
    ⊎ (ReportsFault fault.Memory text × (after ≡ before))

-- lines at one moment, each answered as it is alone, one after the other: their replies, joined, and the records after the last
abbrev pub AnswersLinesAt : Option ℕ → Signs → ℕ → OfficeSigners → Records → List (List ℕ) → List ℕ → Records → Type 0
AnswersLinesAt accepted signs now identity before [] text after = (text ≡ []) × (after ≡ before)
AnswersLinesAt accepted signs now identity before (line ∷ lines) text after =
    (reply : List ℕ) × (rest : List ℕ) × (middle : Records) × (text ≡ reply ++ rest)
    × AnswersLineAt accepted signs now identity before line reply middle
    × AnswersLinesAt (accepted_by (meaning_in line) accepted) signs now identity middle lines rest after

-- whole lines (their bytes) at some moment that the clock has reached
abbrev pub AnswersLinesByClock : Option ℕ → Signs → (ℕ → Type 0) → OfficeSigners → Records → List ℕ → List ℕ → Records → Type 0
AnswersLinesByClock accepted signs clock_reached identity before bytes text after =
    (now : ℕ) × clock_reached now × AnswersLinesAt accepted signs now identity before (pieces bytes) text after
