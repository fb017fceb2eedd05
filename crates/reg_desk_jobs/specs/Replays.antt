-- A log whose commands are sent to a control socket again.
use Rattle.std.specs.Prelude.{◌≡◌, ◌⊎◌, ℕ, ◌==◌, Bool, ◌&&◌, List, [], ◌∷◌, ◌++◌, codes, decimal, bytes_eq, if◌then◌else◌, IsFalse, IsTrue, Option, Result, Ok, Err}
use Rattle.std.specs.Io.KnownBytes.{Appends}
use Rattle.std.specs.List.{concat, fold}
use Rattle.std.specs.Option.{option_map_or}
use Rattle.reg_core.specs.Number.{number_of}
use Rattle.reg_core.specs.Serial.{serial_text}
use Rattle.reg_core.specs.declared.refusal.Fault.TheVariants as fault
use Rattle.reg_desk_cli.specs.declared.failure.Failure.{Failure}
use Rattle.reg_desk_cli.specs.declared.failure.Failure.TheVariants as failure
use Rattle.reg_lines.specs.Script.{IsWholeLine, line_of}
use Rattle.reg_desk_jobs.specs.Conversations.{AreMostLines, AreWhole, IsCutOff, IsInput, IsConversationFault, ExchangesLine}
use Rattle.reg_desk_jobs.specs.LogEntries.{LoggedExchange, LogsEntry, LogsNothing, LogsPart, first_word, second_word}
use Rattle.reg_desk_jobs.specs.declared.log_entries.LoggedCommand.{LoggedCommand}
use Rattle.reg_desk_jobs.specs.declared.log_entries.LoggedCommand.TheVariants.{Line, Request, Decision}
use Rattle.reg_desk_jobs.specs.declared.replay_job.Renumbered.{Renumbered}

-- ---- the line that is sent for an entry, and whether its reply agrees

-- the number that a request has now: the last one that a reply gave it, or that of the log
abbrev pub number_now : List Renumbered → ℕ → ℕ
number_now numbers logged =
    fold (λ number one. if one.logged == logged then one.given else number) logged numbers

-- the text that is sent: the logged line; a request with its serial number and ground; a decision with its word, the number that the request has
-- now, and its serial number
abbrev pub text_to_send : List Renumbered → LoggedExchange → LoggedCommand → List ℕ
text_to_send numbers logged_exchange Line = logged_exchange.asked
text_to_send numbers logged_exchange (Request id serial name) =
    codes "request" ++ (32 ∷ serial_text serial) ++ (32 ∷ name)
text_to_send numbers logged_exchange (Decision id serial) =
    first_word logged_exchange.asked ++ (32 ∷ decimal (number_now numbers id)) ++ (32 ∷ serial_text serial)

abbrev pub line_to_send : List Renumbered → LoggedExchange → LoggedCommand → List ℕ
line_to_send numbers logged_exchange logged_command = text_to_send numbers logged_exchange logged_command ++ 10 ∷ []

-- whether a reply agrees with that of the log: in its first two words; for a decision, whose second word may be `late` now, in the first one; for a
-- request, which may have come over HTTP, if its first word is `request`
abbrev pub agrees : LoggedExchange → LoggedCommand → List ℕ → Bool
agrees logged_exchange Line reply =
    bytes_eq (first_word reply) (first_word logged_exchange.answered)
    && bytes_eq (second_word reply) (second_word logged_exchange.answered)
agrees logged_exchange (Request id serial name) reply = bytes_eq (first_word reply) (codes "request")
agrees logged_exchange (Decision id serial) reply =
    bytes_eq (first_word reply) (first_word logged_exchange.answered)

-- the number that a reply gives to an entered request, with its number in the log; none for another entry, or if the reply has no number
abbrev pub renumbered : LoggedCommand → List ℕ → List Renumbered
renumbered Line reply = []
renumbered (Request id serial name) reply =
    option_map_or (λ number. record { logged = id; given = number } ∷ []) (number_of (second_word reply)) []
renumbered (Decision id serial) reply = []

-- ---- a replay

-- a replay stops: with `Refused` after this line of the log was written, or because the write failed
abbrev pub StopsWith
    : Type 0 → Option (List ℕ) → List ℕ → Option (List ℕ) → Result (Unit {0}) Failure → Type 0
StopsWith write_failed out line out' (Ok done) = ⊥
StopsWith write_failed out line out' (Err why) =
    ((why ≡ failure.Fault fault.Write) × write_failed) ⊎ ((why ≡ failure.Refused) × Appends out out' line)

-- the state of a replay: what was sent, the replies that are left, what was written, and the numbers that requests were given
pub record ReplayState : Type 0 where
  pub sent : Option (List ℕ)
  pub incoming : Option (List ℕ)
  pub out : Option (List ℕ)
  pub numbers : List Renumbered

abbrev pub state_of : Option (List ℕ) → Option (List ℕ) → Option (List ℕ) → List Renumbered → ReplayState
state_of sent incoming out numbers = record { sent = sent; incoming = incoming; out = out; numbers = numbers }

-- the command of an entry is sent; its reply agrees, and the number that it gives is kept
abbrev pub ReplyAgrees : ReplayState → LoggedExchange → LoggedCommand → ReplayState → Type 0
ReplyAgrees s logged_exchange logged_command t = (reply : List ℕ)
    × ExchangesLine s.sent t.sent s.incoming t.incoming s.out t.out
    (line_to_send s.numbers logged_exchange logged_command)
    reply
    × IsTrue (agrees logged_exchange logged_command (line_of reply))
    × (t.numbers ≡ s.numbers ++ renumbered logged_command (line_of reply))

-- the command of an entry is sent; its reply differs, and the line of the log is written after it
abbrev pub ReplyDiffers : ReplayState → LoggedExchange → LoggedCommand → List ℕ → ReplayState → Type 0
ReplyDiffers s logged_exchange logged_command line t = (reply : List ℕ) × (out : Option (List ℕ))
    × ExchangesLine s.sent t.sent s.incoming t.incoming s.out out
    (line_to_send s.numbers logged_exchange logged_command)
    reply
    × IsFalse (agrees logged_exchange logged_command (line_of reply)) × Appends out t.out line

-- how the replay of an entry of the log ends
abbrev pub EntryEnds
    : Type 0 → Type 0 → ReplayState → LoggedExchange → LoggedCommand → List ℕ → ReplayState
    → Result (Unit {0}) Failure → Type 0
EntryEnds read_failed write_failed s logged_exchange logged_command line t (Ok done) =
    ReplyAgrees s logged_exchange logged_command t
EntryEnds read_failed write_failed s logged_exchange logged_command line t (Err why) =
    IsConversationFault read_failed write_failed why
    ⊎ ((why ≡ failure.Refused) × ReplyDiffers s logged_exchange logged_command line t)

-- a line of the log is replayed: it has no accepted command, or one whose reply agrees
abbrev pub LineReplayed : ReplayState → List ℕ → ReplayState → Type 0
LineReplayed s line t =
    (LogsNothing line × (t ≡ s))
    ⊎ ((logged_exchange : LoggedExchange) × (logged_command : LoggedCommand) × LogsEntry line logged_exchange logged_command
    × ReplyAgrees s logged_exchange logged_command t)

-- a replay stops at a line of the log, which is written: it names a command only in part, and nothing is sent; or the reply differs
abbrev pub LineStops : ReplayState → List ℕ → ReplayState → Type 0
LineStops s line t =
    (LogsPart line × (t.sent ≡ s.sent) × (t.incoming ≡ s.incoming) × Appends s.out t.out line)
    ⊎ ((logged_exchange : LoggedExchange) × (logged_command : LoggedCommand) × LogsEntry line logged_exchange logged_command
    × ReplyDiffers s logged_exchange logged_command line t)

-- how the replay of a line of the log ends
abbrev pub LineEnds
    : Type 0 → Type 0 → ReplayState → List ℕ → ReplayState → Result (Unit {0}) Failure → Type 0
LineEnds read_failed write_failed s line t (Ok done) = LineReplayed s line t
LineEnds read_failed write_failed s line t (Err why) =
    IsConversationFault read_failed write_failed why ⊎ ((why ≡ failure.Refused) × LineStops s line t)

-- lines of a log are replayed, one after the other
abbrev pub Replayed : ReplayState → List (List ℕ) → ReplayState → Type 0
Replayed s [] t = t ≡ s
Replayed s (line ∷ log) t = (m : ReplayState) × LineReplayed s line m × Replayed m log t

-- why a replay stops before the end of the log, with these bytes left: at the next line, or because the last one has no line end
abbrev pub Stops : ReplayState → List ℕ → ReplayState → Failure → Type 0
Stops s left t why =
    ((why ≡ failure.Refused) × (line rest : List ℕ) × (left ≡ line ++ rest) × IsWholeLine line
    × LineStops s line t)
    ⊎ ((why ≡ failure.NoLineEnd) × IsCutOff left × (t ≡ s))

-- the most lines of a conversation were taken from the log
abbrev pub ReplaysMost : ReplayState → ReplayState → Type 0
ReplaysMost s t = (log : List (List ℕ)) × Replayed s log t × AreMostLines log

-- A log is replayed: each of its lines; or those before the one at which it stops. The job ends early only if a read or a write failed, the replies
-- ended, or out of memory, or after the most lines; then nothing else is stated.
abbrev pub ReplaysLog
    : Type 0 → Type 0 → Option (List ℕ) → ReplayState → ReplayState → Result (Unit {0}) Failure → Type 0
ReplaysLog read_failed write_failed input s t (Ok done) =
    (log : List (List ℕ)) × AreWhole log × IsInput input (concat log) × Replayed s log t
ReplaysLog read_failed write_failed input s t (Err why) =
    IsConversationFault (read_failed ⊎ ReplaysMost s t) write_failed why
    ⊎ ((log : List (List ℕ)) × (m : ReplayState) × (left : List ℕ) × AreWhole log × Replayed s log m
    × IsInput input (concat log ++ left) × Stops m left t why)

-- the same over a connection of which no failure can be stated; at the start of a replay, no request has another number than in the log
abbrev pub Replays
    : Option (List ℕ) → Option (List ℕ) → Option (List ℕ) → Option (List ℕ) → Option (List ℕ)
    → Option (List ℕ) → Option (List ℕ)
    → Result (Unit {0}) Failure → Type 0
Replays input sent sent' incoming incoming' out out' result =
    (numbers : List Renumbered)
    × ReplaysLog (Unit {0}) (Unit {0}) input (state_of sent incoming out [])
    (state_of sent' incoming' out' numbers) result

-- over a connection about which nothing else is known: out of memory with nothing written, or as `Replays` states
abbrev pub ReplaysOver
    : Option (List ℕ) → Option (List ℕ) → Option (List ℕ) → Result (Unit {0}) Failure → Type 0
ReplaysOver input out out' result =
    ((result ≡ Err (failure.Fault fault.Memory)) × (out' ≡ out))
    ⊎ ((sent sent' incoming incoming' : Option (List ℕ))
    × Replays input sent sent' incoming incoming' out out' result)

-- at a control socket: the job failed with `Read` and nothing written; or the program connected (`met`), as `ReplaysOver` states
abbrev pub ReplaysAt
    : Type 0 → Option (List ℕ) → Option (List ℕ) → Option (List ℕ) → Result (Unit {0}) Failure → Type 0
ReplaysAt met input out out' result =
    ((result ≡ Err (failure.Fault fault.Read)) × (out' ≡ out)) ⊎ (met × ReplaysOver input out out' result)
