-- The outcome of a line, and its reply.
use Rattle.std.specs.Prelude.{◌≡◌, ◌⊎◌, ℕ, Bool, true, false, ◌==◌, List, ◌++◌, codes, is_ok, length, Option, Some, None, Result, Ok, Err}
use Rattle.hex.specs.Hex.{encode_lower}
use Rattle.reg_office_api.specs.declared.office.Office.{Ghosts as Office}
use Rattle.reg_core.specs.declared.command.Reply.{Reply}
use Rattle.reg_core.specs.declared.memory.Memory.{Memory as NoMemory}
use Rattle.reg_core.specs.declared.refusal.Fault.{Fault}
use Rattle.reg_core.specs.declared.refusal.Fault.TheVariants.{Refused, Memory}
use Rattle.reg_core.specs.declared.refusal.Refusal.TheVariants.{Syntax}
use Rattle.reg_lines.specs.ByCalls.{Call, LineCalls, ran, asked, responded}
use Rattle.reg_lines.specs.Meaning.{Meaning, means_command, means_query, is_ocsp_line, HasMoment, HasNoMoment, IsUnreadable, LineMeans}
use Rattle.reg_lines.specs.Replies.{outcome_line, with_lf}
use Rattle.reg_lines.specs.declared.answered.Answered.{Answered}
use Rattle.reg_lines.specs.declared.answered.Answered.TheVariants.{Completed, Response}
use Rattle.reg_lines.specs.declared.answered.LineKind.TheVariants.{Nothing, Command, Query, Ocsp}
use Rattle.reg_lines.specs.declared.answered.OcspReply.{OcspReply}
use Rattle.reg_lines.specs.declared.answered.RefusedCommand.{RefusedCommand}
use Rattle.reg_lines.specs.declared.host.Host.{Ghosts as Host}

-- the reply, with its LF
abbrev pub reply_of : Answered → List ℕ
reply_of (Completed what outcome) = with_lf (outcome_line outcome)
reply_of (Response reply) = reply.line.items

-- whether the result is neither a refusal nor a fault
abbrev pub accepts : Answered → Bool
accepts (Completed what outcome) = is_ok outcome
accepts (Response reply) = true

-- the command that was refused, if one was
abbrev pub refused_of : Answered → Option RefusedCommand
refused_of (Completed (Command command) (Err (Refused why))) = Some (record { command = command; why = why })
refused_of other = None

-- the result of a line that can't be read
abbrev pub unreadable : Answered
unreadable = Completed Nothing (Err (Refused Syntax))

-- the reply to an OCSP request with this response; `has_only_status` says whether the response has five bytes, which are only a status (RFC 6960 4.2.1)
pub record IsReplyOf (response : List ℕ) (reply : OcspReply) : Type 0 where
  pub line : reply.line.items ≡ with_lf (codes "ocsp " ++ encode_lower response)
  pub refuses : reply.has_only_status ≡ (length response == 5)

-- the result of a line with an OCSP request, by the response; or there was no memory for the request, the response or its digits
abbrev pub OcspLineComesTo : Result (List ℕ) NoMemory → Answered → Type 0
OcspLineComesTo given (Completed what outcome) = (what ≡ Ocsp) × (outcome ≡ Err Memory)
OcspLineComesTo (Ok response) (Response reply) = IsReplyOf response reply
OcspLineComesTo (Err memory) (Response reply) = ⊥

-- Lines that an office runs: `s` is the office before, `t` after. `answers` is the relation of its calls, such as `LineCalls`.
module _ {S : Type 0} (answers : S → ℕ → Call → S → Type 0) where
  -- the office gets this call at a moment, with this result
  abbrev pub OfficeAnswers : ℕ → S → Meaning → Answered → S → Type 0
  OfficeAnswers now s (means_command command) answered t =
      (outcome : Result Reply Fault) × answers s now (ran command outcome) t
      × (answered ≡ Completed (Command command) outcome)
  OfficeAnswers now s (means_query query) answered t =
      (outcome : Result Reply Fault) × answers s now (asked query outcome) t
      × (answered ≡ Completed (Query query) outcome)
  OfficeAnswers now s (is_ocsp_line request) answered t =
      (given : Result (List ℕ) NoMemory) × answers s now (responded request given) t
      × OcspLineComesTo given answered

  -- an untimed line at a moment: the office gets the call that the line means; or the line is unreadable, and the office gets no call
  abbrev pub ComesTo : ℕ → S → List ℕ → Answered → S → Type 0
  ComesTo now s line answered t =
      ((meaning : Meaning) × LineMeans line meaning × OfficeAnswers now s meaning answered t)
      ⊎ (IsUnreadable line × (answered ≡ unreadable) × (t ≡ s))

  -- a line of a script: a moment and an untimed line; or it does not begin with a moment, and is unreadable
  abbrev pub TimedComesTo : S → List ℕ → Answered → S → Type 0
  TimedComesTo s line answered t =
      ((now : ℕ) × (command : List ℕ) × HasMoment line now command × ComesTo now s command answered t)
      ⊎ (HasNoMoment line × (answered ≡ unreadable) × (t ≡ s))

  -- a line of an input: an untimed line at a moment that the clock has reached, or a line of a script
  abbrev pub LineComesTo : (ℕ → Type 0) → Bool → S → List ℕ → Answered → S → Type 0
  LineComesTo reached true = λ s line answered t. (now : ℕ) × reached now × ComesTo now s line answered t
  LineComesTo reached false = TimedComesTo

-- a line and its reply, by its result
abbrev pub Replied : {S : Type 0} → (S → List ℕ → Answered → S → Type 0) → S → List ℕ → List ℕ → S → Type 0
Replied comes_to s line reply t =
    (answered : Answered) × comes_to s line answered t × (reply ≡ reply_of answered)

-- a line of an input and its reply; `reached` holds of the moments that the clock has reached
abbrev pub LineReplies
    : {S : Type 0} → (S → ℕ → Call → S → Type 0) → (ℕ → Type 0) → Bool → S → List ℕ → List ℕ → S → Type 0
LineReplies answers reached is_clocked = Replied (LineComesTo answers reached is_clocked)

-- the same, as an office runs it for a host
abbrev pub HostLines : {O H : Type 0} → Office O → Host H → H → O → List ℕ → List ℕ → O → Type 0
HostLines office hosts host = LineReplies (LineCalls office) hosts.clock_reached (hosts.clocked host)
