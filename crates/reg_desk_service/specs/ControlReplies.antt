-- The result of a line at the control socket, its reply, and what is counted for it.
use Rattle.std.specs.Prelude.{◌≡◌, ◌⊎◌, ◌<◌, ◌==◌, ℕ, Bool, true, false, List, [], ◌∷◌, ◌++◌, codes, cond, length, Ok, Err}
use Rattle.hex.specs.Hex.{encode_lower}
use Rattle.reg_office_api.specs.declared.effects.LineEffects.{LineEffects}
use Rattle.reg_office_api.specs.declared.effects.LineReply.{LineReply}
use Rattle.reg_office_api.specs.declared.effects.LineReply.TheVariants as kind
use Rattle.reg_office_api.specs.declared.effects.SignatureOutcome.{SignatureOutcome}
use Rattle.reg_office_api.specs.declared.effects.SignatureOutcome.TheVariants as signature_outcome
use Rattle.reg_office_api.specs.declared.effects.StoreEffect.{StoreEffect}
use Rattle.reg_office_api.specs.declared.effects.StoreEffect.TheVariants as effect
use Rattle.reg_core.specs.Lines.{fault_line}
use Rattle.reg_core.specs.declared.command.Command.TheVariants.{Crl as IssueCrl}
use Rattle.reg_core.specs.declared.refusal.Fault.{Fault}
use Rattle.reg_core.specs.declared.refusal.Fault.TheVariants as fault
use Rattle.reg_desk_cli.specs.ExitStatus.{failure_line}
use Rattle.reg_desk_cli.specs.declared.failure.Failure.TheVariants as failure
use Rattle.reg_lines.specs.Accepted.{IsAccepted}
use Rattle.reg_lines.specs.Replies.{outcome_line, with_lf}
use Rattle.reg_lines.specs.declared.answered.Answered.{Answered}
use Rattle.reg_lines.specs.declared.answered.Answered.TheVariants as answered
use Rattle.reg_lines.specs.declared.answered.LineKind.TheVariants.{Command, Ocsp}
use Rattle.reg_desk_service.specs.declared.control_reply.ControlReply.{ControlReply}
use Rattle.reg_desk_service.specs.declared.control_reply.LineOutcome.{LineOutcome}
use Rattle.reg_desk_service.specs.declared.control_reply.LineOutcome.TheVariants.{Completed, Response, Done, ScheduleSet, Failed, Silent, CopyFault}

-- the reply is these bytes, or empty if there was no memory for them
abbrev pub IsReplyText : List ℕ → List ℕ → Type 0
IsReplyText bytes text = (text ≡ bytes) ⊎ (text ≡ [])

-- the reply is the line of a fault or a refusal, or empty
abbrev pub ReportsFault : Fault → List ℕ → Type 0
ReportsFault why text = IsReplyText (fault_line why ++ 10 ∷ []) text

-- the result of a command line
abbrev pub line_outcome_of : Answered → LineOutcome
line_outcome_of (answered.Completed what outcome) = Completed what outcome
line_outcome_of (answered.Response reply) = Response reply.has_only_status

-- the reply shows the result of a line; an OCSP response that has only a status has five bytes (RFC 6960 4.2.1)
abbrev pub ReportsLineOutcome : LineOutcome → List ℕ → Type 0
ReportsLineOutcome (Completed what outcome) text = text ≡ with_lf (outcome_line outcome)
ReportsLineOutcome (Response refuses) text =
    (response : List ℕ) × (text ≡ with_lf (codes "ocsp " ++ encode_lower response))
    × (refuses ≡ (length response == 5))
ReportsLineOutcome Done text = IsAccepted text × (0 < length text)
ReportsLineOutcome ScheduleSet text = text ≡ codes "schedule set\n"
ReportsLineOutcome (Failed why) text = text ≡ failure_line why ++ 10 ∷ []
ReportsLineOutcome (CopyFault why) text = text ≡ fault_line why ++ 10 ∷ []
ReportsLineOutcome Silent text = text ≡ []

-- the reply is these bytes, with the result `line_outcome`; or there was no memory for it
abbrev pub IsReplyWith : List ℕ → LineOutcome → List ℕ → LineOutcome → Type 0
IsReplyWith bytes line_outcome text reported =
    ((text ≡ bytes) × (reported ≡ line_outcome)) ⊎ ((text ≡ []) × (reported ≡ Silent))

-- the same for a reply of this line and an LF
abbrev pub IsLineReply : List ℕ → LineOutcome → ControlReply → Type 0
IsLineReply line line_outcome reply =
    IsReplyWith (line ++ 10 ∷ []) line_outcome reply.text.items reply.line_outcome

-- ---- what is counted

-- the kind of reply with a refusal or a fault
abbrev pub kind_of_fault : Fault → LineReply
kind_of_fault (fault.Refused refusal) = kind.Refused
kind_of_fault other = kind.Fault

-- the kind of reply to a line
abbrev pub kind_of : LineOutcome → LineReply
kind_of (Completed what (Ok reply)) = kind.Accepted
kind_of (Completed what (Err why)) = kind_of_fault why
kind_of (Failed (failure.Fault why)) = kind_of_fault why
kind_of (Failed other) = kind.Refused
kind_of (CopyFault why) = kind_of_fault why
kind_of Silent = kind.Fault
kind_of (Response refuses) = kind.Accepted
kind_of Done = kind.Accepted
kind_of ScheduleSet = kind.Accepted

-- the outcome without a signature: it failed, or was not requested
abbrev pub failed_if : Bool → SignatureOutcome
failed_if signature_failed = cond signature_failed signature_outcome.Failed signature_outcome.NotRequested

-- the outcome of the signature of a CRL, by whether a signature failed during the line
abbrev pub crl_outcome : Bool → LineOutcome → SignatureOutcome
crl_outcome signature_failed (Completed (Command IssueCrl) (Ok reply)) = signature_outcome.Made
crl_outcome signature_failed (Completed (Command IssueCrl) (Err why)) = failed_if signature_failed
crl_outcome signature_failed other = signature_outcome.NotRequested

-- the same of the signature of an OCSP response
abbrev pub ocsp_outcome : Bool → LineOutcome → SignatureOutcome
ocsp_outcome signature_failed (Completed Ocsp outcome) = failed_if signature_failed
ocsp_outcome signature_failed (Response true) = failed_if signature_failed
ocsp_outcome signature_failed (Response false) =
    cond signature_failed signature_outcome.Failed signature_outcome.Made
ocsp_outcome signature_failed other = signature_outcome.NotRequested

-- the effect of a line on the store: `Written` after an accepted command, or if a schedule was set; `Failed` after the fault `Store` (not of a copy);
-- else `Unwritten`
abbrev pub store_effect : LineOutcome → StoreEffect
store_effect (Completed (Command command) (Ok reply)) = effect.Written
store_effect ScheduleSet = effect.Written
store_effect (Completed what (Err fault.Store)) = effect.Failed
store_effect (Failed (failure.Fault fault.Store)) = effect.Failed
store_effect other = effect.Unwritten

-- what is counted for a line, by whether a signature failed during it
abbrev pub effects_of : Bool → LineOutcome → LineEffects
effects_of signature_failed line_outcome = record {
  reply = kind_of line_outcome;
  crl = crl_outcome signature_failed line_outcome;
  ocsp = ocsp_outcome signature_failed line_outcome;
  store = store_effect line_outcome;
}
