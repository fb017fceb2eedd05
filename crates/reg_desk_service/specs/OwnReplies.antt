-- Each line at a control socket has its own reply, also if several lines are answered together.
use Rattle.std.specs.Prelude.{ℕ, List, Option}
use Rattle.reg_core.specs.Records.{Records}
use Rattle.reg_desk_server.specs.Connections.{HasOwnReplies}
use Rattle.reg_desk_server.specs.LineEnds.{IsWholeLines}
use Rattle.reg_office_api.specs.CallSteps.{Signs}
use Rattle.reg_office_api.specs.Leads.{Leads}
use Rattle.reg_office_api.specs.Signers.{OfficeSigners}
use Rattle.reg_desk_service.specs.ControlWords.{AnswersLineAt, AnswersLinesByClock}

module _ (signs : Signs) (clock_reached : ℕ → Type 0) where
  -- the line alone gets this reply, at a moment that the clock has reached, from some records
  abbrev pub IsReplyTo : OfficeSigners → List ℕ → List ℕ → Type 0
  IsReplyTo identity line reply =
      (accepted : Option ℕ) × (now : ℕ) × clock_reached now × (before : Records) × (after : Records)
      × AnswersLineAt accepted signs now identity before line reply after

  -- Whole lines were answered together with this text, in one call of an office, as the relation `answers_lines` of a desk states. If records stood
  -- before the call, and the disk is clean after it, the text is the lines' own replies, one for each line, in the order of the lines.
  abbrev pub EachHasItsReply : {O : Type 0} → (O → Type 0) → (OfficeSigners → O → Records → Type 0) → Type 0
  EachHasItsReply {O = O} is_clean stands =
      (accepted : Option ℕ) (bytes text : List ℕ) (s t : O) (identity : OfficeSigners) (before : Records)
      → IsWholeLines bytes
      → Leads is_clean stands
      (λ signers first after. AnswersLinesByClock accepted signs clock_reached signers first bytes text after) s t
      → stands identity s before → is_clean t → HasOwnReplies (IsReplyTo identity) bytes text
