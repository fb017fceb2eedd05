-- What a line at the control socket comes to, over an office that keeps records.
use Rattle.std.proofs.Common.{◌≡◌, ◌<◌, ℕ, List, [], ◌∷◌, ◌++◌, arith, lit<, inl, inr, refl, sym, subst}
use Rattle.std.specs.Prelude.{Option, codes, decimal, get_or}
use Rattle.reg_core.specs.Records.{Records}
use Rattle.reg_core.specs.Lines.{fault_line}
use Rattle.reg_core.specs.declared.refusal.Fault.{Fault}
use Rattle.reg_core_lists.specs.Texts.{object_text, row_text}
use Rattle.reg_core_lists.specs.declared.rows.Row.{Row}
use Rattle.reg_core_lists.specs.declared.texts.Format.TheVariants.{Json}
use Rattle.reg_office_api.specs.Leads.{Leads}
use Rattle.reg_office_api.specs.Signers.{OfficeSigners}
use Rattle.reg_office_api.specs.CallSteps.{Signs}
use Rattle.reg_office_api.proofs.PublicLaws.{follows, stays}
use Rattle.reg_lines.specs.Script.{IsShortUntimedLine, line_of}
use Rattle.reg_desk_cli.specs.ExitStatus.{failure_line}
use Rattle.reg_desk_cli.specs.declared.failure.Failure.TheVariants as failure
use Rattle.reg_desk_service.specs.ControlReplies.{IsReplyWith, IsReplyText, ReportsLineOutcome}
use Rattle.reg_desk_service.specs.Copies.{AnswersCopy, copied_text}
use Rattle.reg_desk_service.specs.Reasons.{kept_reason_text}
use Rattle.reg_desk_service.specs.ControlWords.{LineAt, WordMeaning, AnswersWord, AnswersLineAt, commands, copies, helps, meaning_in}
use Rattle.reg_desk_service.specs.RowLookUps.{help_text}
use Rattle.reg_desk_service.specs.declared.control_reply.LineOutcome.{LineOutcome}
use Rattle.reg_desk_service.specs.declared.control_reply.LineOutcome.TheVariants.{Done, Failed}

-- ---- replies

-- what is told of a word that came to this
pub outcome_is : (bytes : List ℕ) (line_outcome : LineOutcome) (text : List ℕ) (outcome : LineOutcome) → IsReplyWith bytes line_outcome text outcome → ReportsLineOutcome line_outcome bytes → ReportsLineOutcome outcome text
outcome_is bytes line_outcome text outcome (inl (is, same)) shown = subst (λ c. ReportsLineOutcome c text) (sym same) (subst (ReportsLineOutcome line_outcome) (sym is) shown)
outcome_is bytes line_outcome text outcome (inr (none, silent)) shown = subst (λ c. ReportsLineOutcome c text) (sym silent) none

pub fault_came : (why : Fault) (text : List ℕ) (outcome : LineOutcome) → IsReplyWith (fault_line why ++ 10 ∷ []) (Failed (failure.Fault why)) text outcome → ReportsLineOutcome outcome text
unfolding failure_line
fault_came why text outcome is = outcome_is (fault_line why ++ 10 ∷ []) (Failed (failure.Fault why)) text outcome is refl

-- the bytes are told, or nothing
pub meaning_in_fields : (bytes : List ℕ) (line_outcome : LineOutcome) (text : List ℕ) (outcome : LineOutcome) → IsReplyWith bytes line_outcome text outcome → IsReplyText bytes text
meaning_in_fields bytes line_outcome text outcome (inl (is, same)) = inl is
meaning_in_fields bytes line_outcome text outcome (inr (none, silent)) = inr none

-- a text that begins with a later letter than b is accepted
later_accepted : (text : List ℕ) → 98 < get_or text 0 0 → ReportsLineOutcome Done text
later_accepted [] later = absurd (omega arith)
later_accepted (first ∷ rest) later = (((λ is. omega (arith, is)), (λ is. omega (arith, is)), (λ is. omega (arith, is))), omega arith)

pub why_accepted : (last_reason : List ℕ) → ReportsLineOutcome Done (kept_reason_text last_reason)
unfolding kept_reason_text
why_accepted [] = later_accepted (codes "why nothing\n") (lit< tt)
why_accepted (first ∷ rest) = later_accepted (codes "why " ++ first ∷ rest) (lit< tt)

pub copy_accepted : (bytes millis : ℕ) → ReportsLineOutcome Done (copied_text bytes millis)
unfolding copied_text
copy_accepted bytes millis =
    later_accepted (codes "copied " ++ decimal bytes ++ codes " bytes in " ++ decimal millis ++ codes " ms\n") (lit< tt)

pub help_accepted : ReportsLineOutcome Done (help_text ++ 10 ∷ [])
unfolding help_text
help_accepted = later_accepted (help_text ++ 10 ∷ []) (lit< tt)

pub row_accepted : (row : Row) → ReportsLineOutcome Done (row_text Json row)
unfolding row_text object_text
row_accepted row = later_accepted (row_text Json row) (lit< tt)

-- ---- lines

-- a line that says a word, which is told
pub word_answered : {S : Type 0} (is_clean : S → Type 0) (stands : OfficeSigners → S → Records → Type 0) (accepted : Option ℕ) (signs : Signs) (now : ℕ) (s t : S)
    (line text : List ℕ) (word : WordMeaning) → meaning_in line ≡ word
    → Leads is_clean stands (λ identity before after. AnswersWord accepted signs now identity before line word text after) s t
    → Leads is_clean stands (λ identity before after. AnswersLineAt accepted signs now identity before line text after) s t
word_answered is_clean stands accepted signs now s t line text word is answers =
    follows is_clean stands
    (λ identity before after. AnswersWord accepted signs now identity before line word text after)
    (λ identity before after. AnswersLineAt accepted signs now identity before line text after)
    (λ identity before after made. inl (subst (λ w. AnswersWord accepted signs now identity before line w text after) (sym is) made))
    s
    t
    answers

-- a command line, without its end
pub entered : {S : Type 0} (is_clean : S → Type 0) (stands : OfficeSigners → S → Records → Type 0) (accepted : Option ℕ) (signs : Signs) (now : ℕ) (s t : S)
    (line text command : List ℕ) → meaning_in line ≡ commands → command ≡ line_of line → IsShortUntimedLine line
    → Leads is_clean stands (λ identity before after. LineAt accepted signs now identity before command text after) s t
    → Leads is_clean stands (λ identity before after. AnswersLineAt accepted signs now identity before line text after) s t
entered is_clean stands accepted signs now s t line text command is same short ran =
    word_answered is_clean stands accepted signs now s t line text commands is
    (follows is_clean stands
    (λ identity before after. LineAt accepted signs now identity before command text after)
    (λ identity before after. AnswersWord accepted signs now identity before line commands text after)
    (λ identity before after made. inl (short, subst (λ l. LineAt accepted signs now identity before l text after) same made))
    s
    t
    ran)

-- a line that asks for a copy
pub copied : {S : Type 0} (is_clean : S → Type 0) (stands : OfficeSigners → S → Records → Type 0) (accepted : Option ℕ) (signs : Signs) (now : ℕ) (s t : S) (line text : List ℕ)
    → meaning_in line ≡ copies → t ≡ s → AnswersCopy (λ bytes. Unit {0}) text
    → Leads is_clean stands (λ identity before after. AnswersLineAt accepted signs now identity before line text after) s t
copied is_clean stands accepted signs now s t line text is same answers =
    word_answered is_clean stands accepted signs now s t line text copies is
    (follows is_clean stands
    (λ identity before after. after ≡ before)
    (λ identity before after. AnswersCopy (λ bytes. Unit {0}) text × (after ≡ before))
    (λ identity before after stayed. (answers, stayed))
    s
    t
    (stays is_clean stands s t same))

-- a line that asks for the words
pub helped : {S : Type 0} (is_clean : S → Type 0) (stands : OfficeSigners → S → Records → Type 0) (accepted : Option ℕ) (signs : Signs) (now : ℕ) (s t : S) (line text : List ℕ)
    → meaning_in line ≡ helps → t ≡ s → IsReplyText (help_text ++ 10 ∷ []) text
    → Leads is_clean stands (λ identity before after. AnswersLineAt accepted signs now identity before line text after) s t
helped is_clean stands accepted signs now s t line text is same answers =
    word_answered is_clean stands accepted signs now s t line text helps is
    (follows is_clean stands
    (λ identity before after. after ≡ before)
    (λ identity before after. IsReplyText (help_text ++ 10 ∷ []) text × (after ≡ before))
    (λ identity before after stayed. (answers, stayed))
    s
    t
    (stays is_clean stands s t same))
