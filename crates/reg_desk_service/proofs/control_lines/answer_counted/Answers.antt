use Rattle.std.proofs.Common.{◌≡◌}
use Rattle.reg_core.specs.Records.{Records}
use Rattle.reg_office_api.proofs.PublicLaws.{follows}
use Rattle.reg_office_api.specs.Signers.{OfficeSigners}
use Rattle.reg_desk_service.specs.ControlWords.{AnswersLineAt}
use Rattle.reg_desk_service.proofs.LookedAt.{still_then, then_still}
use Rattle.reg_desk_service.proofs.control_lines.answer_counted.Goals as goal

pub returns-clause-moves : goal.returns-clause-moves
returns-clause-moves g c =
    let step : OfficeSigners → Records → Records → Type 0 = λ signers before after.
    AnswersLineAt c.args.accepted.now g.M.Office.Office.signs c.args.now signers before c.args.line.now c.answer_control_line-reply.result.text.items after in
    still_then g.M.Office.Office.is_clean g.M.Office.Office.stands step _ _ _
    (follows g.M.Office.Office.is_clean g.M.Office.Office.stands _ (λ signers before after. after ≡ before) (λ signers before after looked. looked.1) _ _
    c.decided_request-looked_up.ensures)
    (then_still g.M.Office.Office.is_clean g.M.Office.Office.stands step _ _ _ c.answer_control_line-reply.ensures.moves c.keep_due_reason.ensures)

pub returns-clause-counted : goal.returns-clause-counted
returns-clause-counted g c = (
  c.saturating_sub-micros.result,
  c.answer_control_line-reply.result.line_outcome,
  c.has_failed-signature_failed.result,
  c.answer_control_line-reply.ensures.line_outcome,
  rw (c.failure_counts-failures.ensures.crls, c.failure_counts-failures.ensures.answers) at c.has_failed-signature_failed.ensures,
  rw c.effects.ensures at c.count_line.ensures,
)
