use Rattle.std.proofs.Common.{inl}
use Rattle.reg_core.specs.Records.{Records}
use Rattle.reg_core.specs.declared.refusal.Fault.TheVariants.{Memory}
use Rattle.reg_office_api.proofs.PublicLaws.{follows}
use Rattle.reg_office_api.specs.Signers.{OfficeSigners}
use Rattle.reg_desk_service.specs.ControlWords.{CommandAt}
use Rattle.reg_desk_service.proofs.ControlLines.{fault_came}
use Rattle.reg_desk_service.proofs.LookedAt.{then_still}
use Rattle.reg_desk_service.proofs.control_lines.answer_command_line.Goals as goal

pub returns-in_default-clause-line_outcome : goal.returns-in_default-clause-line_outcome
returns-in_default-clause-line_outcome g c = fault_came Memory _ _ c.fault.ensures

pub returns-clause-moves : goal.returns-clause-moves
returns-clause-moves g c =
    let step : OfficeSigners → Records → Records → Type 0 = λ signers before after.
    CommandAt g.M.Office.Office.signs c.args.now signers before c.args.line.now c.answer_command-reply.result.text.items after in
    then_still g.M.Office.Office.is_clean g.M.Office.Office.stands step _ _ _
    (follows g.M.Office.Office.is_clean g.M.Office.Office.stands _ step
    (λ signers before after comes. inl (c.run_line-answered.result, comes, c.answer_command-reply.ensures.text)) _ _ c.run_line-answered.ensures.leads)
    c.answer_command-reply.ensures.stays
