use Rattle.std.proofs.Common.{inl, refl}
use Rattle.reg_core.specs.Records.{Records}
use Rattle.reg_core.specs.declared.refusal.Fault.TheVariants.{Memory}
use Rattle.reg_office_api.proofs.PublicLaws.{follows}
use Rattle.reg_office_api.specs.Signers.{OfficeSigners}
use Rattle.reg_lines.specs.declared.answered.Answered.TheVariants.{Completed}
use Rattle.reg_lines.specs.declared.answered.LineKind.TheVariants.{Command}
use Rattle.reg_desk_service.specs.SerialDecisions.{RunsAt}
use Rattle.reg_desk_service.proofs.ControlLines.{fault_came}
use Rattle.reg_desk_service.proofs.LookedAt.{then_still}
use Rattle.reg_desk_service.proofs.decisions_by_serial.answer_run.Goals as goal

pub returns-in_default-clause-line_outcome : goal.returns-in_default-clause-line_outcome
returns-in_default-clause-line_outcome g c = fault_came Memory _ _ c.fault.ensures

pub returns-clause-moves : goal.returns-clause-moves
returns-clause-moves g c =
    let step : OfficeSigners → Records → Records → Type 0 = λ signers before after.
    RunsAt g.M.Office.Office.signs c.args.now signers before c.args.command c.answer_command.result.text.items after in
    then_still g.M.Office.Office.is_clean g.M.Office.Office.stands step _ _ _
    (follows g.M.Office.Office.is_clean g.M.Office.Office.stands _ step
    (λ signers before after ran. inl (Completed (Command c.args.command) c.run_one-outcome.result, (c.run_one-outcome.result, ran, refl), c.answer_command.ensures.text)) _ _
    c.run_one-outcome.ensures.runs)
    c.answer_command.ensures.stays
