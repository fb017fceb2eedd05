use Rattle.std.proofs.Common.{refl}
use Rattle.reg_core.specs.declared.refusal.Fault.TheVariants.{Memory, Read}
use Rattle.reg_desk_service.specs.ControlWords.{decides}
use Rattle.reg_desk_service.proofs.ControlLines.{copied, entered, fault_came, word_answered}
use Rattle.reg_desk_service.proofs.control_lines.answer_control_line.Goals as goal

pub returns-in-Ok-Copy-clause-moves : goal.returns-in-Ok-Copy-clause-moves
returns-in-Ok-Copy-clause-moves g c =
    copied g.M.Office.Office.is_clean g.M.Office.Office.stands c.args.accepted.now g.M.Office.Office.signs c.args.now _ _ c.args.line.now _
    (rw c.in-Ok-Copy.field-0-is at c.in-Ok-Copy.ensures) refl c.answer_copy.ensures.reply_text

pub returns-in-Ok-Decide-clause-moves : goal.returns-in-Ok-Decide-clause-moves
returns-in-Ok-Decide-clause-moves g c =
    word_answered g.M.Office.Office.is_clean g.M.Office.Office.stands c.args.accepted.now g.M.Office.Office.signs c.args.now _ _ c.args.line.now _ (decides c.in-Ok-Decide.serial_decision)
    (rw c.in-Ok-Decide.field-0-is at c.in-Ok-Decide.ensures) c.decide_by_clock.ensures.moves

pub returns-in-Ok-Line-Some-clause-moves : goal.returns-in-Ok-Line-Some-clause-moves
returns-in-Ok-Line-Some-clause-moves g c =
    let word = rw (c.in-Ok-Line-Some.field-0-is, c.in-Ok-Line-Some.field-0-0-is) at c.in-Ok-Line-Some.ensures in
    entered g.M.Office.Office.is_clean g.M.Office.Office.stands c.args.accepted.now g.M.Office.Office.signs c.args.now _ _ c.args.line.now _
    c.in-Ok-Line-Some.command.now word.0 word.1.0 word.1.1 c.answer_by_clock.ensures.moves

pub returns-in-Ok-Line-None-clause-line_outcome : goal.returns-in-Ok-Line-None-clause-line_outcome
returns-in-Ok-Line-None-clause-line_outcome g c = fault_came Read _ _ c.fault.ensures

pub returns-in-Err-clause-line_outcome : goal.returns-in-Err-clause-line_outcome
returns-in-Err-clause-line_outcome g c = fault_came Memory _ _ c.fault-in-Err.ensures
