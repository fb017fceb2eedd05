use Rattle.std.specs.Prelude.{take}
use Rattle.reg_core.specs.Records.{Records}
use Rattle.reg_lines.specs.Script.{pieces}
use Rattle.reg_office_api.proofs.PublicLaws.{follows}
use Rattle.reg_office_api.specs.Signers.{OfficeSigners}
use Rattle.reg_desk_service.specs.ControlWords.{AnswersLineAt, AnswersLinesAt}
use Rattle.reg_desk_service.proofs.CommandBatches.{first_whole, one_line_accepted, one_line_at}
use Rattle.reg_desk_service.proofs.LookedAt.{still_then}
use Rattle.reg_desk_service.proofs.control_lines.answer_first_lines.Goals as goal

pub returns-in-None-clause-moves : goal.returns-in-None-clause-moves
returns-in-None-clause-moves g c =
    let replies = c.answer_first_line.result in
    let line = take replies.length c.args.lines.now in
    let step : OfficeSigners → Records → Records → Type 0 = λ signers before after.
    AnswersLinesAt c.args.accepted.now g.M.Office.Office.signs c.args.now signers before (pieces line) replies.text.items after in
    still_then g.M.Office.Office.is_clean g.M.Office.Office.stands step _ _ _ c.in-None.ensures.none
    (follows g.M.Office.Office.is_clean g.M.Office.Office.stands
    (λ signers before after. AnswersLineAt c.args.accepted.now g.M.Office.Office.signs c.args.now signers before line replies.text.items after) step
    (λ signers before after said. one_line_at c.args.accepted.now g.M.Office.Office.signs c.args.now signers before after line replies.text.items
    (first_whole c.args.lines.now replies.length c.answer_first_line.ensures.ends) said)
    _ _ c.answer_first_line.ensures.moves)

pub returns-in-None-clause-accepted : goal.returns-in-None-clause-accepted
returns-in-None-clause-accepted g c =
    let replies = c.answer_first_line.result in
    one_line_accepted (take replies.length c.args.lines.now) c.args.accepted.now _
    (first_whole c.args.lines.now replies.length c.answer_first_line.ensures.ends) c.answer_first_line.ensures.accepted
