use Rattle.std.proofs.Common.{refl, rules}
use Rattle.std.specs.Prelude.{take}
use Rattle.reg_lines.specs.Script.{pieces}
use Rattle.reg_office_api.proofs.PublicLaws.{follows}
use Rattle.reg_desk_service.specs.ControlWords.{AnswersLinesByClock, AnswersLinesAt}
use Rattle.reg_desk_service.proofs.desks.DeskHandler.answer_lines.Goals as goal

pub returns-clause-ok : goal.returns-clause-ok
returns-clause-ok g c =
    let accepted = c.args.self.now.admission.accepted in
    let replies = c.answer_first_lines-replies.result in
    let bytes = take replies.length c.args.lines.now in
    let is = c.requires in (
      c.answer_first_lines-replies.ensures.ends,
      (
        search rules,
        search rules,
        (refl, c.answer_first_lines-replies.ensures.accepted),
        follows g.M.Office.Office.is_clean g.M.Office.Office.stands
            (λ identity before after. AnswersLinesAt accepted g.M.Office.Office.signs c.in-Ok.now identity before (pieces bytes) replies.text.items after)
            (λ identity before after. AnswersLinesByClock accepted g.M.Office.Office.signs g.M.Machine.clock_reached identity before bytes replies.text.items after)
            (λ identity before after said. (c.in-Ok.now, c.in-Ok.ensures.by_clock, said)) _ _ c.answer_first_lines-replies.ensures.moves,
        (c.in-Ok.now, c.first_lines_answered.ensures),
      ),
    )

pub first_lines_answered-requires : goal.first_lines_answered-requires
first_lines_answered-requires g c = c.answer_first_lines-replies.ensures.ends.1
