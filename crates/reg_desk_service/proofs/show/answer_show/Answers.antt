use Rattle.reg_desk_service.proofs.Finding.{shown_by_row}
use Rattle.reg_desk_service.proofs.show.answer_show.Goals as goal

pub returns-clause-moves : goal.returns-clause-moves
returns-clause-moves g c =
    shown_by_row g.M.Office.Office.is_clean g.M.Office.Office.stands c.args.now c.args.shown c.find-found.result c.answer_found.result.text.items _ _
    c.find-found.ensures c.answer_found.ensures.reply_text
