use Rattle.std.proofs.Common.{refl}
use Rattle.reg_office_api.specs.Signers.{OfficeSigners}
use Rattle.reg_core.specs.Records.{Records}
use Rattle.reg_office_api.proofs.PublicLaws.{follows}
use Rattle.reg_desk_service.specs.ControlWords.{AnswersLinesByClock, AnswersLineAt}
use Rattle.reg_desk_service.proofs.CommandBatches.{one_line_accepted, one_line_at}
use Rattle.reg_desk_service.proofs.LookedAt.{still_then, then_still}
use Rattle.reg_desk_service.proofs.desks.Desk.answer_with_signature.Goals as goal

pub returns-clause-admission : goal.returns-clause-admission
returns-clause-admission g c = (refl, one_line_accepted c.args.line.now c.args.self.now.admission.accepted _ c.requires.line c.answer_counted-reply.ensures.accepted)

pub returns-clause-moves : goal.returns-clause-moves
returns-clause-moves g c =
    let at : OfficeSigners → Records → Records → Type 0 = λ identity before after.
    AnswersLineAt c.args.self.now.admission.accepted g.M.Office.Office.signs c.args.line_signature.moment identity before c.args.line.now c.answer_counted-reply.result.items after in
    let step : OfficeSigners → Records → Records → Type 0 = λ identity before after.
    AnswersLinesByClock c.args.self.now.admission.accepted g.M.Office.Office.signs g.M.Machine.clock_reached identity before c.args.line.now c.answer_counted-reply.result.items after in
    then_still g.M.Office.Office.is_clean g.M.Office.Office.stands step _ _ _
    (still_then g.M.Office.Office.is_clean g.M.Office.Office.stands step _ _ _ c.set_preset.ensures
    (follows g.M.Office.Office.is_clean g.M.Office.Office.stands at step (λ identity before after said. (
      c.args.line_signature.moment,
      c.requires.signature.moment_reached,
      one_line_at c.args.self.now.admission.accepted g.M.Office.Office.signs c.args.line_signature.moment identity before after c.args.line.now c.answer_counted-reply.result.items
          c.requires.line said,
    ))
    _ _ c.answer_counted-reply.ensures.moves))
    c.set_preset-2.ensures
