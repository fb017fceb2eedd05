use Rattle.std.proofs.Common.{◌∙◌, ap, refl}
use Rattle.reg_http_head.specs.Bytes.{collected_bytes}
use Rattle.reg_desk_server.specs.Outcomes.{outcome_of}
use Rattle.reg_desk_service.specs.Confirmations.{after_outcome}
use Rattle.reg_desk_service.specs.SignerAnswers.{AnsweredAtSomePath}
use Rattle.reg_desk_service.proofs.Answering.{answers_meet_as}
use Rattle.reg_desk_service.proofs.desks.DeskHandler.answer.Goals as goal

pub returns-clause-ok : goal.returns-clause-ok
returns-clause-ok g c =
    let (begun, recounted, is_recounted, moves, counted) = c.answer_http-begun.ensures in (
      refl,
      answers_meet_as g.M.Office.Office.is_clean g.M.Office.Office.stands g.M.Office.Office.signs c.in-Ok.now c.args.self.now.admission _ c.of.result _ _
          (AnsweredAtSomePath g.M.Machine.signer_answered) (λ identity message answer given form. g.met.M.Machine.answer_in_form_signs identity given.0 message answer given.1 form)
          (collected_bytes c.args.request.now) _ c.of.ensures g.M.Machine.clock_reached begun (outcome_of c.answer_http-begun.result) recounted _ c.in-Ok.ensures.by_clock counted moves,
      c.request_begun.ensures
          ∙ ap (λ request. after_outcome request (outcome_of c.answer_http-begun.result) c.args.self.now.confirmation) c.as_slice.ensures,
    )
