use Rattle.std.proofs.Common.{refl}
use Rattle.reg_http_head.specs.Bytes.{collected_bytes}
use Rattle.reg_desk_service.specs.SignerAnswers.{AnsweredAtSomePath}
use Rattle.reg_desk_service.proofs.Answering.{asked_answers, refused_answers}
use Rattle.reg_desk_service.proofs.http_exchanges.exchange_at.Goals as goal

pub returns-in-Ok-Valid-clause-moves : goal.returns-in-Ok-Valid-clause-moves
returns-in-Ok-Valid-clause-moves g c =
    asked_answers g.M.Office.Office.is_clean g.M.Office.Office.stands g.M.Office.Office.signs c.args.now c.args.admission.now _ c.args.kind _ _ (AnsweredAtSomePath g.M.Machine.signer_answered)
    (λ identity message answer given form. g.met.M.Machine.answer_in_form_signs identity given.0 message answer given.1 form)
    (collected_bytes c.args.request.now) c.in-Ok-Valid.method c.in-Ok-Valid.target.now c.in-Ok-Valid.body.now c.of-route.result
    c.begin_at-begun.result c.begun_exchange.result (rw c.in-Ok-Valid.field-0-is at c.in-Ok-Valid.ensures.ok) c.begun_exchange.ensures
    c.begin_at-begun.ensures.counted c.begin_at-begun.ensures.moves

pub returns-in-Ok-Refused-clause-moves : goal.returns-in-Ok-Refused-clause-moves
returns-in-Ok-Refused-clause-moves g c =
    refused_answers g.M.Office.Office.is_clean g.M.Office.Office.stands g.M.Office.Office.signs c.args.now c.args.admission.now c.args.admission.now c.args.kind _ _ (AnsweredAtSomePath g.M.Machine.signer_answered)
    (λ identity message answer given form. g.met.M.Machine.answer_in_form_signs identity given.0 message answer given.1 form)
    (collected_bytes c.args.request.now) c.in-Ok-Refused.status c.named_in-route.result c.refuse.result c.begun_exchange-in-Ok-Refused.result
    (rw c.in-Ok-Refused.field-0-is at c.in-Ok-Refused.ensures.ok) c.refuse.ensures (rw c.ready.ensures at c.begun_exchange-in-Ok-Refused.ensures) refl refl
