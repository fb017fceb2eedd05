use Rattle.std.proofs.Common.{refl}
use Rattle.reg_office_api.specs.Calls.{RunsIn, AsksIn, AnswersOcspIn, RepliesIn, GivesCrlIn}
use Rattle.reg_office_api.specs.Items.{items_of}
use Rattle.reg_http_head.specs.Response.{shown}
use Rattle.reg_http.specs.Answers.{of_any_kind}
use Rattle.reg_http.specs.RoutedRequests.{asked, ocsp_of}
use Rattle.reg_http.specs.Meanings.{request_of_call}
use Rattle.reg_http.specs.AnswerEffects.{answer_effects}
use Rattle.reg_http.proofs.ByRecords.{responds_leads, responds_to}
use Rattle.reg_http.proofs.Replying.{call_answers, ocsp_responds}
use Rattle.reg_http.proofs.routes.answer.Goals as goal

pub returns-in-OcspByPost-clause-calls : goal.returns-in-OcspByPost-clause-calls
returns-in-OcspByPost-clause-calls g c =
    responds_to g.O.Office c.args.now _ _ (ocsp_of c.args.body.now) _ (shown c.ocsp_answer.result) (rw c.in-OcspByPost.is at c.in_ok-meaning_of.ensures)
    (ocsp_responds (RunsIn g.O.Office) (AsksIn g.O.Office) (AnswersOcspIn g.O.Office) (GivesCrlIn g.O.Office) c.args.now _ _ c.args.body.now
    (items_of c.ocsp.result) (shown c.ocsp_answer.result) c.ocsp.ensures c.ocsp_answer.ensures)

pub returns-in-OcspByPost-clause-ok : goal.returns-in-OcspByPost-clause-ok
returns-in-OcspByPost-clause-ok g c =
    responds_leads g.O.Office c.args.now _ _ (asked c.args.method.now c.args.target.now c.args.body.now) (shown c.ocsp_answer.result)
    (returns-in-OcspByPost-clause-calls g c)

pub returns-in-OcspByGet-clause-calls : goal.returns-in-OcspByGet-clause-calls
returns-in-OcspByGet-clause-calls g c =
    responds_to g.O.Office c.args.now _ _ (ocsp_of c.in-OcspByGet.request.items) _ (shown c.ocsp_answer-in-OcspByGet.result)
    (rw c.in-OcspByGet.is at c.in_ok-meaning_of.ensures)
    (ocsp_responds (RunsIn g.O.Office) (AsksIn g.O.Office) (AnswersOcspIn g.O.Office) (GivesCrlIn g.O.Office) c.args.now _ _ c.in-OcspByGet.request.items
    (items_of c.ocsp-in-OcspByGet.result) (shown c.ocsp_answer-in-OcspByGet.result) (rw c.deref.ensures.value at c.ocsp-in-OcspByGet.ensures)
    c.ocsp_answer-in-OcspByGet.ensures)

pub returns-in-OcspByGet-clause-ok : goal.returns-in-OcspByGet-clause-ok
returns-in-OcspByGet-clause-ok g c =
    responds_leads g.O.Office c.args.now _ _ (asked c.args.method.now c.args.target.now c.args.body.now) (shown c.ocsp_answer-in-OcspByGet.result)
    (returns-in-OcspByGet-clause-calls g c)

pub returns-in-Other-clause-calls : goal.returns-in-Other-clause-calls
returns-in-Other-clause-calls g c =
    responds_to g.O.Office c.args.now _ _ (request_of_call c.in-Other.call) _ (shown c.respond.result.answer)
    (rw c.in-Other.is at c.in_ok-meaning_of.ensures) (
      answer_effects c.respond.result,
      call_answers (RunsIn g.O.Office) (AsksIn g.O.Office) (RepliesIn g.O.Office) (of_any_kind (AnswersOcspIn g.O.Office)) (GivesCrlIn g.O.Office)
          c.args.now c.args.office.now c.respond.new.office c.in-Other.call (answer_effects c.respond.result) c.respond.ensures,
      refl,
    )

pub returns-in-Other-clause-ok : goal.returns-in-Other-clause-ok
returns-in-Other-clause-ok g c =
    responds_leads g.O.Office c.args.now _ _ (asked c.args.method.now c.args.target.now c.args.body.now) (shown c.respond.result.answer)
    (returns-in-Other-clause-calls g c)
