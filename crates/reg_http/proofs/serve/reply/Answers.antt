use Rattle.std.specs.Prelude.{string_bytes}
use Rattle.reg_office_api.specs.CallSteps.{Runs, Asks, AnswersOcsp, GivesCrl}
use Rattle.reg_office_api.specs.Calls.{RunsIn, AsksIn, AnswersOcspIn, GivesCrlIn}
use Rattle.reg_office_api.proofs.PublicLaws.{follows}
use Rattle.reg_http_head.specs.Response.{shown}
use Rattle.reg_http.proofs.Replying.{reply_ends}
use Rattle.reg_http.proofs.serve.reply.Goals as goal

pub returns-in-Ok-clause-ends : goal.returns-in-Ok-clause-ends
returns-in-Ok-clause-ends g c =
    rw c.in-Valid.is
    (follows g.O.Office.is_clean g.O.Office.stands _ _
    (λ signers before after made. (
      reply_ends (Runs g.O.Office.signs signers) Asks (AnswersOcsp g.O.Office.signs signers) GivesCrl c.args.now before after
          c.in-Valid.method (string_bytes c.in-Valid.target) c.in-Valid.body.items (shown c.in-Ok.answer) _ _ c.send.result
          made.0 c.send.ensures.ok c.send.ensures.err,
      made.1,
    ))
    _ _ (rw (c.as_str.ensures.value, c.as_slice.ensures.value) at c.in-Ok.ensures.ok))

pub returns-in-Ok-clause-calls : goal.returns-in-Ok-clause-calls
returns-in-Ok-clause-calls g c =
    rw c.in-Valid.is
    (reply_ends (RunsIn g.O.Office) (AsksIn g.O.Office) (AnswersOcspIn g.O.Office) (GivesCrlIn g.O.Office) c.args.now c.args.office.now c.answer.new.office
    c.in-Valid.method (string_bytes c.in-Valid.target) c.in-Valid.body.items (shown c.in-Ok.answer) _ _ c.send.result
    (rw (c.as_str.ensures.value, c.as_slice.ensures.value) at c.in-Ok.ensures.calls) c.send.ensures.ok c.send.ensures.err)
