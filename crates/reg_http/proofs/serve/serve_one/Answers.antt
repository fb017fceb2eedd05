use Rattle.reg_office_api.specs.CallSteps.{Runs, Asks, AnswersOcsp, GivesCrl}
use Rattle.reg_office_api.specs.Calls.{RunsIn, AsksIn, AnswersOcspIn, GivesCrlIn}
use Rattle.reg_office_api.proofs.PublicLaws.{follows}
use Rattle.reg_http_head.specs.Frame.{request_meaning}
use Rattle.reg_http.proofs.Replying.{serving_ends}
use Rattle.reg_http.proofs.serve.serve_one.Goals as goal

pub returns-in-Ok-read_request-clause-ends : goal.returns-in-Ok-read_request-clause-ends
returns-in-Ok-read_request-clause-ends g c =
    follows g.O.Office.is_clean g.O.Office.stands _ _
    (λ signers before after made. (
      serving_ends (Runs g.O.Office.signs signers) Asks (AnswersOcsp g.O.Office.signs signers) GivesCrl c.args.now before after
          (request_meaning c.in-Ok-read_request.request) _ _ _ _ c.reply.result c.in-Ok-read_request.ensures.ok made.0,
      made.1,
    ))
    _ _ c.reply.ensures.ends

pub returns-in-Ok-read_request-clause-calls : goal.returns-in-Ok-read_request-clause-calls
returns-in-Ok-read_request-clause-calls g c =
    serving_ends (RunsIn g.O.Office) (AsksIn g.O.Office) (AnswersOcspIn g.O.Office) (GivesCrlIn g.O.Office) c.args.now c.args.office.now c.reply.new.office
    (request_meaning c.in-Ok-read_request.request) _ _ _ _ c.reply.result c.in-Ok-read_request.ensures.ok c.reply.ensures.calls
