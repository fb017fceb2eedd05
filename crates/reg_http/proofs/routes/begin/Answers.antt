use Rattle.reg_io.specs.declared.begun.ReadyOrUnsigned.TheVariants.{Ready}
use Rattle.reg_http.specs.Meanings.{request_of_call}
use Rattle.reg_http.specs.RoutedRequests.{asked, ocsp_of}
use Rattle.reg_http.proofs.ByRecords.{begin_leads, begins_ocsp, begins_to}
use Rattle.reg_http.proofs.routes.begin.Goals as goal

pub returns-in-OcspByPost-clause-calls : goal.returns-in-OcspByPost-clause-calls
returns-in-OcspByPost-clause-calls g c =
    begins_to g.O.Office c.args.now _ _ (ocsp_of c.args.body.now) _ c.begun_answer.result (rw c.in-OcspByPost.is at c.in_ok-meaning_of.ensures)
    (begins_ocsp g.O.Office c.args.now _ _ c.args.body.now c.begin_ocsp.result c.begun_answer.result c.begin_ocsp.ensures.begins c.begun_answer.ensures)

pub returns-in-OcspByPost-clause-ok : goal.returns-in-OcspByPost-clause-ok
returns-in-OcspByPost-clause-ok g c =
    begin_leads g.O.Office c.args.now _ _ (asked c.args.method.now c.args.target.now c.args.body.now) c.begun_answer.result (returns-in-OcspByPost-clause-calls g c)

pub returns-in-OcspByGet-clause-calls : goal.returns-in-OcspByGet-clause-calls
returns-in-OcspByGet-clause-calls g c =
    begins_to g.O.Office c.args.now _ _ (ocsp_of c.in-OcspByGet.request.items) _ c.begun_answer-in-OcspByGet.result (rw c.in-OcspByGet.is at c.in_ok-meaning_of.ensures)
    (begins_ocsp g.O.Office c.args.now _ _ c.in-OcspByGet.request.items c.begin_ocsp-in-OcspByGet.result c.begun_answer-in-OcspByGet.result
    (rw c.deref.ensures.value at c.begin_ocsp-in-OcspByGet.ensures.begins) c.begun_answer-in-OcspByGet.ensures)

pub returns-in-OcspByGet-clause-ok : goal.returns-in-OcspByGet-clause-ok
returns-in-OcspByGet-clause-ok g c =
    begin_leads g.O.Office c.args.now _ _ (asked c.args.method.now c.args.target.now c.args.body.now) c.begun_answer-in-OcspByGet.result
    (returns-in-OcspByGet-clause-calls g c)

pub returns-in-Other-clause-calls : goal.returns-in-Other-clause-calls
returns-in-Other-clause-calls g c =
    begins_to g.O.Office c.args.now _ _ (request_of_call c.in-Other.call) _ (Ready c.respond.result) (rw c.in-Other.is at c.in_ok-meaning_of.ensures)
    c.respond.ensures

pub returns-in-Other-clause-ok : goal.returns-in-Other-clause-ok
returns-in-Other-clause-ok g c =
    begin_leads g.O.Office c.args.now _ _ (asked c.args.method.now c.args.target.now c.args.body.now) (Ready c.respond.result) (returns-in-Other-clause-calls g c)
