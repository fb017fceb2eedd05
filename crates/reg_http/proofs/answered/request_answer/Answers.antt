use Rattle.reg_http.proofs.answered.request_answer.Goals as goal

pub returns : goal.returns
returns c = λ i. record (c.outcome_answer-answered.ensures i) { named = c.entered_request-named.ensures i }
