use Rattle.std.proofs.Common.{subst}
use Rattle.reg_http_head.specs.Response.{Response}
use Rattle.reg_http.specs.Exchanges.{AnswersText}
use Rattle.reg_http.proofs.exchange.Exchange.finished.Goals as goal

pub returns-clause-answer_text : goal.returns-clause-answer_text
returns-clause-answer_text c =
    let P : Response → Type 0 = λ it. AnswersText c.args.now it c.of.result in
    subst P c.ocsp_answer.ensures c.of.ensures.effects.3
