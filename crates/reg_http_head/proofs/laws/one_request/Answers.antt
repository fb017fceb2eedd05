use Rattle.reg_http_head.proofs.LawLemmas.{one_request}
use Rattle.reg_http_head.proofs.laws.one_request.Goals as goal

pub returns : goal.returns
returns c = one_request
