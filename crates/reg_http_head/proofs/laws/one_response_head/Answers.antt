use Rattle.reg_http_head.proofs.LawLemmas.{one_response_head}
use Rattle.reg_http_head.proofs.laws.one_response_head.Goals as goal

pub returns : goal.returns
returns c = one_response_head
