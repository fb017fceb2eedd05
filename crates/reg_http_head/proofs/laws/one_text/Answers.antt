use Rattle.reg_http_head.proofs.LawLemmas.{one_text}
use Rattle.reg_http_head.proofs.laws.one_text.Goals as goal

pub returns : goal.returns
returns c = one_text
