-- The laws that proofs of other crates cite. Each is stated in specs/, and a function of `laws` ensures it.
use Rattle.reg_http_head.specs.Laws.{IsOneResponseHead}
use Rattle.reg_http_head.proofs.LawLemmas as laws

pub one_response_head : IsOneResponseHead
one_response_head = laws.one_response_head
