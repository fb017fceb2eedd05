use Rattle.std.proofs.Common.{arith}
use Rattle.reg_ocsp.proofs.RequestLaws.{is_found, is_malformed, is_answerable, is_some, is_repeated}
use Rattle.reg_ocsp.proofs.ocsp_request.read_request.Goals as goal

pub returns-clause-found : goal.returns-clause-found
returns-clause-found c = is_found c.args.bytes.now c.request.result (λ i. omega (arith, c.type_inv.bytes i)) c.request.ensures

pub returns-clause-malformed : goal.returns-clause-malformed
returns-clause-malformed c = is_malformed c.args.bytes.now c.request.result c.request.ensures

pub returns-clause-answerable : goal.returns-clause-answerable
returns-clause-answerable c =
    is_answerable c.args.bytes.now c.request.result (is_found c.args.bytes.now c.request.result (λ i. omega (arith, c.type_inv.bytes i)) c.request.ensures)

pub returns-clause-some : goal.returns-clause-some
returns-clause-some c =
    is_some c.args.bytes.now c.request.result (is_found c.args.bytes.now c.request.result (λ i. omega (arith, c.type_inv.bytes i)) c.request.ensures)

pub returns-clause-nonce : goal.returns-clause-nonce
returns-clause-nonce c =
    is_repeated c.args.bytes.now c.request.result (is_found c.args.bytes.now c.request.result (λ i. omega (arith, c.type_inv.bytes i)) c.request.ensures)
