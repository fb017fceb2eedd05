use Rattle.std.proofs.Common.{arith}
use Rattle.reg_der.proofs.ValueLemmas.{none_is, found_is}
use Rattle.reg_der.proofs.tlv_reader.take.Goals as goal

pub returns-in_err-tag-clause-none : goal.returns-in_err-tag-clause-none
returns-in_err-tag-clause-none c = rw c.from_residual.ensures (none_is c.args.bytes.now c.in_err-tag.ensures.exact)

pub returns-clause-found : goal.returns-clause-found
returns-clause-found c =
    found_is c.args.bytes.now c.in_ok-tag.contents.now c.in_ok-tag.rest.now c.in_ok-tag.tag (λ i. omega (arith, c.type_inv.bytes i)) c.in_ok-tag.ensures.exact
