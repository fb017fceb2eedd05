use Rattle.std.proofs.Common.{arith}
use Rattle.reg_der.proofs.Octets.{value-fits}
use Rattle.reg_der.proofs.tlv_reader.number.Goals as goal

pub overflow_mul-number : goal.overflow_mul-number
overflow_mul-number c =
    omega (arith, c.loop-octet.invariant, value-fits c.args.octets.now c.loop-octet.octet-index (λ i. omega (arith, c.type_inv.octets i)) c.requires c.loop-octet-test.true)

pub overflow_add-number : goal.overflow_add-number
overflow_add-number c =
    omega (arith, c.loop-octet.invariant, value-fits c.args.octets.now c.loop-octet.octet-index (λ i. omega (arith, c.type_inv.octets i)) c.requires c.loop-octet-test.true)
