use Rattle.std.proofs.Common.{arith, ap, length}
use Rattle.reg_der.proofs.ValueLemmas.{length-tlv_at_least}
use Rattle.reg_der.proofs.identifiers.first_identifier.Goals as goal

pub returns-clause-shorter : goal.returns-clause-shorter
returns-clause-shorter c =
    let found = c.in_ok-value.ensures.found in
    let size = length-tlv_at_least c.in_ok-value.value.tag c.in_ok-value.value.contents.now in
    omega (arith, c.in_ok-value.ensures.shorter, ap length found.0.spelled, size)
