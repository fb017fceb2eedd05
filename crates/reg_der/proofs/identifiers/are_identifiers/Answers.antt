use Rattle.std.proofs.Common.{arith}
use Rattle.reg_der.proofs.KeyIdentifiers.{left_next}
use Rattle.reg_der.proofs.identifiers.are_identifiers.Goals as goal

pub loop-rest-preserved : goal.loop-rest-preserved
loop-rest-preserved c =
    left_next c.args.bytes.now c.loop-rest.rest.now c.in-Some.after.now c.in-Some.field-0-0 c.loop-rest.invariant (omega (arith, c.in-Some.ensures.shorter)) c.in-Some.ensures.exact
