use Rattle.std.proofs.Common.{arith}
use Rattle.reg_der.proofs.KeyIdentifiers.{seeks_next}
use Rattle.reg_der.proofs.identifiers.identifier_for.Goals as goal

pub loop-identifier-preserved : goal.loop-identifier-preserved
loop-identifier-preserved c =
    seeks_next c.args.number c.loop-identifier.rest.now c.in-Some.after.now c.args.bytes.now c.in-Some.identifier c.loop-identifier.invariant (omega (arith, c.in-Some.ensures.shorter)) c.in-Some.ensures.exact
    (omega (arith, c.if-identifier-number.false))
