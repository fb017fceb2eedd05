use Rattle.std.proofs.Common.{arith}
use Rattle.reg_core.proofs.Numbers.{writes_last, writes_more, writes_none, decimal-is, decimal-some}
use Rattle.reg_core.proofs.number.Decimal.of.Goals as goal

pub loop-rest-init : goal.loop-rest-init
loop-rest-init c = writes_none c.args.number c.ranges.number.fits

pub overflow_sub-start : goal.overflow_sub-start
overflow_sub-start c = omega (arith, c.loop-rest.invariant.room, decimal-some c.loop-rest.rest c.loop-rest.auto.rest-fits.fits)

pub loop-rest-preserved : goal.loop-rest-preserved
loop-rest-preserved c = writes_more c.args.number c.loop-rest.rest c.loop-rest.start c.loop-rest.bytes c.loop-rest.invariant c.loop-rest-test.true c.loop-rest.auto.rest-fits.fits

pub overflow_sub-start-2 : goal.overflow_sub-start-2
overflow_sub-start-2 c = omega (arith, c.loop-rest.invariant.room, decimal-some c.loop-rest.rest c.loop-rest.auto.rest-fits.fits)

pub invariant_of-result : goal.invariant_of-result
invariant_of-result c =
    let w = writes_last c.args.number c.loop-rest.rest c.loop-rest.start c.loop-rest.bytes c.loop-rest.invariant (omega arith) in
    (w.within, w.size, w.zeros)

pub returns-clause-text : goal.returns-clause-text
returns-clause-text c = (writes_last c.args.number c.loop-rest.rest c.loop-rest.start c.loop-rest.bytes c.loop-rest.invariant (omega arith)).text

pub returns-clause-reads_back : goal.returns-clause-reads_back
returns-clause-reads_back c small = rw (returns-clause-text c) (decimal-is c.args.number small)
