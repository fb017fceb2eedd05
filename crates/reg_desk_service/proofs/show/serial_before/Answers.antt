use Rattle.std.proofs.Common.{arith}
use Rattle.reg_desk_service.proofs.SerialBytes.{begins, borrows, never_ends, reads_before}
use Rattle.reg_desk_service.proofs.show.serial_before.Goals as goal

pub loop-index-init : goal.loop-index-init
loop-index-init c = begins _ c.args.serial c.bytes20-bytes.ensures.bytes c.bytes20-bytes.ensures.value

pub loop-index-preserved : goal.loop-index-preserved
loop-index-preserved c = borrows c.loop-index.bytes c.loop-index.index c.args.serial c.loop-index.invariant c.loop-index-test.true c.if-bytes-at-gt0.false

pub returns-then-bytes-at-gt0-clause-before : goal.returns-then-bytes-at-gt0-clause-before
returns-then-bytes-at-gt0-clause-before c =
    reads_before c.from_bytes20.result c.loop-index.bytes c.loop-index.index c.args.serial c.loop-index.invariant c.loop-index-test.true
    c.if-bytes-at-gt0.true c.bytes20-bytes.ensures.in_range c.from_bytes20.ensures

pub returns-clause-before : goal.returns-clause-before
returns-clause-before c =
    never_ends c.loop-index.bytes c.loop-index.index c.args.serial c.loop-index.invariant (omega (arith, c.loop-index-test.false, c.loop-index.auto.index-end))
    c.bytes20-bytes.ensures.in_range
