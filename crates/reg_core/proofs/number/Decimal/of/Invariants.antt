use Rattle.reg_core.proofs.Numbers.{Writes}
use Rattle.reg_core.proofs.number.Decimal.of.Given as goal

abbrev pub invariant-loop-rest : goal.invariant-loop-rest
invariant-loop-rest l = Writes l.number l.rest l.start l.bytes

abbrev pub decreases-loop-rest : goal.decreases-loop-rest
decreases-loop-rest l = l.rest
