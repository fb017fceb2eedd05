use Rattle.std.proofs.Common.{length}
use Rattle.reg_crl.proofs.CrlNumber.{LooksOn}
use Rattle.reg_crl.proofs.crl_reader.number_among.Given as goal

abbrev pub invariant-loop-rest : goal.invariant-loop-rest
invariant-loop-rest l = LooksOn l.rest l.extensions

abbrev pub decreases-loop-rest : goal.decreases-loop-rest
decreases-loop-rest l = length l.rest
