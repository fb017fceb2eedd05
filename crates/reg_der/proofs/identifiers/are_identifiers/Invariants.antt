use Rattle.std.proofs.Common.{length}
use Rattle.reg_der.proofs.KeyIdentifiers.{AreLeft}
use Rattle.reg_der.proofs.identifiers.are_identifiers.Given as goal

abbrev pub invariant-loop-rest : goal.invariant-loop-rest
invariant-loop-rest l = AreLeft l.rest l.initial.rest

abbrev pub decreases-loop-rest : goal.decreases-loop-rest
decreases-loop-rest l = length l.rest
