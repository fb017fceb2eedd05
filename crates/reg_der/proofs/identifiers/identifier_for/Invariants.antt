use Rattle.std.proofs.Common.{length}
use Rattle.reg_der.proofs.KeyIdentifiers.{Seeks}
use Rattle.reg_der.proofs.identifiers.identifier_for.Given as goal

abbrev pub invariant-loop-identifier : goal.invariant-loop-identifier
invariant-loop-identifier l = Seeks l.number l.rest l.initial.rest

abbrev pub decreases-loop-identifier : goal.decreases-loop-identifier
decreases-loop-identifier l = length l.rest
