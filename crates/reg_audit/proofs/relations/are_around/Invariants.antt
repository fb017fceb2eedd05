use Rattle.std.proofs.Common.{take}
use Rattle.reg_audit.specs.Read.{AreAround}
use Rattle.reg_audit.proofs.relations.are_around.Given as goal

abbrev pub invariant-loop-crl : goal.invariant-loop-crl
invariant-loop-crl l = AreAround l.first l.at (take l.crl-index l.crls)
