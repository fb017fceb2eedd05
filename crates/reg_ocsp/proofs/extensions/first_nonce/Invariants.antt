use Rattle.std.proofs.Common.{length}
use Rattle.std.specs.Prelude.{option_copied}
use Rattle.reg_ocsp.proofs.Loops.{LooksFor}
use Rattle.reg_ocsp.proofs.extensions.first_nonce.Given as goal

abbrev pub invariant-loop-rest : goal.invariant-loop-rest
invariant-loop-rest l = LooksFor (option_copied l.nonce) l.rest l.initial.rest

abbrev pub decreases-loop-rest : goal.decreases-loop-rest
decreases-loop-rest l = length l.rest
