use Rattle.std.proofs.Common.{length}
use Rattle.reg_ocsp.specs.Views.{ids_model}
use Rattle.reg_ocsp.proofs.Loops.{Lists}
use Rattle.reg_ocsp.proofs.ocsp_request.ids.Given as goal

abbrev pub invariant-loop-rest : goal.invariant-loop-rest
invariant-loop-rest l = Lists (ids_model l.ids.items) l.rest l.initial.rest

abbrev pub decreases-loop-rest : goal.decreases-loop-rest
decreases-loop-rest l = length l.rest
