use Rattle.std.proofs.Common.{◌≡◌, length}
use Rattle.reg_desk_service.specs.PageSchedules.{after_part}
use Rattle.reg_desk_service.proofs.confirmation.after_part.Given as goal

abbrev pub invariant-loop-rest : goal.invariant-loop-rest
invariant-loop-rest l = after_part l.part l.text ≡ after_part l.part l.rest

abbrev pub decreases-loop-rest : goal.decreases-loop-rest
decreases-loop-rest l = length l.rest
