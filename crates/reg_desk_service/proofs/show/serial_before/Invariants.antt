use Rattle.reg_desk_service.proofs.SerialBytes.{IsBorrowing}
use Rattle.reg_desk_service.proofs.show.serial_before.Given as goal

abbrev pub invariant-loop-index : goal.invariant-loop-index
invariant-loop-index l = IsBorrowing l.fn.serial l.index l.bytes
