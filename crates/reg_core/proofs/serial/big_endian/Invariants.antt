use Rattle.std.proofs.Common.{◌≡◌, take}
use Rattle.reg_core.specs.Integer.{value}
use Rattle.reg_core.proofs.serial.big_endian.Given as goal

abbrev pub invariant-loop-byte : goal.invariant-loop-byte
invariant-loop-byte l = l.number ≡ value (take l.byte-index l.bytes)
