use Rattle.std.proofs.Common.{◌≡◌, take}
use Rattle.reg_core.specs.Integer.{value}
use Rattle.reg_der.proofs.tlv_reader.number.Given as goal

abbrev pub invariant-loop-octet : goal.invariant-loop-octet
invariant-loop-octet l = l.number ≡ value (take l.octet-index l.octets)
