use Rattle.std.proofs.Common.{◌≡◌, ◌++◌, take}
use Rattle.std.specs.List.{flat_map}
use Rattle.reg_desk_service.specs.Log.{quoted_byte}
use Rattle.reg_desk_service.proofs.log_lines.put_escaped.Given as goal

abbrev pub invariant-loop-byte : goal.invariant-loop-byte
invariant-loop-byte l = l.line.items ≡ l.initial.line.items ++ flat_map quoted_byte (take l.byte-index l.text)
