use Rattle.std.proofs.Common.{take}
use Rattle.reg_core.specs.Sound.{NumberedFrom}
use Rattle.reg_audit.proofs.ascending.in_order.Given as goal

abbrev pub invariant-loop-row_index : goal.invariant-loop-row_index
invariant-loop-row_index g l = NumberedFrom g.T.Numbered.number 1 (take l.row_index l.rows)
