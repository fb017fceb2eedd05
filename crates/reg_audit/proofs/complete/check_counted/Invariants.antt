use Rattle.std.proofs.Common.{take}
use Rattle.reg_audit.specs.Cells.{CountedFrom}
use Rattle.reg_audit.proofs.complete.check_counted.Given as goal

abbrev pub invariant-loop-row_index : goal.invariant-loop-row_index
invariant-loop-row_index l = CountedFrom 1 (take l.row_index l.rows)
