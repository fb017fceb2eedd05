use Rattle.std.proofs.Common.{take}
use Rattle.std.specs.List.{AllByRecursion}
use Rattle.reg_audit.specs.Cells.{IsOfSomeRecord}
use Rattle.reg_audit.proofs.complete.check_are_of_some_record.Given as goal

abbrev pub invariant-loop-row : goal.invariant-loop-row
invariant-loop-row g l = AllByRecursion (IsOfSomeRecord g.T.RowKind.has_valid_serial g.T.RowKind.shown) (take l.row-index l.rows)
