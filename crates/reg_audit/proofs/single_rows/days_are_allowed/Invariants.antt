use Rattle.std.proofs.Common.{take}
use Rattle.std.specs.List.{AllByRecursion}
use Rattle.reg_core.specs.Schedule.{IsDays}
use Rattle.reg_core.specs.declared.rows.OrderRow.{OrderRow}
use Rattle.reg_audit.proofs.single_rows.days_are_allowed.Given as goal

abbrev pub invariant-loop-row_index : goal.invariant-loop-row_index
invariant-loop-row_index l = AllByRecursion (λ (row : OrderRow). IsDays row.days) (take l.row_index l.orders)
