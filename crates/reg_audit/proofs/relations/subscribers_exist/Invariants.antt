use Rattle.std.proofs.Common.{length, take}
use Rattle.std.specs.List.{AllByRecursion}
use Rattle.reg_audit.proofs.Fits.{IsOneOf}
use Rattle.reg_core.specs.declared.rows.OrderRow.{OrderRow}
use Rattle.reg_audit.proofs.relations.subscribers_exist.Given as goal

abbrev pub invariant-loop-row_index : goal.invariant-loop-row_index
invariant-loop-row_index l = AllByRecursion (λ (row : OrderRow). IsOneOf row.subscriber (length l.subscribers)) (take l.row_index l.orders)
