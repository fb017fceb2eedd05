use Rattle.std.proofs.Common.{take}
use Rattle.std.specs.List.{AllByRecursion}
use Rattle.reg_core.specs.Records.{order_in}
use Rattle.reg_core.specs.Sound.{NumberedFrom}
use Rattle.reg_core.specs.declared.rows.CertRow.{CertRow}
use Rattle.reg_core.specs.declared.rows.OrderRow.{OrderRow}
use Rattle.reg_audit.specs.Read.{IsAsOrdered}
use Rattle.reg_audit.proofs.relations.are_as_ordered.Given as goal

abbrev pub invariant-loop-row_index : goal.invariant-loop-row_index
invariant-loop-row_index l = NumberedFrom (λ (row : OrderRow). row.id) 1 l.orders → AllByRecursion (λ (row : CertRow). IsAsOrdered row (order_in l.orders row.order)) (take l.row_index l.certificates)
