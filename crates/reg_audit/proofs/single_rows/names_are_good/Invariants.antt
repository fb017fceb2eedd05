use Rattle.std.proofs.Common.{take}
use Rattle.std.specs.List.{AllByRecursion}
use Rattle.reg_core.specs.Label.{IsName}
use Rattle.reg_core.specs.declared.rows.SubscriberRow.{SubscriberRow}
use Rattle.reg_audit.proofs.single_rows.names_are_good.Given as goal

abbrev pub invariant-loop-row_index : goal.invariant-loop-row_index
invariant-loop-row_index l = AllByRecursion (λ (row : SubscriberRow). IsName row.name) (take l.row_index l.subscribers)
