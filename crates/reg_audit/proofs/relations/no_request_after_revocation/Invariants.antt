use Rattle.std.proofs.Common.{take}
use Rattle.std.specs.BTreeMap.{get}
use Rattle.std.specs.List.{AllByRecursion}
use Rattle.std.specs.Ordering.{nat_cmp}
use Rattle.reg_core.specs.declared.rows.RequestRow.{RequestRow}
use Rattle.reg_audit.specs.Read.{IsBefore}
use Rattle.reg_audit.proofs.relations.no_request_after_revocation.Given as goal

abbrev pub invariant-loop-row_index : goal.invariant-loop-row_index
invariant-loop-row_index l = AllByRecursion (λ (row : RequestRow). IsBefore row (get nat_cmp l.revocations row.serial)) (take l.row_index l.requests)
