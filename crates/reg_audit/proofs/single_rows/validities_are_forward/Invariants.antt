use Rattle.std.proofs.Common.{◌≤◌, take}
use Rattle.std.specs.List.{AllByRecursion}
use Rattle.reg_core.specs.declared.rows.CertRow.{CertRow}
use Rattle.reg_audit.proofs.single_rows.validities_are_forward.Given as goal

abbrev pub invariant-loop-row_index : goal.invariant-loop-row_index
invariant-loop-row_index l = AllByRecursion (λ (row : CertRow). row.not_before ≤ row.not_after) (take l.row_index l.certificates)
