use Rattle.std.proofs.Common.{take}
use Rattle.std.specs.BTreeMap.{get}
use Rattle.std.specs.List.{AllByRecursion}
use Rattle.std.specs.Ordering.{nat_cmp}
use Rattle.reg_core.specs.Records.{request_in}
use Rattle.reg_core.specs.Sound.{NumberedFrom}
use Rattle.reg_core.specs.declared.rows.RequestRow.{RequestRow}
use Rattle.reg_core.specs.declared.rows.RevocationRow.{RevocationRow}
use Rattle.reg_audit.specs.Read.{FitsIn}
use Rattle.reg_audit.proofs.relations.revocations_fit.Given as goal

abbrev pub invariant-loop-row_index : goal.invariant-loop-row_index
invariant-loop-row_index l = NumberedFrom (λ (row : RequestRow). row.id) 1 l.requests
    → AllByRecursion (λ (row : RevocationRow). FitsIn l.last (get nat_cmp l.certificates row.serial) (request_in l.requests row.request) l.crls row) (take l.row_index l.revocations)
