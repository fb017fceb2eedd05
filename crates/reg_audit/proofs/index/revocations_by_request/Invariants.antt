use Rattle.std.proofs.Common.{◌≡◌, ◌==◌, ℕ, find, take}
use Rattle.std.specs.BTreeMap.{get}
use Rattle.std.specs.Ordering.{nat_cmp}
use Rattle.reg_core.specs.Sound.{KeysDiffer}
use Rattle.reg_core.specs.declared.rows.RevocationRow.{RevocationRow}
use Rattle.reg_audit.proofs.index.revocations_by_request.Given as goal

abbrev pub invariant-loop-row_index : goal.invariant-loop-row_index
invariant-loop-row_index l = record {
  differ : KeysDiffer (λ (row : RevocationRow). row.request) (take l.row_index l.revocations);
  found : (key : ℕ) → get nat_cmp l.found key ≡ find (λ (row : RevocationRow). row.request == key) (take l.row_index l.revocations);
}
