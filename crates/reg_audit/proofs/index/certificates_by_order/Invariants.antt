use Rattle.std.proofs.Common.{◌≡◌, ◌==◌, ℕ, find, take}
use Rattle.std.specs.BTreeMap.{get}
use Rattle.std.specs.Ordering.{nat_cmp}
use Rattle.reg_core.specs.Sound.{KeysDiffer}
use Rattle.reg_core.specs.declared.rows.CertRow.{CertRow}
use Rattle.reg_audit.proofs.index.certificates_by_order.Given as goal

abbrev pub invariant-loop-row_index : goal.invariant-loop-row_index
invariant-loop-row_index l = record {
  differ : KeysDiffer (λ (row : CertRow). row.order) (take l.row_index l.certificates);
  found : (key : ℕ) → get nat_cmp l.found key ≡ find (λ (row : CertRow). row.order == key) (take l.row_index l.certificates);
}
