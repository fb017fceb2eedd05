use Rattle.std.proofs.Common.{◌≤◌, ℕ, take}
use Rattle.std.specs.List.{AllByRecursion}
use Rattle.reg_core.specs.Sound.{NeverDecreases}
use Rattle.reg_core.specs.declared.rows.RevocationRow.{RevocationRow}
use Rattle.reg_audit.proofs.ascending.firsts_never_decrease.Given as goal

abbrev pub invariant-loop-row_index : goal.invariant-loop-row_index
invariant-loop-row_index l = record {
  falls : NeverDecreases (λ (row : RevocationRow). row.first) (take l.row_index l.revocations);
  top : (low : ℕ) → AllByRecursion (λ (row : RevocationRow). row.first ≤ low) (take l.row_index l.revocations) → l.latest ≤ low;
  latest : AllByRecursion (λ (row : RevocationRow). row.first ≤ l.latest) (take l.row_index l.revocations);
}
