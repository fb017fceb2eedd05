use Rattle.std.proofs.Common.{◌≡◌, ◌≤◌, filter, length, take}
use Rattle.reg_audit.specs.DerivedAsRead.{same_letter}
use Rattle.reg_audit.specs.declared.derived_rows.Standing.{Standing}
use Rattle.reg_audit.proofs.derived_rows.count_of.Given as goal

abbrev pub invariant-loop-row : goal.invariant-loop-row
invariant-loop-row l = record {
  within : l.count ≤ l.row-index;
  count : l.count ≡ length (filter (λ (row : Standing). same_letter row.letter l.letter) (take l.row-index l.rows));
}
