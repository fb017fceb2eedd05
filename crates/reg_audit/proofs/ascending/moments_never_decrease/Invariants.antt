use Rattle.std.proofs.Common.{◌≤◌, ℕ, take}
use Rattle.std.specs.List.{AllByRecursion}
use Rattle.reg_core.specs.Sound.{NeverDecreases}
use Rattle.reg_audit.proofs.ascending.moments_never_decrease.Given as goal

abbrev pub invariant-loop-row_index : goal.invariant-loop-row_index
invariant-loop-row_index g l = record {
  falls : NeverDecreases g.T.Dated.moment (take l.row_index l.rows);
  top : (low : ℕ) → AllByRecursion (λ row. g.T.Dated.moment row ≤ low) (take l.row_index l.rows) → l.latest ≤ low;
  latest : AllByRecursion (λ row. g.T.Dated.moment row ≤ l.latest) (take l.row_index l.rows);
}
