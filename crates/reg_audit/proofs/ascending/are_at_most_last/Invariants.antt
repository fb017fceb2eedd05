use Rattle.std.proofs.Common.{◌≤◌, take}
use Rattle.std.specs.List.{AllByRecursion}
use Rattle.reg_audit.proofs.ascending.are_at_most_last.Given as goal

abbrev pub invariant-loop-row_index : goal.invariant-loop-row_index
invariant-loop-row_index g l = AllByRecursion (λ row. g.T.Dated.moment row ≤ l.last) (take l.row_index l.rows)
