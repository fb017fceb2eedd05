use Rattle.std.proofs.Common.{◌≡◌, ◌↔◌, length}
use Rattle.reg_store_opening.proofs.same.are_same.Given as goal

abbrev pub invariant-loop-left : goal.invariant-loop-left
invariant-loop-left g l = (l.left ≡ l.right) ↔ (l.fn.left ≡ l.fn.right)

abbrev pub decreases-loop-left : goal.decreases-loop-left
decreases-loop-left g l = length l.left
