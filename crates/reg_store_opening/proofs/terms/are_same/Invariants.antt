use Rattle.std.proofs.Common.{◌≡◌, ◌↔◌, length}
use Rattle.sqlite_schema.specs.Code.{terms_in}
use Rattle.reg_store_opening.proofs.terms.are_same.Given as goal

abbrev pub invariant-loop-left_roots : goal.invariant-loop-left_roots
invariant-loop-left_roots l = (terms_in l.left l.left_roots ≡ terms_in l.right l.right_roots) ↔ (terms_in l.left l.fn.left_roots ≡ terms_in l.right l.fn.right_roots)

abbrev pub decreases-loop-left_roots : goal.decreases-loop-left_roots
decreases-loop-left_roots l = length l.left_roots
