use Rattle.std.proofs.Common.{◌≡◌, take}
use Rattle.reg_audit.proofs.derived_rows.first_difference.Given as goal

abbrev pub invariant-loop-row_index : goal.invariant-loop-row_index
invariant-loop-row_index g l =
    take l.row_index l.stored ≡ take l.row_index l.wanted
