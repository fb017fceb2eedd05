use Rattle.std.proofs.Common.{◌≡◌, None, take}
use Rattle.std.specs.List.{find}
use Rattle.reg_desk_service.specs.RowLookUps.{has_key}
use Rattle.reg_desk_service.proofs.show.row_among.Given as goal

-- none of the rows so far is it
abbrev pub invariant-loop-row : goal.invariant-loop-row
invariant-loop-row l = find (has_key l.fn.shown) (take l.row-index l.rows) ≡ None
