use Rattle.std.proofs.Common.{◌≡◌, List, map, take}
use Rattle.std.specs.List.{AllByRecursion}
use Rattle.reg_store_tables.proofs.rows.rows_in.Given as goal

abbrev pub invariant-loop-row : goal.invariant-loop-row
invariant-loop-row g l = (shown : List g.row.T-Record.Denot) → AllByRecursion g.T.RowKind.has_valid_serial shown → l.rows ≡ map g.T.RowKind.shown shown → l.found.items ≡ take l.row-index shown
