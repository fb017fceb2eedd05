use Rattle.std.proofs.Common.{◌≡◌, ◌+◌, ◌++◌, take}
use Rattle.sqlite_catalog.specs.Change.{automatics}
use Rattle.reg_store_opening.proofs.expected_schema.add_keys.Given as goal

abbrev pub invariant-loop-at : goal.invariant-loop-at
invariant-loop-at l = l.indexes ≡ l.fn.indexes ++ automatics l.table 0 (l.table.tree + 1) (take l.at l.table.uniques)
