use Rattle.std.proofs.Common.{◌≡◌, filter, take}
use Rattle.reg_core_lists.specs.Filters.{keeps}
use Rattle.reg_core_lists.proofs.filter.Filter.kept.Given as goal

abbrev pub invariant-loop-row : goal.invariant-loop-row
invariant-loop-row l = l.kept.items ≡ filter (keeps l.self) (take l.row-index l.rows)
