use Rattle.std.proofs.Common.{◌≡◌, filter, map, take}
use Rattle.reg_audit.specs.Crls.{lists_row, listed_entry}
use Rattle.reg_audit.proofs.crls.listed_by.Given as goal

abbrev pub invariant-loop-row : goal.invariant-loop-row
invariant-loop-row l = l.entries.items ≡ map listed_entry (filter (lists_row l.number) (take l.row-index l.listed))
