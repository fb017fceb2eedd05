use Rattle.std.proofs.Common.{◌≡◌, ◌++◌, take}
use Rattle.std.specs.List.{flat_map}
use Rattle.reg_core_lists.specs.Texts.{row_rest}
use Rattle.reg_core_lists.proofs.texts.put_json_rest.Given as goal

abbrev pub invariant-loop-row : goal.invariant-loop-row
invariant-loop-row l = l.out.items ≡ l.initial.out.items ++ flat_map row_rest (take l.row-index l.rows)
