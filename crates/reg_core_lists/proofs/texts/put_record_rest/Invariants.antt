use Rattle.std.proofs.Common.{◌≡◌, ◌++◌, map, take}
use Rattle.std.specs.List.{flat_map}
use Rattle.reg_core_lists.specs.Fields.{field_of_text}
use Rattle.reg_core_lists.specs.Texts.{record_rest}
use Rattle.reg_core_lists.proofs.texts.put_record_rest.Given as goal

abbrev pub invariant-loop-field : goal.invariant-loop-field
invariant-loop-field l = l.out.items ≡ l.initial.out.items ++ flat_map record_rest (map field_of_text (take l.field-index l.fields))
