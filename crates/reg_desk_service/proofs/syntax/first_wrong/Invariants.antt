use Rattle.std.proofs.Common.{◌≡◌, drop}
use Rattle.reg_desk_service.specs.Syntax.{first_wrong}
use Rattle.reg_desk_service.proofs.syntax.first_wrong.Given as goal

-- what is wrong among the fields that are left is what is wrong among all
abbrev pub invariant-loop-field : goal.invariant-loop-field
invariant-loop-field l = first_wrong (drop l.field-index l.expected) l.fields ≡ first_wrong l.expected l.initial.fields
