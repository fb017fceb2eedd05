use Rattle.std.proofs.Common.{sym, ◌∙◌, eq-eqb}
use Rattle.std.proofs.lemmas.Bool.{false≢true}
use Rattle.reg_desk_files.proofs.Looks.{begins_with_letter}
use Rattle.reg_desk_files.proofs.file_check.begins_with.Goals as goal

pub returns-clause-none : goal.returns-clause-none
returns-clause-none g c clean other db held is =
    let letter = begins_with_letter _ _ c.in_ok-head.head (c.in_ok-head.ensures.value clean) db held is in
    false≢true (sym other ∙ eq-eqb _ _ letter)
