use Rattle.reg_lines.proofs.RowLemmas.{row_four}
use Rattle.reg_lines.proofs.rows.four_fields.Goals as goal

pub returns : goal.returns
returns c =
    row_four _ _ _ _ _ _ _ c.get.ensures.value c.get-2.ensures.value c.get-3.ensures.value c.get-4.ensures.value c.get-5.ensures.value c.four_of.ensures
