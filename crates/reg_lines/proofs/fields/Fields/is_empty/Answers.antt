use Rattle.reg_lines.proofs.FieldLemmas.{left_tested}
use Rattle.reg_lines.proofs.fields.Fields.is_empty.Goals as goal

pub returns : goal.returns
returns c = left_tested _ _ _ c.self.view_is c.is_none.ensures
