use Rattle.reg_lines.proofs.FieldLemmas.{left_cut, left_uncut}
use Rattle.reg_lines.proofs.fields.Fields.next.Goals as goal

pub returns-in-Some : goal.returns-in-Some
returns-in-Some c = left_cut _ _ c.in_ok-text.text c.in-Some.space c.self.view_is c.in_ok-text.was c.in-Some.ensures

pub returns-in-None : goal.returns-in-None
returns-in-None c = left_uncut _ _ c.in_ok-text.text c.self.view_is c.in_ok-text.was c.in-None.ensures
