use Rattle.reg_lines.specs.Meaning.{means_command}
use Rattle.reg_desk_service.proofs.control_lines.has_command.Goals as goal

pub returns-in-None : goal.returns-in-None
returns-in-None c = ((λ is. absurd cc), (λ has. absurd (c.in-None.ensures.none (means_command has.0) has.1)))
