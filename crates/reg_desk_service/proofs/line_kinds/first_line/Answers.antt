use Rattle.reg_desk_service.proofs.LineKinds.{has_first}
use Rattle.reg_desk_service.proofs.line_kinds.first_line.Goals as goal

pub returns-in-None : goal.returns-in-None
returns-in-None c = absurd (has_first c.args.lines.now c.in-None.ensures c.requires)
