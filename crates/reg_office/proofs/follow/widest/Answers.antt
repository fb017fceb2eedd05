use Rattle.std.proofs.Common.{◌∙◌, ap}
use Rattle.reg_core.specs.Policy.{Terms}
use Rattle.reg_office.proofs.follow.widest.Goals as goal

pub returns : goal.returns
returns c = c.schedule.ensures.schedule ∙ ap (λ (terms : Terms). terms.schedule) c.usual.ensures
