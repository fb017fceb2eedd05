use Rattle.reg_core.proofs.PublicLaws as laws
use Rattle.reg_core.proofs.laws.octets_in_order.Goals as goal

pub returns : goal.returns
returns c = laws.octets_in_order
