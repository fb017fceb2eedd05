use Rattle.reg_der.proofs.PublicLaws as laws
use Rattle.reg_der.proofs.laws.identifiers_follow.Goals as goal

pub returns : goal.returns
returns c = laws.identifiers_follow
