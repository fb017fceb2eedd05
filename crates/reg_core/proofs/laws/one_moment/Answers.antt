use Rattle.reg_core.proofs.PublicLaws as laws
use Rattle.reg_core.proofs.laws.one_moment.Goals as goal

pub returns : goal.returns
returns c = laws.one_moment
