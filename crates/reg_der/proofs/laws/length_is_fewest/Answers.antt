use Rattle.reg_der.proofs.PublicLaws as laws
use Rattle.reg_der.proofs.laws.length_is_fewest.Goals as goal

pub returns : goal.returns
returns c = laws.length_is_fewest
