use Rattle.reg_der.proofs.PublicLaws as laws
use Rattle.reg_der.proofs.laws.no_two_prefixes.Goals as goal

pub returns : goal.returns
returns c = laws.no_two_prefixes
