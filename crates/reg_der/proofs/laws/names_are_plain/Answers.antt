use Rattle.reg_der.proofs.PublicLaws as laws
use Rattle.reg_der.proofs.laws.names_are_plain.Goals as goal

pub returns : goal.returns
returns c = laws.names_are_plain
