use Rattle.reg_der.proofs.PublicLaws as laws
use Rattle.reg_der.proofs.laws.values_have_sizes.Goals as goal

pub returns : goal.returns
returns c = laws.value_size
