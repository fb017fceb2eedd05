use Rattle.reg_der.proofs.PublicLaws as laws
use Rattle.reg_der.proofs.laws.values_are_read.Goals as goal

pub returns-clause-reads : goal.returns-clause-reads
returns-clause-reads c = laws.value_takes

pub returns-clause-again : goal.returns-clause-again
returns-clause-again c = laws.value_again
