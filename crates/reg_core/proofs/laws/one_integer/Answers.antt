use Rattle.reg_core.proofs.PublicLaws as laws
use Rattle.reg_core.proofs.laws.one_integer.Goals as goal

pub returns-clause-spelled : goal.returns-clause-spelled
returns-clause-spelled c = laws.integer_is

pub returns-clause-one : goal.returns-clause-one
returns-clause-one c = laws.one_integer

pub returns-clause-number : goal.returns-clause-number
returns-clause-number c = laws.one_number

pub returns-clause-short : goal.returns-clause-short
returns-clause-short c = laws.integers_are_short
