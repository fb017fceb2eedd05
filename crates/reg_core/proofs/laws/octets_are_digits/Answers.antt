use Rattle.reg_core.proofs.PublicLaws as laws
use Rattle.reg_core.proofs.laws.octets_are_digits.Goals as goal

pub returns-clause-places : goal.returns-clause-places
returns-clause-places c = laws.octets_are_places

pub returns-clause-below : goal.returns-clause-below
returns-clause-below c = laws.octets_are_below

pub returns-clause-zeros : goal.returns-clause-zeros
returns-clause-zeros c = laws.zeros_count_nothing

pub returns-clause-one : goal.returns-clause-one
returns-clause-one c = laws.one_spelling

pub returns-clause-lowest : goal.returns-clause-lowest
returns-clause-lowest c = laws.octets_are_lowest
