use Rattle.reg_core.proofs.PublicLaws as laws
use Rattle.reg_core.proofs.laws.texts_are_read.Goals as goal

pub returns-clause-numbers : goal.returns-clause-numbers
returns-clause-numbers c = laws.numbers_are_read

pub returns-clause-serials : goal.returns-clause-serials
returns-clause-serials c = laws.serials_are_read

pub returns-clause-written_numbers : goal.returns-clause-written_numbers
returns-clause-written_numbers c = laws.written_numbers_are_read

pub returns-clause-written_serials : goal.returns-clause-written_serials
returns-clause-written_serials c = laws.written_serials_are_read
