use Rattle.reg_io.proofs.PublicLaws as laws
use Rattle.reg_io.proofs.laws.delimiters_of_one_byte.Goals as goal

pub returns-clause-first : goal.returns-clause-first
returns-clause-first c = laws.first_delimiter_of_byte

pub returns-clause-none : goal.returns-clause-none
returns-clause-none c = laws.no_delimiter_of_byte
