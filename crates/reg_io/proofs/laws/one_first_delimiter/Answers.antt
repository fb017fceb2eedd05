use Rattle.reg_io.proofs.PublicLaws as laws
use Rattle.reg_io.proofs.laws.one_first_delimiter.Goals as goal

pub returns-clause-one : goal.returns-clause-one
returns-clause-one c = laws.one_first_delimiter

pub returns-clause-longer : goal.returns-clause-longer
returns-clause-longer c = laws.first_delimiter_of_append

pub returns-clause-shorter : goal.returns-clause-shorter
returns-clause-shorter c = laws.first_delimiter_in_prefix

pub returns-clause-none : goal.returns-clause-none
returns-clause-none c = laws.no_delimiter_in_prefix
