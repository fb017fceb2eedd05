use Rattle.reg_io.proofs.PublicLaws as laws
use Rattle.reg_io.proofs.laws.prefixes_of_two_parts.Goals as goal

pub returns-clause-first : goal.returns-clause-first
returns-clause-first c = laws.front_of_first

pub returns-clause-second : goal.returns-clause-second
returns-clause-second c = laws.front_of_second
