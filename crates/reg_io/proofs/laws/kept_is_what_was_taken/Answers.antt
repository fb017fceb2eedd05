use Rattle.reg_io.proofs.PublicLaws as laws
use Rattle.reg_io.proofs.laws.kept_is_what_was_taken.Goals as goal

pub returns-clause-all : goal.returns-clause-all
returns-clause-all c = laws.keeps_what_was_taken

pub returns-clause-parts : goal.returns-clause-parts
returns-clause-parts c = laws.splits_at_delimiter
