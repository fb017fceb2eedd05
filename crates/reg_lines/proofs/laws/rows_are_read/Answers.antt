use Rattle.reg_lines.proofs.PublicLaws as laws
use Rattle.reg_lines.proofs.laws.rows_are_read.Goals as goal

pub returns-clause-read : goal.returns-clause-read
returns-clause-read c = laws.register_read

pub returns-clause-means : goal.returns-clause-means
returns-clause-means c = laws.row_spelled
