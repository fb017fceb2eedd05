use Rattle.reg_io.proofs.PublicLaws as laws
use Rattle.reg_io.proofs.laws.runs_go_on.Goals as goal

pub returns-clause-runs : goal.returns-clause-runs
returns-clause-runs g c = laws.answered_append g.O.AnswersInTurn.answers

pub returns-clause-steps : goal.returns-clause-steps
returns-clause-steps g c = laws.answered_push g.O.AnswersInTurn.answers
