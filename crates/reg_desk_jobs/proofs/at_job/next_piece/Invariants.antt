use Rattle.reg_desk_jobs.proofs.ConversationLemmas.{Gathered}
use Rattle.reg_desk_jobs.proofs.at_job.next_piece.Given as goal

-- the lines so far
abbrev pub invariant-loop-count : goal.invariant-loop-count
invariant-loop-count g l = Gathered (g.R.Read.remaining l.initial.input) (g.R.Read.remaining l.input) l.text.items l.count
