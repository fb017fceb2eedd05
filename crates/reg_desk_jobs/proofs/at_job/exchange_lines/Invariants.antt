use Rattle.reg_desk_jobs.proofs.ConversationLemmas.{SoFar}
use Rattle.reg_desk_jobs.specs.declared.at_job.PieceEnd.TheVariants as piece_end
use Rattle.reg_desk_jobs.proofs.at_job.exchange_lines.Given as goal

-- the talk so far
abbrev pub invariant-loop : goal.invariant-loop
invariant-loop g l =
    SoFar (g.R.Read.remaining l.initial.input) (g.S.Write.contents l.initial.outgoing) (g.C.Read.remaining l.initial.incoming) (g.W.Write.contents l.initial.writer)
    l.counter piece_end.Full (g.R.Read.remaining l.input) (g.S.Write.contents l.outgoing) (g.C.Read.remaining l.incoming) (g.W.Write.contents l.writer) l.is_accepted
