use Rattle.reg_desk_jobs.specs.Conversations.{PassesReplies}
use Rattle.reg_desk_jobs.proofs.at_job.pass_replies.Given as goal

-- the replies so far
abbrev pub invariant-loop : goal.invariant-loop
invariant-loop g l =
    PassesReplies (g.C.Read.remaining l.initial.incoming) (g.C.Read.remaining l.incoming) (g.W.Write.contents l.initial.writer) (g.W.Write.contents l.writer)
    l.counter l.all_accepted
