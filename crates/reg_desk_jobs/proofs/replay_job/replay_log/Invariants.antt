use Rattle.reg_desk_jobs.proofs.Replaying.{LogSoFar}
use Rattle.reg_desk_jobs.specs.Replays.{state_of}
use Rattle.reg_desk_jobs.proofs.replay_job.replay_log.Given as goal

-- the log so far
abbrev pub invariant-loop : goal.invariant-loop
invariant-loop g l =
    LogSoFar (g.R.Read.remaining l.initial.log)
    (state_of (g.S.Write.contents l.initial.outgoing) (g.C.Read.remaining l.initial.incoming) (g.W.Write.contents l.initial.writer) l.initial.numbers.items)
    l.counter
    (g.R.Read.remaining l.log)
    (state_of (g.S.Write.contents l.outgoing) (g.C.Read.remaining l.incoming) (g.W.Write.contents l.writer) l.numbers.items)
