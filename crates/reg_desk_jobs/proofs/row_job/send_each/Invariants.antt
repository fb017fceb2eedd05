use Rattle.reg_desk_jobs.proofs.EachRow.{RowsSoFar}
use Rattle.reg_desk_jobs.specs.RowTasks.{link_of}
use Rattle.reg_desk_jobs.proofs.row_job.send_each.Given as goal

-- the lines so far
abbrev pub invariant-loop : goal.invariant-loop
invariant-loop g l =
    RowsSoFar l.task (g.R.Read.remaining l.initial.rows)
    (link_of (g.S.Write.contents l.initial.outgoing) (g.C.Read.remaining l.initial.incoming))
    (g.W.Write.contents l.initial.writer)
    l.counter
    (g.R.Read.remaining l.rows)
    (link_of (g.S.Write.contents l.outgoing) (g.C.Read.remaining l.incoming))
    (g.W.Write.contents l.writer) l.is_done
