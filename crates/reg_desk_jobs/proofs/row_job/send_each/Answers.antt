use Rattle.reg_desk_jobs.proofs.EachRow.{rows_begin, rows_cut, rows_end, rows_go_on}
use Rattle.reg_desk_jobs.proofs.row_job.send_each.Goals as goal

pub loop-init : goal.loop-init
loop-init g c = rows_begin _ _ _ _

pub loop-preserved : goal.loop-preserved
loop-preserved g c =
    let next = rw c.in-Line.is at c.in_ok-line.ensures.ok in
    let exchanged = rw c.deref.ensures.value at c.in-Ok.ensures.ok in
    rows_go_on _ _ _ _ _ _ _ _ _ _ _ _ _ _ _ c.loop.invariant next.0 next.1 exchanged c.both-is_done.ensures

pub returns-in-Cut : goal.returns-in-Cut
returns-in-Cut g c = rows_cut _ _ _ _ _ _ _ _ _ _ _ c.loop.invariant _ (rw c.in-Cut.is at c.in_ok-line.ensures.ok) c.failure_at_cut.ensures

pub returns-in-End : goal.returns-in-End
returns-in-End g c = rows_end _ _ _ _ _ _ _ _ _ _ _ c.loop.invariant _ (rw c.in-End.is at c.in_ok-line.ensures.ok) c.result_at_end.ensures
