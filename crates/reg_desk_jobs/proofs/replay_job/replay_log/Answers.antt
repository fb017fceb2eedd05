use Rattle.std.proofs.Common.{inr}
use Rattle.reg_desk_jobs.proofs.Replaying.{log_cut, log_goes_on, log_stops}
use Rattle.reg_desk_jobs.proofs.replay_job.replay_log.Goals as goal

pub returns-in-Err : goal.returns-in-Err
returns-in-Err g c =
    let next = rw c.in-Line.is at c.in_ok-line.ensures.ok in
    let stops = rw c.deref.ensures.value at c.in-Err.ensures in
    log_stops _ _ _ _ _ _ c.loop.invariant _ _ _ _ (λ failed. inr failed) (λ failed. failed) _ _ _ next.0 next.1 stops

pub returns-in-Cut : goal.returns-in-Cut
returns-in-Cut g c = log_cut _ _ _ _ _ _ _ c.loop.invariant (rw c.in-Cut.is at c.in_ok-line.ensures.ok)

pub loop-preserved : goal.loop-preserved
loop-preserved g c =
    let next = rw c.in-Line.is at c.in_ok-line.ensures.ok in
    let step = rw c.deref.ensures.value at c.in-Ok.ensures in
    log_goes_on _ _ _ _ _ _ c.loop.invariant _ _ next.0 next.1 step
