use Rattle.reg_desk_jobs.proofs.ConversationLemmas.{gathers_one}
use Rattle.reg_desk_jobs.proofs.at_job.next_piece.Goals as goal

pub loop-count-preserved : goal.loop-count-preserved
loop-count-preserved g c =
    let next = rw c.in-Line.is at c.in_ok-line.ensures.ok in
    gathers_one _ _ _ _ _ _ c.in-Line.line.items c.loop-count.invariant next.0 next.1 (rw c.deref.ensures.value at c.in-Ok.ensures.items)
