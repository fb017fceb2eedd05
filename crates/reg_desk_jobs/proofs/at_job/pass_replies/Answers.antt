use Rattle.reg_desk_jobs.proofs.ConversationLemmas.{passes_one}
use Rattle.reg_desk_jobs.proofs.at_job.pass_replies.Goals as goal

pub loop-preserved : goal.loop-preserved
loop-preserved g c =
    passes_one _ _ _ _ _ _ _ c.in_ok-reply.reply.items _ _ _ c.loop.invariant c.in_ok-reply.ensures.ok (rw c.deref.ensures.value at c.in_ok-print_text.ensures.prints)
    (rw c.deref-in-loop.ensures.value at c.is_accepted.ensures) c.both-all_accepted.ensures
