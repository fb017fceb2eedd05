use Rattle.std.proofs.Common.{inr}
use Rattle.reg_desk_jobs.proofs.Replaying.{replays_under}
use Rattle.reg_desk_jobs.proofs.ConversationLemmas.{all_under}
use Rattle.reg_desk_jobs.proofs.replay_job.replay_over.Goals as goal

pub returns-in-Ok-new : goal.returns-in-Ok-new
returns-in-Ok-new g c =
    let made = c.in-Ok-new.ensures in
    let same = all_under c.in-Ok-new.log _ (λ reader. g.R.Read.remaining reader.now) made.inner made.empty made.capacity in
    inr (_, _, _, _, replays_under _ _ _ _ _ _ _ _ _ _ _ _ c.replay_log.result c.new-numbers.ensures.items same c.replay_log.ensures)
