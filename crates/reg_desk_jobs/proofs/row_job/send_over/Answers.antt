use Rattle.std.proofs.Common.{inr}
use Rattle.reg_desk_jobs.proofs.EachRow.{rows_under}
use Rattle.reg_desk_jobs.proofs.ConversationLemmas.{all_under}
use Rattle.reg_desk_jobs.proofs.row_job.send_over.Goals as goal

pub returns-in-Ok-new : goal.returns-in-Ok-new
returns-in-Ok-new g c =
    let made = c.in-Ok-new.ensures in
    let same = all_under c.in-Ok-new.rows _ (λ reader. g.R.Read.remaining reader.now) made.inner made.empty made.capacity in
    inr (_, _, rows_under _ _ _ _ _ _ _ _ _ _ same c.send_each.ensures)
