use Rattle.std.proofs.Common.{inr}
use Rattle.reg_desk_jobs.proofs.ConversationLemmas.{all_under, exchanges_under}
use Rattle.reg_desk_jobs.proofs.at_job.exchange_lines_over.Goals as goal

pub returns-in-Ok-new : goal.returns-in-Ok-new
returns-in-Ok-new g c =
    let made = c.in-Ok-new.ensures in
    let same = all_under c.in-Ok-new.input _ (λ reader. g.R.Read.remaining reader.now) made.inner made.empty made.capacity in
    inr (_, _, _, _, exchanges_under _ _ _ _ _ _ _ _ _ _ c.exchange_lines.result same c.exchange_lines.ensures)
