use Rattle.reg_desk_jobs.proofs.NextLines.{next_is}
use Rattle.reg_desk_jobs.proofs.at_job.next_line.Goals as goal

pub returns-in-Ok-clause-ok : goal.returns-in-Ok-clause-ok
returns-in-Ok-clause-ok g c = next_is _ _ _ c.next_of.result c.in-Ok.ensures.taken c.in-Ok.ensures.bytes c.next_of.ensures
