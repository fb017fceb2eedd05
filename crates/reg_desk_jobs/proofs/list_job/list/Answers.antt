use Rattle.std.proofs.Common.{rules}
use Rattle.reg_desk_jobs.proofs.list_job.list.Goals as goal

pub returns-in_err-register : goal.returns-in_err-register
returns-in_err-register g c = let unopened = rw c.as_str-path.ensures at c.in_err-register.ensures.err in search rules
