use Rattle.std.proofs.Common.{rules}
use Rattle.reg_desk_jobs.proofs.open_job.serve_open.Goals as goal

pub returns-in_err-office : goal.returns-in_err-office
returns-in_err-office g c = let unopened = rw c.as_str-path.ensures at c.in_err-office.ensures.err in search rules
