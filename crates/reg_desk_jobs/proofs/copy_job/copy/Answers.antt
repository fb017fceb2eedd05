use Rattle.std.proofs.Common.{inr}
use Rattle.reg_desk_jobs.proofs.copy_job.copy.Goals as goal

pub returns : goal.returns
returns g c =
    inr (c.in_ok-bytes.bytes, c.millis_since-millis.result, c.in_ok-bytes.ensures.ok, c.print_line.ensures _ c.copied_line.ensures)
