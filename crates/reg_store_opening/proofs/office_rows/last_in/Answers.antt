use Rattle.reg_store_opening.proofs.ScheduleRows.{last_judged}
use Rattle.reg_store_opening.proofs.office_rows.last_in.Goals as goal

pub returns : goal.returns
returns c = last_judged c.args.row.now 5 c.clock_moment_at.result c.clock_moment_at.ensures.read c.clock_moment_at.ensures.in_column c.clock_moment_at.ensures.early
