use Rattle.reg_desk_jobs.proofs.PrintedTexts.{line_and_lf}
use Rattle.reg_desk_jobs.proofs.output_lines.report_line.Goals as goal

pub returns-in-Ok : goal.returns-in-Ok
returns-in-Ok g c = line_and_lf _ _ _ _ c.in-Ok.ensures.ok c.put.ensures
