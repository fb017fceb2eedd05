use Rattle.std.proofs.Common.{inr}
use Rattle.reg_desk_jobs.proofs.Comparing.{has_all_then, uncompared}
use Rattle.reg_desk_jobs.proofs.serve_job.serve_checked.Goals as goal
use Rattle.reg_desk_jobs.proofs.serve_job.serve_checked.Goals.{then-has_published+in-Ok, else-has_published}

pub returns-clause-ends : goal.returns-clause-ends
returns-clause-ends g c =
    let ran = c.serve_desk.ensures in
    elim c.if-has_published.branch [
      | then-has_published+in-Ok w ↦ inr (
        ran.0,
        ran.1,
        has_all_then g.M.Office.Office.is_clean g.M.Office.Office.stands (g.R.Read.remaining c.args.reader.now) _ _ c.args.has_published _ c.args.office
            w.check_published.new.office c.serve_desk.result.0 w.in-Ok.ensures.compares (rw w.office-is at ran.2),
        rw (w.writer-is, w.in-Ok.ensures.unwritten) at ran.3,
      )
      | else-has_published w ↦ inr (
        ran.0,
        ran.1,
        uncompared g.M.Office.Office.is_clean g.M.Office.Office.stands (g.R.Read.remaining c.args.reader.now) c.args.has_published _ c.args.office
            c.serve_desk.result.0 w.if-has_published.false (rw w.office-is at ran.2),
        rw w.writer-is at ran.3,
      )
    ]
