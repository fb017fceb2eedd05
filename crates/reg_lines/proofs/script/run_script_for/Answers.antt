use Rattle.reg_lines.proofs.OfficeRuns.{script_leads}
use Rattle.reg_lines.proofs.script.run_script_for.Goals as goal

pub returns-clause-ends : goal.returns-clause-ends
returns-clause-ends g c =
    script_leads g.O.Office g.R.Read.remaining g.W.Write.contents _ _ _ _ _ _ g.R.Source.failed g.W.Sink.failed g.H.Host.clock_reached g.H.Host.clock_failed c.run_lines.result _ c.done.ensures
    (rw c.requires at c.run_lines.ensures.ends)

pub returns-clause-by_calls : goal.returns-clause-by_calls
returns-clause-by_calls g c = (c.run_lines.result, rw c.requires at c.run_lines.ensures.by_calls, c.done.ensures)
