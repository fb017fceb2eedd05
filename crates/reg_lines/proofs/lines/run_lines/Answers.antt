use Rattle.reg_lines.specs.ByCalls.{LineCalls}
use Rattle.reg_lines.proofs.OfficeRuns.{lines_lead}
use Rattle.reg_lines.proofs.ScriptsAndImports.{lines_end}
use Rattle.reg_lines.proofs.lines.run_lines.Goals as goal

pub returns-in-Ok-clause-by_calls : goal.returns-in-Ok-clause-by_calls
returns-in-Ok-clause-by_calls g c =
    lines_end (LineCalls g.O.Office) g.H.Host.clock_reached g.R.Read.remaining g.W.Write.contents g.R.Source.failed g.W.Sink.failed _ _ _ _ _ _
    g.H.Host.clock_failed (g.H.Host.clocked c.args.host.now) c.args.is_strict c.run_all.result c.run_all.ensures

pub returns-in-Ok-clause-ends : goal.returns-in-Ok-clause-ends
returns-in-Ok-clause-ends g c =
    lines_lead g.O.Office g.R.Read.remaining g.W.Write.contents _ _ _ _ _ _ g.R.Source.failed g.W.Sink.failed
    g.H.Host.clock_reached g.H.Host.clock_failed (g.H.Host.clocked c.args.host.now) c.args.is_strict c.run_all.result (returns-in-Ok-clause-by_calls g c)
