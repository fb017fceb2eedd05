use Rattle.std.proofs.Common.{inl}
use Rattle.reg_lines.specs.ByCalls.{LineCalls}
use Rattle.reg_lines.specs.Strict.{StrictRan}
use Rattle.reg_lines.proofs.OfficeRuns.{strict_leads}
use Rattle.reg_lines.proofs.RowLemmas.{ends_unread}
use Rattle.reg_lines.proofs.strict.import_strictly.Goals as goal

pub returns-in-Ok-clause-calls : goal.returns-in-Ok-clause-calls
returns-in-Ok-clause-calls g c = inl (c.in-Ok.text.items, c.in-Ok.ensures, rw c.deref.ensures.value at c.run_whole_lines.ensures)

pub returns-in-Ok-clause-ends : goal.returns-in-Ok-clause-ends
returns-in-Ok-clause-ends g c =
    strict_leads g.O.Office g.R.Read.remaining g.W.Write.contents _ _ _ _ _ _ g.R.Source.failed g.W.Sink.failed c.args.now _ (returns-in-Ok-clause-calls g c)

pub returns-in-Err-clause-calls : goal.returns-in-Err-clause-calls
returns-in-Err-clause-calls g c =
    ends_unread g.R.Read.remaining g.R.Source.failed _ _ _ _
    (StrictRan (LineCalls g.O.Office) c.args.now c.args.office.now c.args.office.now g.W.Sink.failed (g.W.Write.contents c.args.writer.now) (g.W.Write.contents c.args.writer.now))
    c.in-Err.fault c.in-Err.ensures

pub returns-in-Err-clause-ends : goal.returns-in-Err-clause-ends
returns-in-Err-clause-ends g c =
    strict_leads g.O.Office g.R.Read.remaining g.W.Write.contents _ _ _ _ _ _ g.R.Source.failed g.W.Sink.failed c.args.now _ (returns-in-Err-clause-calls g c)
