use Rattle.reg_lines.proofs.BatchLemmas.{writes_cut, writes_more}
use Rattle.reg_lines.proofs.batches.write_replies.Goals as goal

pub loop-outcome-preserved : goal.loop-outcome-preserved
loop-outcome-preserved g c =
    writes_more c.args.outcomes.now c.loop-outcome.outcome-index c.outcome-item.result c.loop-outcome-test.true c.outcome-item.is _ _ _ c.loop-outcome.invariant
    (rw (c.as_bytes.ensures, c.of.ensures.line) at c.in-Ok.ensures.ok)

pub returns-in-Err : goal.returns-in-Err
returns-in-Err g c =
    writes_cut c.args.outcomes.now c.loop-outcome.outcome-index c.outcome-item.result c.loop-outcome-test.true c.outcome-item.is _ _ _ c.loop-outcome.invariant
    g.W.Sink.failed c.in-Err.fault (rw (c.as_bytes.ensures, c.of.ensures.line) at c.in-Err.ensures.err) c.in-Err.ensures.fails
