use Rattle.reg_audit.proofs.Gathered.{zipped_more}
use Rattle.reg_audit.proofs.OfficeRows.{IsStep}
use Rattle.reg_audit.proofs.complete.steps_in.Goals as goal

pub loop-row-preserved : goal.loop-row-preserved
loop-row-preserved c =
    zipped_more c.args.rows.now c.loop-row.row-index c.row-item.result c.loop-row-test.true c.row-item.is IsStep c.loop-row.steps.items c.push.new.self.items c.in-Some.step c.loop-row.invariant c.in-Some.ensures.in_columns.1
    c.in_ok-push-in-Some.ensures.items
