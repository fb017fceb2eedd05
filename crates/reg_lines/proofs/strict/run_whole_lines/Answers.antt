use Rattle.reg_lines.specs.ByCalls.{LineCalls}
use Rattle.reg_lines.proofs.RowLemmas.{strict_failed}
use Rattle.reg_lines.proofs.strict.run_whole_lines.Goals as goal

pub returns-in-Ok-On : goal.returns-in-Ok-On
returns-in-Ok-On g c =
    (rw (c.in-Ok-On.field-0-is, c.whole_lines-whole.ensures) at c.in-Ok-On.ensures, rw c.whole_lines-whole.ensures at c.if-whole-text.true)

pub returns-in-Ok-On-2 : goal.returns-in-Ok-On-2
returns-in-Ok-On-2 g c =
    (rw (c.in-Ok-On.field-0-is, c.whole_lines-whole.ensures) at c.in-Ok-On.ensures, rw c.whole_lines-whole.ensures at c.if-whole-text.false)

pub returns-in-Ok-Refused : goal.returns-in-Ok-Refused
returns-in-Ok-Refused g c = rw (c.in-Ok-Refused.field-0-is, c.whole_lines-whole.ensures) at c.in-Ok-Refused.ensures

pub returns-in-Err : goal.returns-in-Err
returns-in-Err g c =
    strict_failed (LineCalls g.O.Office) c.args.now _ _ g.W.Sink.failed _ _ c.args.text.now _ c.in-Err.fault c.whole_lines-whole.ensures c.in-Err.ensures
