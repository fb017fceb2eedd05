use Rattle.std.proofs.Common.{rules}
use Rattle.reg_audit.specs.Cells.{IsOfSomeRecord}
use Rattle.reg_audit.proofs.Signed.{all_more}
use Rattle.reg_audit.proofs.complete.check_are_of_some_record.Goals as goal

pub loop-row-preserved : goal.loop-row-preserved
loop-row-preserved g c =
    let here : IsOfSomeRecord g.T.RowKind.has_valid_serial g.T.RowKind.shown c.row-item.result = search rules in
    all_more (IsOfSomeRecord g.T.RowKind.has_valid_serial g.T.RowKind.shown) c.args.rows.now c.loop-row.row-index c.row-item.result c.loop-row-test.true c.row-item.is c.loop-row.invariant here
