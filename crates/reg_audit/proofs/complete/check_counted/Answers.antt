use Rattle.std.proofs.Common.{◌≡◌, ◌+◌, rules}
use Rattle.sqlite_value.specs.Order.{column}
use Rattle.reg_store_tables.specs.Rows.{number}
use Rattle.reg_audit.proofs.Gathered.{counted_more, counted_here}
use Rattle.reg_audit.proofs.complete.check_counted.Goals as goal

pub loop-row_index-preserved : goal.loop-row_index-preserved
loop-row_index-preserved c =
    let here : column c.index-rows-row_index.result 0 ≡ number (c.loop-row_index.row_index + 1) = search rules in
    counted_more c.args.rows.now c.loop-row_index.row_index c.index-rows-row_index.result c.loop-row_index-test.true c.index-rows-row_index.is c.loop-row_index.invariant here

pub returns-then-not-is_number-clause-broken : goal.returns-then-not-is_number-clause-broken
returns-then-not-is_number-clause-broken c counted =
    let here : column c.index-rows-row_index.result 0 ≡ number (c.loop-row_index.row_index + 1) = counted_here c.args.rows.now c.loop-row_index.row_index c.index-rows-row_index.result c.loop-row_index-test.true c.index-rows-row_index.is counted in
    let same = c.is_number.ensures.no here in
    search rules
