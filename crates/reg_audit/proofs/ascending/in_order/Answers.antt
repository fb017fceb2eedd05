use Rattle.std.proofs.Common.{◌≡◌, ◌+◌, rules}
use Rattle.reg_audit.proofs.RowPrefixes.{numbered_more, numbered_here}
use Rattle.reg_audit.proofs.ascending.in_order.Goals as goal

pub returns-then-number-row_index-clause-broken : goal.returns-then-number-row_index-clause-broken
returns-then-number-row_index-clause-broken g c is numbered =
    let here = numbered_here c.args.rows.now c.loop-row_index.row_index c.index-rows-row_index.result c.loop-row_index-test.true c.index-rows-row_index.is g.T.Numbered.number numbered in search rules

pub loop-row_index-preserved : goal.loop-row_index-preserved
loop-row_index-preserved g c =
    let same : g.T.Numbered.number c.index-rows-row_index.result ≡ c.loop-row_index.row_index + 1 = search rules in
    numbered_more c.args.rows.now c.loop-row_index.row_index c.index-rows-row_index.result c.loop-row_index-test.true c.index-rows-row_index.is g.T.Numbered.number c.loop-row_index.invariant same
