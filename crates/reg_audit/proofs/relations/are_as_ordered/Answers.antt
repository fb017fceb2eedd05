use Rattle.std.proofs.Common.{◌≡◌, sym, subst}
use Rattle.reg_core.specs.Records.{order_in}
use Rattle.reg_core.specs.declared.rows.CertRow.{CertRow}
use Rattle.reg_audit.specs.Read.{IsAsOrdered}
use Rattle.reg_audit.proofs.RowPrefixes.{all_here, all_more}
use Rattle.reg_audit.proofs.relations.are_as_ordered.Goals as goal

pub returns-in-Some-clause-broken : goal.returns-in-Some-clause-broken
returns-in-Some-clause-broken c numbered is all =
    let row = c.index-certificates-row_index.result in
    let order : c.row_with-order.result ≡ order_in c.args.orders.now row.order = c.row_with-order.ensures numbered in
    let here = all_here c.args.certificates.now c.loop-row_index.row_index row c.loop-row_index-test.true c.index-certificates-row_index.is (λ (row : CertRow). IsAsOrdered row (order_in c.args.orders.now row.order)) all in
    c.in-Some.ensures (subst (λ o. IsAsOrdered row o) (sym order) here)

pub loop-row_index-preserved : goal.loop-row_index-preserved
loop-row_index-preserved c numbered =
    let row = c.index-certificates-row_index.result in
    let order : c.row_with-order.result ≡ order_in c.args.orders.now row.order = c.row_with-order.ensures numbered in
    all_more c.args.certificates.now c.loop-row_index.row_index row c.loop-row_index-test.true c.index-certificates-row_index.is (λ (row : CertRow). IsAsOrdered row (order_in c.args.orders.now row.order)) (c.loop-row_index.invariant numbered)
    (subst (λ o. IsAsOrdered row o) order c.in_default.ensures)
