use Rattle.std.proofs.Common.{rules}
use Rattle.std.specs.BTreeMap.{get}
use Rattle.std.specs.Ordering.{nat_cmp}
use Rattle.reg_core.specs.declared.rows.CertRow.{CertRow}
use Rattle.reg_core_laws.proofs.PublicLaws.{some_of}
use Rattle.reg_audit.proofs.RowPrefixes.{entered_more, known_key}
use Rattle.reg_audit.proofs.index.certificates_by_order.Goals as goal

pub returns-then-is_some-clause-broken : goal.returns-then-is_some-clause-broken
returns-then-is_some-clause-broken c is differ =
    let known = some_of c.in_ok-insert.field-0 (search rules) in
    known_key c.args.certificates.now c.loop-row_index.row_index c.index-certificates-row_index.result c.loop-row_index-test.true c.index-certificates-row_index.is (λ (x : CertRow). x.order) (get nat_cmp c.loop-row_index.found) c.loop-row_index.invariant.found known.0 (search rules) differ

pub loop-row_index-preserved : goal.loop-row_index-preserved
loop-row_index-preserved c =
    entered_more c.args.certificates.now c.loop-row_index.row_index c.index-certificates-row_index.result c.loop-row_index-test.true c.index-certificates-row_index.is (λ (x : CertRow). x.order)
    (get nat_cmp c.loop-row_index.found) (get nat_cmp c.insert.new.self) c.loop-row_index.invariant.differ c.loop-row_index.invariant.found c.in_ok-insert.ensures.updates.0 (search rules)
