use Rattle.std.proofs.Common.{◌≤◌, arith, rules}
use Rattle.reg_core.specs.declared.rows.RevocationRow.{RevocationRow}
use Rattle.reg_core_laws.proofs.PublicLaws.{all_weaker}
use Rattle.reg_audit.proofs.RowPrefixes.{falls_more, falls_here, all_more, all_last}
use Rattle.reg_audit.proofs.ascending.firsts_never_decrease.Goals as goal

pub loop-row_index-preserved : goal.loop-row_index-preserved
loop-row_index-preserved c =
    let row = c.index-revocations-row_index.result in
    let rise : c.loop-row_index.latest ≤ row.first = search rules in
    let below = all_weaker (λ (other : RevocationRow). other.first ≤ c.loop-row_index.latest) (λ (other : RevocationRow). other.first ≤ row.first) (λ other le. omega (arith, le, rise)) _ c.loop-row_index.invariant.latest in
    record {
      falls = falls_more c.args.revocations.now c.loop-row_index.row_index row c.loop-row_index-test.true c.index-revocations-row_index.is (λ (x : RevocationRow). x.first) c.loop-row_index.invariant.falls below;
      top = λ low all. all_last c.args.revocations.now c.loop-row_index.row_index row c.loop-row_index-test.true c.index-revocations-row_index.is (λ (x : RevocationRow). x.first ≤ low) all;
      latest = all_more c.args.revocations.now c.loop-row_index.row_index row c.loop-row_index-test.true c.index-revocations-row_index.is (λ (x : RevocationRow). x.first ≤ row.first) below (omega arith);
    }

pub returns-then-revocation-latest-clause-broken : goal.returns-then-revocation-latest-clause-broken
returns-then-revocation-latest-clause-broken c is never =
    let row = c.index-revocations-row_index.result in
    let high : c.loop-row_index.latest ≤ row.first = c.loop-row_index.invariant.top row.first (falls_here c.args.revocations.now c.loop-row_index.row_index row c.loop-row_index-test.true c.index-revocations-row_index.is (λ (x : RevocationRow). x.first) never) in
    search rules
