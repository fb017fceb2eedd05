use Rattle.std.proofs.Common.{◌≡◌, ◌≤◌, arith, rules}
use Rattle.reg_core_laws.proofs.PublicLaws.{all_weaker}
use Rattle.reg_audit.proofs.RowPrefixes.{falls_more, falls_here, all_more, all_last}
use Rattle.reg_audit.proofs.ascending.moments_never_decrease.Goals as goal

pub loop-row_index-preserved : goal.loop-row_index-preserved
loop-row_index-preserved g c =
    let row = c.index-rows-row_index.result in
    let is : c.moment-at.result ≡ g.T.Dated.moment row = search rules in
    let rise : c.loop-row_index.latest ≤ c.moment-at.result = search rules in
    let below = all_weaker (λ other. g.T.Dated.moment other ≤ c.loop-row_index.latest) (λ other. g.T.Dated.moment other ≤ g.T.Dated.moment row) (λ other le. omega (arith, le, rise, is)) _ c.loop-row_index.invariant.latest in
    let lower = all_weaker (λ other. g.T.Dated.moment other ≤ g.T.Dated.moment row) (λ other. g.T.Dated.moment other ≤ c.moment-at.result) (λ other le. omega (arith, le, is)) _ below in
    record {
      falls = falls_more c.args.rows.now c.loop-row_index.row_index row c.loop-row_index-test.true c.index-rows-row_index.is g.T.Dated.moment c.loop-row_index.invariant.falls below;
      top = λ low all. (let here = all_last c.args.rows.now c.loop-row_index.row_index row c.loop-row_index-test.true c.index-rows-row_index.is (λ x. g.T.Dated.moment x ≤ low) all in omega (arith, here, is));
      latest = all_more c.args.rows.now c.loop-row_index.row_index row c.loop-row_index-test.true c.index-rows-row_index.is (λ x. g.T.Dated.moment x ≤ c.moment-at.result) lower (omega (arith, is));
    }

pub returns-then-lt-clause-broken : goal.returns-then-lt-clause-broken
returns-then-lt-clause-broken g c is never =
    let row = c.index-rows-row_index.result in
    let high : c.loop-row_index.latest ≤ g.T.Dated.moment row = c.loop-row_index.invariant.top (g.T.Dated.moment row) (falls_here c.args.rows.now c.loop-row_index.row_index row c.loop-row_index-test.true c.index-rows-row_index.is g.T.Dated.moment never) in
    search rules
