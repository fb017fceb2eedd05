use Rattle.std.proofs.Common.{◌≡◌, true, false, is_some, sym, ap, ◌∙◌, rules}
use Rattle.reg_core.specs.Records.{subscriber_named}
use Rattle.reg_audit.proofs.RowPrefixes.{name_differs, name_repeats, name_entered}
use Rattle.reg_audit.proofs.index.names_differ.Goals as goal

pub returns-then-not-branch-clause-broken : goal.returns-then-not-branch-clause-broken
returns-then-not-branch-clause-broken c is differ =
    let row = c.index-subscribers-row_index.result in
    let at : is_some (subscriber_named (Rattle.std.proofs.Common.take c.loop-row_index.row_index c.args.subscribers.now) c.as_bytes.result.now) ≡ true = (let found = c.loop-row_index.invariant.found c.as_bytes.result in search rules) in
    name_repeats c.args.subscribers.now c.loop-row_index.row_index row c.loop-row_index-test.true c.index-subscribers-row_index.is (rw c.as_bytes.ensures.bytes at at) differ

pub loop-row_index-preserved : goal.loop-row_index-preserved
loop-row_index-preserved c =
    let row = c.index-subscribers-row_index.result in
    let free : is_some (subscriber_named (Rattle.std.proofs.Common.take c.loop-row_index.row_index c.args.subscribers.now) c.as_bytes.result.now) ≡ false = (let found = c.loop-row_index.invariant.found c.as_bytes.result in search rules) in
    record {
      differ = name_differs c.args.subscribers.now c.loop-row_index.row_index row c.loop-row_index-test.true c.index-subscribers-row_index.is c.loop-row_index.invariant.differ (rw c.as_bytes.ensures.bytes at free);
      found = λ name. name_entered c.args.subscribers.now c.loop-row_index.row_index row c.loop-row_index-test.true c.index-subscribers-row_index.is c.as_bytes.result.now name.now _ _ c.as_bytes.ensures.bytes (c.loop-row_index.invariant.found name) (c.in_ok-insert.ensures.updates.0 name);
    }
