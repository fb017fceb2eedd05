use Rattle.std.proofs.Common.{◌==◌, find, get_or, IsSome, length, rules}
use Rattle.reg_core.specs.declared.rows.OrderRow.{OrderRow}
use Rattle.reg_core.specs.declared.rows.SubscriberRow.{SubscriberRow}
use Rattle.std.proofs.lemmas.List.Elements.{All-from_recursion}
use Rattle.reg_core_laws.proofs.PublicLaws.{all_weaker}
use Rattle.reg_audit.proofs.RowPrefixes.{whole}
use Rattle.reg_audit.proofs.Fits.{IsOneOf, one_found, found_one}
use Rattle.reg_audit.proofs.relations.subscribers_exist.Goals as goal

pub returns-then-not-is_one_of-clause-broken : goal.returns-then-not-is_one_of-clause-broken
returns-then-not-is_one_of-clause-broken c numbered is all =
    let none : OrderRow = record { id = 0; subscriber = 0; days = 0 } in
    let row = get_or c.args.orders.now c.loop-row_index.row_index none in
    let here = All-from_recursion (λ (row : OrderRow). IsSome (find (λ (held : SubscriberRow). held.id == row.subscriber) c.args.subscribers.now)) c.args.orders.now all c.loop-row_index.row_index none c.loop-row_index-test.true in
    let one : IsOneOf row.subscriber (length c.args.subscribers.now) = found_one (λ (held : SubscriberRow). held.id) row.subscriber c.args.subscribers.now numbered here in
    search rules

pub returns-clause-ok : goal.returns-clause-ok
returns-clause-ok c numbered =
    all_weaker (λ (row : OrderRow). IsOneOf row.subscriber (length c.args.subscribers.now)) (λ (row : OrderRow). IsSome (find (λ (held : SubscriberRow). held.id == row.subscriber) c.args.subscribers.now)) (λ row one. one_found (λ (held : SubscriberRow). held.id) row.subscriber c.args.subscribers.now numbered one) c.args.orders.now
    (whole c.args.orders.now (Rattle.std.specs.List.AllByRecursion (λ (row : OrderRow). IsOneOf row.subscriber (length c.args.subscribers.now))) c.loop-row_index.row_index c.loop-row_index-test.false c.loop-row_index.invariant)
