use Rattle.reg_store_tables.specs.Schema.{office, subscriber, orders, cert, request, revocation, crl}
use Rattle.reg_store_opening.proofs.Steps.{ok_leads, then_table}
use Rattle.reg_store_opening.proofs.Texts.{office_defined, subscriber_defined, orders_defined, cert_defined, request_defined, revocation_defined, crl_defined}
use Rattle.reg_store_opening.proofs.expected_schema.add_records.Goals as goal

pub returns : goal.returns
returns c before =
    let a = then_table office _ _ _ before (c.in_ok-add_table.ensures (record office { tree = 0 }) office_defined) in
    let b = then_table subscriber _ _ _ a (c.in_ok-add_table-2.ensures (record subscriber { tree = 0 }) subscriber_defined) in
    let d = then_table orders _ _ _ b (c.in_ok-add_table-3.ensures (record orders { tree = 0 }) orders_defined) in
    let e = then_table cert _ _ _ d (c.in_ok-add_table-4.ensures (record cert { tree = 0 }) cert_defined) in
    let f = then_table request _ _ _ e (c.in_ok-add_table-5.ensures (record request { tree = 0 }) request_defined) in
    let h = then_table revocation _ _ _ f (c.in_ok-add_table-6.ensures (record revocation { tree = 0 }) revocation_defined) in
    ok_leads _ _ c.add_table-7.result (then_table crl _ _ _ h) (c.add_table-7.ensures (record crl { tree = 0 }) crl_defined)
