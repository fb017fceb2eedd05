use Rattle.reg_store_tables.specs.Schema.{standing, kept, listed}
use Rattle.reg_store_opening.proofs.Steps.{ok_leads, then_table}
use Rattle.reg_store_opening.proofs.Texts.{standing_defined, kept_defined, listed_defined}
use Rattle.reg_store_opening.proofs.expected_schema.add_derived_tables.Goals as goal

pub returns : goal.returns
returns c before =
    let a = then_table standing _ _ _ before (c.in_ok-add_table.ensures (record standing { tree = 0 }) standing_defined) in
    let b = then_table kept _ _ _ a (c.in_ok-add_table-2.ensures (record kept { tree = 0 }) kept_defined) in
    ok_leads _ _ c.add_table-3.result (then_table listed _ _ _ b) (c.add_table-3.ensures (record listed { tree = 0 }) listed_defined)
