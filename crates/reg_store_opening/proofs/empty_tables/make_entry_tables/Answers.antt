use Rattle.std.proofs.Common.{refl}
use Rattle.sqlite_catalog.specs.Change.{created}
use Rattle.reg_store_tables.specs.Schema.{no_schema, office, subscriber, orders, cert}
use Rattle.reg_store_tables.proofs.PublicLaws.{moves_on, stepped_clean, then_moves}
use Rattle.reg_store_opening.specs.Blank.{no_rows}
use Rattle.reg_store_opening.proofs.SchemaTexts.{office_defined, subscriber_defined, orders_defined, cert_defined}
use Rattle.reg_store_opening.proofs.empty_tables.make_entry_tables.Goals as goal

pub returns-clause-made : goal.returns-clause-made
returns-clause-made g c clean =
    let clean3 = stepped_clean c.define-4.ensures.stepped clean in
    let clean2 = stepped_clean c.define-3.ensures.stepped clean3 in
    let first = c.in_ok-define.ensures.made (stepped_clean c.define-2.ensures.stepped clean2) in
    let second = c.in_ok-define-2.ensures.made clean2 in
    let third = c.in_ok-define-3.ensures.made clean3 in
    then_moves _ _ _ _ _ _ c.define-4.result (moves_on (moves_on first second) third) (c.define-4.ensures.made clean) (λ _ fourth blank.
    let one = first.tables.table no_schema (record office { tree = 0 }) no_rows office_defined refl blank in
    let two = second.tables.table (created no_schema office) (record subscriber { tree = 0 }) no_rows subscriber_defined refl one in
    let three = third.tables.table (created (created no_schema office) subscriber) (record orders { tree = 0 }) no_rows orders_defined refl two in
    fourth.table (created (created (created no_schema office) subscriber) orders) (record cert { tree = 0 }) no_rows cert_defined refl three)
