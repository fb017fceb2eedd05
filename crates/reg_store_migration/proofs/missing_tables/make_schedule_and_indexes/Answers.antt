use Rattle.sqlite_catalog.specs.Change.{indexed}
use Rattle.reg_store_tables.specs.Schema.{all_tables, register_schema, crl, standing, longest, crl_at, standing_due}
use Rattle.reg_store_tables.proofs.PublicLaws.{moves_on, stepped_clean, then_moves}
use Rattle.reg_store_migration.specs.Older.{with_derived_tables}
use Rattle.reg_store_migration.proofs.SchemaTexts.{longest_defined, crl_at_defined, standing_due_defined}
use Rattle.reg_store_migration.proofs.missing_tables.make_schedule_and_indexes.Goals as goal

pub returns-clause-made : goal.returns-clause-made
unfolding register_schema
returns-clause-made g c clean =
    let clean2 = stepped_clean c.define-3.ensures.stepped clean in
    let first = c.in_ok-define.ensures.made (stepped_clean c.define-2.ensures.stepped clean2) in
    let second = c.in_ok-define-2.ensures.made clean2 in
    then_moves _ _ _ _ _ _ c.define-3.result (moves_on first second) (c.define-3.ensures.made clean) (λ _ third rows none had.
    let one = first.tables.table with_derived_tables (record longest { tree = 0 }) rows longest_defined none had in
    let two = second.tables.index all_tables 6 crl crl_at rows crl_at_defined one in
    third.index (indexed all_tables crl crl_at) 7 standing standing_due rows standing_due_defined two)
