use Rattle.reg_store_tables.proofs.PublicLaws.{stepped_clean, then_moves}
use Rattle.reg_store_migration.proofs.migration.migrate_tables.Goals as goal

pub returns-clause-made : goal.returns-clause-made
returns-clause-made g c clean =
    let first = c.in_ok-make_tables.ensures.made (stepped_clean c.rebuild_derived_tables.ensures.stepped clean) in
    then_moves _ _ _ _ _ _ c.rebuild_derived_tables.result first (c.rebuild_derived_tables.ensures.made clean)
    (λ _ refills. record { kept = λ records older sound one same. refills.kept records sound same (first.tables.both records one older); schema = λ has. refills.schema (first.tables.schema has) })
