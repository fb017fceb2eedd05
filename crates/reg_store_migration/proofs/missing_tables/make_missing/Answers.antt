use Rattle.std.proofs.Common.{[], refl}
use Rattle.sqlite.specs.Held.{state}
use Rattle.reg_store_migration.specs.NumberedRows.{with_rows, records_alone}
use Rattle.reg_store_tables.proofs.PublicLaws.{stepped_clean, then_moves}
use Rattle.reg_store_migration.proofs.missing_tables.make_missing.Goals as goal

pub returns-clause-made : goal.returns-clause-made
returns-clause-made g c clean =
    let mid = (state g.S.Store c.make_or_clear_derived_tables.new.tx.conn.now).now in
    let first = c.in_ok-make_or_clear_derived_tables.ensures.made (stepped_clean c.make_schedule_and_indexes.ensures.stepped clean) in
    then_moves _ _ _ _ _ _ c.make_schedule_and_indexes.result first (c.make_schedule_and_indexes.ensures.made clean) (λ _ adds. record {
      rows = λ rows beside had. adds (records_alone rows) refl (first.tables.rows rows beside had);
      schema = λ has. (adds (with_rows 17 [] mid.trees) refl (record { schema = first.tables.schema has; rows = (refl, (refl, (refl, (refl, (refl, (refl, (refl, (refl, (refl, (refl, tt)))))))))) })).schema;
    })
