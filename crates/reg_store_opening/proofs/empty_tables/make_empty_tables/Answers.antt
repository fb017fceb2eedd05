use Rattle.std.proofs.Common.{refl}
use Rattle.sqlite.specs.Held.{state}
use Rattle.reg_store_tables.specs.Schema.{register_schema}
use Rattle.reg_store_tables.proofs.PublicLaws.{moves_on, stepped_clean, then_moves}
use Rattle.reg_store_migration.specs.NumberedRows.{records_alone}
use Rattle.reg_store_migration.proofs.PublicLaws.{has_same}
use Rattle.reg_store_opening.specs.Blank.{no_rows}
use Rattle.reg_store_opening.proofs.empty_tables.make_empty_tables.Goals as goal

pub returns-clause-made : goal.returns-clause-made
unfolding register_schema
returns-clause-made g c clean =
    let new = (state g.S.Store c.make_schedule_and_indexes.new.tx.conn.now).now in
    let clean3 = stepped_clean c.make_schedule_and_indexes.ensures.stepped clean in
    let clean2 = stepped_clean c.make_derived_tables.ensures.stepped clean3 in
    let first = c.in_ok-make_entry_tables.ensures.made (stepped_clean c.make_revocation_tables.ensures.stepped clean2) in
    let second = c.in_ok-make_revocation_tables.ensures.made clean2 in
    let third = c.in_ok-make_derived_tables.ensures.made clean3 in
    then_moves _ _ _ _ _ _ c.make_schedule_and_indexes.result (moves_on (moves_on first second) third) (c.make_schedule_and_indexes.ensures.made clean) (λ _ fourth blank.
    has_same register_schema (records_alone no_rows) no_rows new (refl, (refl, (refl, (refl, (refl, (refl, (refl, (refl, (refl, (refl, (refl, tt)))))))))))
    (fourth (records_alone no_rows) refl (third.tables no_rows (second.tables (first.tables blank)))))
