use Rattle.std.proofs.Common.{[], refl, ◌∙◌}
use Rattle.sqlite.specs.Held.{state}
use Rattle.reg_store_tables.proofs.PublicLaws.{stepped_clean}
use Rattle.reg_store_migration.specs.Older.{with_derived_tables}
use Rattle.reg_store_migration.specs.NumberedRows.{with_rows, records_alone}
use Rattle.reg_store_migration.proofs.Defining.{has_same}
use Rattle.reg_store_migration.proofs.Emptying.{clears_standing, clears_kept, clears_listed}
use Rattle.reg_store_migration.proofs.missing_tables.clear_derived_tables.Goals as goal

pub returns-clause-made : goal.returns-clause-made
returns-clause-made g c clean =
    let after = (state g.S.Store c.write-3.new.tx.conn.now).now in
    let clean2 = stepped_clean c.write-3.ensures.stepped clean in
    let ran1 = c.in_ok-write.ensures.ran (stepped_clean c.write-2.ensures.stepped clean2) in
    let ran2 = c.in_ok-write-2.ensures.ran clean2 in
    let ran3 = c.in_ok-write-3.ensures.ran clean in
    let one = clears_listed _ _ _ ran1 in
    let two = clears_standing _ _ _ ran2 in
    let three = clears_kept _ _ _ ran3 in
    record {
      was_open = ran1.was_open;
      is_open = ran3.is_open;
      committed = ran3.committed ∙ ran2.committed ∙ ran1.committed;
      under_way = ran3.under_way;
      tables = record {
        rows = λ rows beside had.
            let first = with_rows 15 [] rows in
            let second = with_rows 12 [] first in
            has_same with_derived_tables (with_rows 14 [] second) (records_alone rows) after (refl, (refl, (refl, (refl, (refl, (refl, (refl, (refl, (refl, (refl, tt))))))))))
            (three.0 second beside.1 (two.0 first beside.0 (one.0 rows beside.2 had)));
        schema = λ has. three.1 (two.1 (one.1 has));
      };
    }
