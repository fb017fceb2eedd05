use Rattle.std.proofs.Common.{refl}
use Rattle.sqlite.specs.Held.{state}
use Rattle.reg_store_tables.proofs.PublicLaws.{may_move, moves_on, stepped_clean, then_moves, under_way}
use Rattle.reg_store_migration.specs.NumberedRows.{records_alone}
use Rattle.reg_store_migration.specs.Older.{older_schema}
use Rattle.reg_store_migration.proofs.Defining.{has_own}
use Rattle.reg_store_migration.proofs.FirstRows.{staged_first, begun_both, first_rows}
use Rattle.reg_store_migration.proofs.initial_rows.make_tables.Goals as goal

pub returns-clause-made : goal.returns-clause-made
returns-clause-made g c clean =
    let old = (state g.S.Store c.args.tx.now.conn.now).now in
    let mid = (state g.S.Store c.put_counts.new.tx.conn.now).now in
    let new = (state g.S.Store c.put_schedule_steps.new.tx.conn.now).now in
    let version = c.args.version in
    let clean3 = stepped_clean c.put_schedule_steps.ensures.stepped clean in
    let clean2 = stepped_clean c.put_counts.ensures.stepped clean3 in
    let first = c.in_ok-make_missing.ensures.made (stepped_clean c.set_version.ensures.stepped clean2) in
    let second = c.in_ok-set_version.ensures.made clean2 in
    let third = c.in_ok-put_counts.ensures.made clean3 in
    then_moves _ _ _ _ _ _ c.put_schedule_steps.result (moves_on (moves_on first second) third) (may_move _ _ _ c.put_schedule_steps.result (under_way third) (c.put_schedule_steps.ensures.made clean)) (λ _ fourth. record {
      both = λ records one older.
          let made = first.tables.rows old.trees older.beside (has_own (older_schema version) old older.schema) in
          let set = second.tables.0 (records_alone old.trees) version older.days records.issuer records.policy records.last older.office made in
          let counted = third.tables.0 _ refl set in
          begun_both version c.args.days old new records older one
          (fourth.0 (first_rows old.trees older.days records.issuer records.policy records.last) tt (staged_first old.trees older.days records.issuer records.policy records.last mid counted));
      schema = λ has. fourth.1.schema (third.tables.1.schema (second.tables.1.schema (first.tables.schema has)));
    })
