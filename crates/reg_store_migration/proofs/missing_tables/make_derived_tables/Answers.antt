use Rattle.std.proofs.Common.{refl}
use Rattle.sqlite.specs.Held.{state}
use Rattle.sqlite_catalog.specs.Change.{created}
use Rattle.reg_store_tables.specs.Schema.{record_tables, standing, kept, listed}
use Rattle.reg_store_tables.proofs.PublicLaws.{moves_on, stepped_clean, then_moves}
use Rattle.reg_store_migration.specs.NumberedRows.{records_alone}
use Rattle.reg_store_migration.proofs.Defining.{has_same}
use Rattle.reg_store_migration.proofs.SchemaTexts.{standing_defined, kept_defined, listed_defined}
use Rattle.reg_store_migration.proofs.missing_tables.make_derived_tables.Goals as goal

pub returns-clause-made : goal.returns-clause-made
returns-clause-made g c clean =
    let db = (state g.S.Store c.args.tx.now.conn.now).now in
    let clean2 = stepped_clean c.define-3.ensures.stepped clean in
    let first = c.in_ok-define.ensures.made (stepped_clean c.define-2.ensures.stepped clean2) in
    let second = c.in_ok-define-2.ensures.made clean2 in
    then_moves _ _ _ _ _ _ c.define-3.result (moves_on first second) (c.define-3.ensures.made clean) (λ _ third rows had.
    let alone = records_alone rows in
    let start = has_same record_tables rows alone db (refl, (refl, (refl, (refl, (refl, (refl, (refl, tt))))))) had in
    let one = first.tables.table record_tables (record standing { tree = 0 }) alone standing_defined refl start in
    let two = second.tables.table (created record_tables standing) (record kept { tree = 0 }) alone kept_defined refl one in
    third.table (created (created record_tables standing) kept) (record listed { tree = 0 }) alone listed_defined refl two)
