-- The effects of the steps of a migration on the database.
use Rattle.std.specs.Prelude.{◌≡◌, ℕ, pos, [], ◌∷◌, length, List, IsSomeAnd, IsPermutation, map}
use Rattle.sqlite_trees.specs.Tree.{Trees}
use Rattle.sqlite_schema.specs.declared.schema.Schema.{Schema}
use Rattle.sqlite_schema.specs.declared.schema.Table.{Table}
use Rattle.sqlite_schema.specs.declared.schema.Index.{Index}
use Rattle.sqlite_catalog.specs.Change.{next_tree, created, indexed}
use Rattle.sqlite.specs.Effect.{Database, IsDatabase}
use Rattle.reg_core.specs.Crls.{row_of}
use Rattle.reg_core.specs.Issuer.{Issuer}
use Rattle.reg_core.specs.Policy.{Terms}
use Rattle.reg_core.specs.Records.{Records, certificate_in}
use Rattle.reg_core.specs.Schedule.{one_step}
use Rattle.reg_core.specs.Sound.{SoundRows}
use Rattle.reg_core.specs.declared.rows.CrlRow.{CrlRow}
use Rattle.reg_core.specs.declared.rows.RevocationRow.{RevocationRow}
use Rattle.reg_store_tables.specs.DerivedRows.{DerivedRows, Standing, stored_counts}
use Rattle.reg_store_tables.specs.Kept.{standing_of}
use Rattle.reg_store_tables.specs.Rows.{stored_office}
use Rattle.reg_store_tables.specs.Schema.{record_tables, register_schema}
use Rattle.reg_store_tables.specs.Shows.{AreRecordsAndDerived}
use Rattle.reg_store_tables.specs.Steps.{Turns}
use Rattle.reg_store_migration.specs.Makes.{DefinesTable, DefinesIndex}
use Rattle.reg_store_migration.specs.NumberedRows.{HasRows, with_rows, records_alone}
use Rattle.reg_store_migration.specs.Older.{with_derived_tables, older_schema, stored_older, HasDerivedRows, IsShownByOlder}
use Rattle.reg_store_migration.specs.Refilled.{no_derived_rows, no_counts, with_letters, AreIssued, listed_by, with_listed, HasRelisted, HasKept, HasGreatestDays}
use Rattle.reg_store_migration.specs.declared.version.OlderVersion.{OlderVersion}

-- a text that defines a table or an index makes it, the new table has no rows, and all rows stay
pub record Defines (text : List ℕ) (old new : Database) : Type 0 where
  pub table : (schema : Schema) (table : Table) (rows : Trees) → DefinesTable schema text table
      → rows (next_tree schema) ≡ [] → HasRows schema rows old
      → HasRows (created schema table) rows new
  pub index : (schema : Schema) (at : ℕ) (table : Table) (index : Index) (rows : Trees)
      → DefinesIndex schema text at table index → HasRows schema rows old
      → HasRows (indexed schema table index) rows new

-- the derived tables are made, without rows
abbrev pub AddsDerivedTables : Database → Database → Type 0
AddsDerivedTables old new =
    (rows : Trees) → HasRows record_tables rows old → HasRows with_derived_tables (records_alone rows) new

-- the table of the schedule is made, without rows, and the indexes
abbrev pub AddsSchedule : Database → Database → Type 0
AddsSchedule old new =
    (rows : Trees) → rows 17 ≡ [] → HasRows with_derived_tables rows old → HasRows register_schema rows new

-- tables of an older version become those of a schema, and the derived tables are empty
pub record Rebuilds (version : OlderVersion) (later : Schema) (old new : Database) : Type 0 where
  pub rows : (rows : Trees) → HasDerivedRows version rows → HasRows (older_schema version) rows old
      → HasRows later (records_alone rows) new
  pub schema : old.schema ≡ older_schema version → new.schema ≡ later

-- the row of an older office gets the number of the program's version
abbrev pub SetsVersion : Database → Database → Type 0
SetsVersion old new =
    (rows : Trees) (version : OlderVersion) (days : ℕ) (issuer : Issuer) (policy : Terms) (last : ℕ)
    → rows 0 ≡ stored_older version days issuer policy last ∷ []
    → HasRows register_schema rows old
    → HasRows register_schema (with_rows 0 (stored_office (pos days) issuer policy last ∷ []) rows) new

-- the row of counts is inserted, with counts of 0
abbrev pub PutsCounts : Database → Database → Type 0
PutsCounts old new =
    (rows : Trees) → rows 14 ≡ [] → HasRows register_schema rows old
    → HasRows register_schema (with_rows 14 (stored_counts no_counts ∷ []) rows) new

-- older tables become those of the program's version, with derived tables that have only counts of 0
pub record BeginsTables (version : OlderVersion) (days : ℕ) (old new : Database) : Type 0 where
  pub both : (records : Records) → records.policy.schedule ≡ one_step days
      → IsShownByOlder version old records
      → AreRecordsAndDerived new records (no_derived_rows records.policy.schedule)
  pub schema : old.schema ≡ older_schema version → new.schema ≡ register_schema

-- if there are no letters, each certificate of sound records gets its letter at the last accepted moment
abbrev pub FillsLetters : ℕ → Database → Database → Type 0
FillsLetters last old new =
    (records : Records) (columns : DerivedRows) → SoundRows records → records.last ≡ last
    → columns.letters ≡ [] → AreRecordsAndDerived old records columns
    → (letters : List Standing) × IsPermutation (map (standing_of records) records.certificates) letters
    × AreRecordsAndDerived new records (with_letters letters columns)

-- a revocation gets its row of `listed`, with the last of these CRLs that lists it
abbrev pub ListsOne : RevocationRow → List CrlRow → ℕ → Database → Database → Type 0
ListsOne row crls not_after old new =
    AreIssued crls → Turns (λ records. records) (with_listed (listed_by crls row not_after)) old new

-- `ListsOne`, with the notAfter of the revocation's certificate
abbrev pub RelistsOne : RevocationRow → List CrlRow → Database → Database → Type 0
RelistsOne row crls old new =
    (records : Records) (columns : DerivedRows) → AreIssued crls → AreRecordsAndDerived old records columns
    → IsSomeAnd (certificate_in records.certificates row.serial)
    (λ certificate.
    AreRecordsAndDerived new records (with_listed (listed_by crls row certificate.not_after) columns))

-- these revocations get their rows of `listed`, if they are those of the records, and so are the CRLs
abbrev pub RelistsEach : List RevocationRow → List CrlRow → Database → Database → Type 0
RelistsEach revocations crls old new =
    (records : Records) → SoundRows records → revocations ≡ records.revocations
    → crls ≡ map row_of records.crls → HasRelisted old records 0
    → HasRelisted new records (length records.revocations)

-- each revocation gets its row of `listed`
abbrev pub Relists : Database → Database → Type 0
Relists old new =
    (records : Records) → SoundRows records → HasRelisted old records 0
    → HasRelisted new records (length records.revocations)

-- the derived tables are rebuilt: they match sound records at the last accepted moment, and the office has the greatest days of the schedule
pub record RebuildsDerived (last : ℕ) (old new : Database) : Type 0 where
  pub kept : (records : Records) → SoundRows records → records.last ≡ last
      → AreRecordsAndDerived old records (no_derived_rows records.policy.schedule)
      → HasKept new records × HasGreatestDays new records × IsDatabase new
  pub schema : old.schema ≡ register_schema → new.schema ≡ register_schema

-- Tables of an older version, with this longest validity in days and this last accepted moment, become those of the program's version.
pub record MigratesTables (version : OlderVersion) (days last : ℕ) (old new : Database) : Type 0 where
  -- the tables show the same sound records, with derived tables that match them, and the office has the greatest days of their schedule
  pub kept : (records : Records) → IsShownByOlder version old records → SoundRows records
      → records.policy.schedule ≡ one_step days → records.last ≡ last
      → HasKept new records × HasGreatestDays new records × IsDatabase new
  -- whatever the rows are, the tables are those of a register
  pub schema : old.schema ≡ older_schema version → new.schema ≡ register_schema
