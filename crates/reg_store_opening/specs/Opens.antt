-- A register's database after it was opened or created, and after that failed.
use Rattle.std.specs.Prelude.{◌≡◌, ◌≢◌, ◌⊎◌, ◌↔◌, IsTrue, Option}
use Rattle.sqlite_trees.specs.declared.store.Store.{Ghosts}
use Rattle.sqlite.specs.Held.{Held, state}
use Rattle.sqlite.specs.State.{HasCleanDisk, Survives}
use Rattle.reg_core.specs.Issuer.{Issuer}
use Rattle.reg_core.specs.Policy.{Terms}
use Rattle.reg_core.specs.Records.{Records, no_records}
use Rattle.reg_core.specs.Schedule.{greatest_of}
use Rattle.reg_core.specs.Sound.{SoundRows}
use Rattle.reg_store_tables.specs.Kept.{ShowsKept}
use Rattle.reg_store_tables.specs.Schema.{no_schema}
use Rattle.reg_store_tables.specs.Shows.{HasOfficeDays, KeepsOfficeDays, Shows}
use Rattle.reg_store_tables.specs.Stays.{IsDatabaseFault, IsRegister, Stays}
use Rattle.reg_store_tables.specs.declared.fault.StoreFault.{StoreFault}
use Rattle.reg_store_tables.specs.declared.fault.StoreFault.TheVariants.{NewVersion, NotARegister, NotEmpty}
use Rattle.reg_store_migration.specs.Older.{ShowsOlder}
use Rattle.reg_store_migration.specs.declared.version.OlderVersion.{OlderVersion}
use Rattle.reg_store_opening.specs.AfterStoppedOpening.{IsCreated, IsOpened}
use Rattle.reg_store_opening.specs.VersionAndOffice.{HoldsNoRegister, InRange, IsCurrent, IsNewer, IsNoRegister, IsOlder, ShowsAs}

-- A database that is opened. Tables of the program's version stay as they are; those of version 1 or 2 are migrated to it.
pub record Opens {S : Type 0} (g : Ghosts S) (old new : Held S) : Type 0 where
  -- the tables still show the records that they showed
  pub shows : (records : Records) → Shows g old records → Shows g new records
  -- the derived tables still match the records
  pub kept : (records : Records) → ShowsKept g old records → ShowsKept g new records
  -- the tables show sound records that older tables showed, with derived tables that match them
  pub migrated : (version : OlderVersion) (records : Records) → ShowsOlder version g old records
      → SoundRows records → ShowsKept g new records
  -- then the connection is open
  pub live : (version : OlderVersion) (records : Records) → ShowsOlder version g old records
      → HasCleanDisk (state g new) → IsTrue (state g new).is_open
  -- the office's row keeps its days
  pub days : (records : Records) → Shows g old records → KeepsOfficeDays g old new
  -- the office's row of an older register gets the greatest days of the schedule
  pub older_days : (version : OlderVersion) (records : Records) → ShowsOlder version g old records
      → SoundRows records
      → HasOfficeDays g new (greatest_of records.policy.schedule)
  -- the tables are those of a register
  pub registers : IsRegister (state g new)
  -- the tables had the program's version and an office, and nothing has changed; or they had an older version and its office
  pub said : HasCleanDisk (state g new)
      → (Stays (state g old) (state g new) × IsCurrent (state g old).now) ⊎ IsOlder (state g old).now
  -- a stop leaves what it would have left before, or the migrated tables
  pub survives : Survives (state g old) (state g new) (IsOpened g old)

-- A database that can't be opened, and the fault that gives the reason.
pub record IsFailedOpen {S : Type 0} (g : Ghosts S) (old new : Held S) (fault : StoreFault) : Type 0 where
  -- the tables are as they were
  pub same : Stays (state g old) (state g new)
  -- a register whose values are within their ranges is refused only if memory or the database fails
  pub shown : (version : Option OlderVersion) (records : Records) → InRange records
      → ShowsAs version g old records
      → HasCleanDisk (state g new) → IsDatabaseFault fault
  -- `NewVersion` is reported only if the tables have a newer version
  pub newer : HasCleanDisk (state g new) → fault ≡ NewVersion → IsNewer (state g old).now
  -- `NotARegister` is reported only if the tables have no version or no office, or the schema is not that of the version
  pub none : HasCleanDisk (state g new) → fault ≡ NotARegister → IsNoRegister (state g old).now
  -- `NotARegister` is reported only if the database has no register of any version (under the condition in `HoldsNoRegister`)
  pub alone : HasCleanDisk (state g new) → fault ≡ NotARegister → HoldsNoRegister (state g old).now
  -- `NotEmpty` is a fault of `create`
  pub never_empty : fault ≢ NotEmpty
  -- a stop leaves what it would have left before, or the migrated tables
  pub survives : Survives (state g old) (state g new) (IsOpened g old)

-- A database with no table, no index and no view, in which a register without records was created.
pub record Creates {S : Type 0} (g : Ghosts S) (old new : Held S) (issuer : Issuer)
    (policy : Terms) : Type 0 where
  -- the tables show no records, and the derived tables match them
  pub kept : ShowsKept g new (no_records issuer policy)
  -- the office's row has the greatest days of the schedule
  pub days : HasOfficeDays g new (greatest_of policy.schedule)
  pub empty : old.schema ≡ no_schema
  -- a stop leaves what it would have left before, or the whole register
  pub survives : Survives (state g old) (state g new) (IsCreated old issuer policy)

-- A database in which no register can be created, and the fault that gives the reason.
pub record IsFailedCreate {S : Type 0} (g : Ghosts S) (old new : Held S) (issuer : Issuer) (policy : Terms)
    (fault : StoreFault) : Type 0 where
  -- the tables are as they were
  pub same : Stays (state g old) (state g new)
  -- `NotEmpty` is reported exactly if the database has a table, an index or a view
  pub not_empty : fault ≡ NotEmpty ↔ old.schema ≢ no_schema
  -- otherwise memory or the database failed
  pub faults : (fault ≡ NotEmpty) ⊎ IsDatabaseFault fault
  -- a stop leaves what it would have left before, or the whole register
  pub survives : Survives (state g old) (state g new) (IsCreated old issuer policy)
