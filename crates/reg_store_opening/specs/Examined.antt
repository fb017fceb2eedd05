-- The results of `examine`: the version and the office in the tables of an opened database.
use Rattle.std.specs.Prelude.{◌≡◌, Option, None, Some, Result, Err, IfOk, IsTrue, MatchResult}
use Rattle.sqlite_trees.specs.declared.store.Store.{Ghosts}
use Rattle.sqlite.specs.Effect.{Database}
use Rattle.sqlite.specs.Held.{Held, state}
use Rattle.sqlite.specs.State.{HasCleanDisk}
use Rattle.reg_core.specs.Records.{Records}
use Rattle.reg_core.specs.Schedule.{one_step}
use Rattle.reg_store_tables.specs.Stays.{IsDatabaseFault}
use Rattle.reg_store_tables.specs.declared.fault.StoreFault.{StoreFault}
use Rattle.reg_store_tables.specs.declared.fault.StoreFault.TheVariants.{NewVersion, NotARegister}
use Rattle.reg_store_tables.specs.Steps.{WhileOpen}
use Rattle.reg_store_migration.specs.Older.{version_number}
use Rattle.reg_store_migration.specs.declared.version.OlderVersion.{OlderVersion}
use Rattle.reg_store_opening.specs.VersionAndOffice.{HasVersion, InRange, IsCurrent, IsNewer, ReadsOlder}
use Rattle.reg_store_opening.specs.declared.version_check.OlderOffice.{OlderOffice}

-- the tables have the program's version and an office, or an older version and its office
abbrev pub HasVersionAndOffice : Database → Option OlderOffice → Type 0
HasVersionAndOffice db None = IsCurrent db
HasVersionAndOffice db (Some older) =
    HasVersion db (version_number older.version) × ReadsOlder db older.days older.last

-- the result matches records of a version: none for the program's; for an older one, the version, their schedule and last accepted moment
abbrev pub IsFoundOf : Option OlderVersion → Records → Option OlderOffice → Type 0
IsFoundOf None records found = found ≡ None
IsFoundOf (Some version) records None = ⊥
IsFoundOf (Some version) records (Some older) =
    (older.version ≡ version) × (records.policy.schedule ≡ one_step older.days) × (records.last ≡ older.last)

-- the older version that was found; none if it is the program's
abbrev pub found_version : Option OlderOffice → Option OlderVersion
found_version None = None
found_version (Some older) = Some older.version

module _ {S : Type 0} (g : Ghosts S) (old new : Held S) where
  -- if the call succeeds, and the disk returned what was written, the connection was open, and `IsSo` holds of the result and the database
  abbrev pub ReportsState : {T E : Type 0} → Result T E → (T → Database → Type 0) → Type 0
  ReportsState result IsSo =
      HasCleanDisk (state g new)
      → IfOk result (λ found. IsTrue (state g old).is_open × IsSo found (state g old).now)

  -- `NewVersion` is reported only of a database with a newer version, if the disk returned what was written
  abbrev pub ReportsNewer : {T : Type 0} → Result T StoreFault → Type 0
  ReportsNewer result = HasCleanDisk (state g new) → result ≡ Err NewVersion → IsNewer (state g old).now

  -- `NotARegister` is reported only of a database of which `Refused` holds, if the disk returned what was written
  abbrev pub ReportsNone : {T : Type 0} → Result T StoreFault → (Database → Type 0) → Type 0
  ReportsNone result Refused =
      HasCleanDisk (state g new) → result ≡ Err NotARegister → Refused (state g old).now

  -- If the tables show records, a result is one of which `Found` holds; an error is of memory or the database, if the records are `InRange`.
  abbrev pub Finds : {T : Type 0} → Result T StoreFault → (Database → Records → Type 0)
      → (T → Records → Type 0) → Type 0
  Finds result Shown Found =
      HasCleanDisk (state g new) → (records : Records) → WhileOpen (state g old) (λ db. Shown db records)
      → MatchResult result (λ found. Found found records) (λ fault. InRange records → IsDatabaseFault fault)
