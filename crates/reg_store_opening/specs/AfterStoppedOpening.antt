-- The rows that a stop may leave while a register is created or opened.
use Rattle.std.specs.Prelude.{◌≡◌}
use Rattle.sqlite_trees.specs.Tree.{Trees}
use Rattle.sqlite_trees.specs.declared.store.Store.{Ghosts}
use Rattle.sqlite.specs.Held.{Held, state}
use Rattle.reg_core.specs.Issuer.{Issuer}
use Rattle.reg_core.specs.Policy.{Terms}
use Rattle.reg_core.specs.Records.{Records, no_records}
use Rattle.reg_core.specs.Sound.{SoundRows}
use Rattle.reg_store_tables.specs.Schema.{no_schema}
use Rattle.reg_store_tables.specs.AfterStop.{ShowsDerivedAfterStop}
use Rattle.reg_store_migration.specs.Older.{ShowsOlder}
use Rattle.reg_store_migration.specs.declared.version.OlderVersion.{OlderVersion}
use Rattle.reg_store_opening.specs.VersionAndOffice.{IsOlder}

-- the rows after a register was created: those of one with no records, in a database that had no table, no index and no view
abbrev pub IsCreated : {S : Type 0} → Held S → Issuer → Terms → Trees → Type 0
IsCreated old issuer policy trees =
    (old.schema ≡ no_schema) × ShowsDerivedAfterStop (no_records issuer policy) trees

-- the rows after an opening that writes: the tables were of an older version; if they showed sound records, the rows show the same
-- records in tables of the program's version, with derived tables that match them
abbrev pub IsOpened : {S : Type 0} → Ghosts S → Held S → Trees → Type 0
IsOpened g old trees =
    IsOlder (state g old).now × ((version : OlderVersion) (records : Records)
    → ShowsOlder version g old records → SoundRows records → ShowsDerivedAfterStop records trees)
