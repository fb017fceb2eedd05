-- A database that is opened: tables of the program's version stay as they are, and older ones are made newer.
use Rattle.std.proofs.Common.{◌≡◌, Option, None, Some, Result, Ok, inl, inr, sym, subst}
use Rattle.sqlite_trees.specs.declared.store.Store.{Ghosts}
use Rattle.sqlite.specs.Effect.{Database}
use Rattle.sqlite.specs.Held.{Held, state}
use Rattle.sqlite.specs.State.{HasCleanDisk, Survives}
use Rattle.reg_core.specs.Records.{Records}
use Rattle.reg_core.specs.Schedule.{greatest_of}
use Rattle.reg_core.specs.Sound.{SoundRows}
use Rattle.reg_store_tables.specs.Schema.{register_schema}
use Rattle.reg_store_tables.specs.Shows.{Holds, IsShownBy, Shows}
use Rattle.reg_store_tables.specs.Stays.{IsRegister, LeavesNothing, Stays}
use Rattle.reg_store_tables.proofs.PublicLaws.{kept_shows, stays_holds, stays_kept, stays_shows, left, turns, stays_days, moving-was_clean as was_clean, leaves_first, leaves_less}
use Rattle.reg_store_tables.specs.Commits.{Commits}
use Rattle.reg_store_migration.specs.Older.{older_schema, IsShownByOlder, ShowsOlder}
use Rattle.reg_store_migration.specs.Rebuilds.{MigratesTables}
use Rattle.reg_store_migration.specs.Refilled.{HasKept, HasGreatestDays}
use Rattle.reg_store_migration.specs.declared.version.OlderVersion.{OlderVersion}
use Rattle.reg_store_migration.proofs.PublicLaws.{any_days, any_kept, kept_rests, kept_whole}
use Rattle.reg_store_opening.specs.AfterStoppedOpening.{IsOpened}
use Rattle.reg_store_opening.specs.Examined.{IsFoundOf}
use Rattle.reg_store_opening.specs.Opens.{Opens}
use Rattle.reg_store_opening.specs.VersionAndOffice.{IsCurrent, IsOlder, ShowsAs}
use Rattle.reg_store_opening.specs.declared.version_check.OlderOffice.{OlderOffice}

never_some : {A : Type 0} (x : A) → Some x ≡ None → ⊥
never_some x e = absurd (cc)

-- where nothing can be known, anything holds
any_shown : {S : Type 0} (g : Ghosts S) (h : Held S) (P : Database → Type 0) → (HasCleanDisk (state g h) → ⊥) → Holds g h P
any_shown g h P none = record { saved = λ clean up. absurd (none clean); tables = λ clean up. absurd (none clean) }

-- tables that hold to a register's schema are those of a register
register_by : {S : Type 0} (g : Ghosts S) (h : Held S) → Holds g h (λ db. db.schema ≡ register_schema) → IsRegister (state g h)
register_by g h holds =
    record { now = holds.tables; committed = λ clean up. subst (λ (db : Database). db.schema ≡ register_schema) (holds.saved clean up) (holds.tables clean up) }

-- a database was examined, and nothing has changed
module _ {S : Type 0} {g : Ghosts S} {old mid : Held S} (leaves : LeavesNothing (state g old) (state g mid)) (stays : Stays (state g old) (state g mid)) where
  -- its tables are of the program's version
  pub opens_current : IsRegister (state g mid) → (HasCleanDisk (state g mid) → IsCurrent (state g old).now) → ((version : OlderVersion) (records : Records) → ShowsOlder version g old records → HasCleanDisk (state g mid) → ⊥) → Opens g old mid
  opens_current register says never = record {
    shows = λ records. stays_shows g old mid records leaves.clean stays;
    kept = λ records. stays_kept g old mid records leaves.clean stays;
    migrated = λ version records shows sound. any_kept g mid records (never version records shows);
    live = λ version records shows clean. absurd (never version records shows clean);
    days = λ records shows. stays_days g old mid leaves.clean stays;
    older_days = λ version records shows sound. any_days g mid (greatest_of records.policy.schedule) (never version records shows);
    registers = register;
    said = λ clean. inl (stays, says clean);
    survives = leaves_less (state g old) (state g mid) (IsOpened g old) leaves;
  }

  -- they are of an older version, and a migration was begun
  module _ {new : Held S} {E : Type 0} {r : Result (Unit {0}) E} (older : OlderOffice) (says : HasCleanDisk (state g mid) → IsOlder (state g old).now)
      (found : (version : Option OlderVersion) (records : Records) → ShowsAs version g old records → HasCleanDisk (state g mid) → IsFoundOf version records (Some older))
      (done : Commits g mid new r (MigratesTables older.version older.days older.last)) where
    -- what was shown is led to what follows from it
    made : (version : OlderVersion) (records : Records) → ShowsOlder version g old records → SoundRows records → HasCleanDisk (state g mid) → (before after : Database) → IsShownByOlder version before records
        → MigratesTables older.version older.days older.last before after → HasKept after records × HasGreatestDays after records × Rattle.sqlite.specs.Effect.IsDatabase after
    made version records shows sound clean before after shown on =
        let is = found (Some version) records shows clean in
        on.kept records (subst (λ v. IsShownByOlder v before records) (sym is.0) shown) sound is.1 is.2

    older_stays : (version : OlderVersion) (records : Records) → ShowsOlder version g old records → ShowsOlder version g mid records
    older_stays version records = stays_holds g old mid (λ db. IsShownByOlder version db records) leaves.clean stays

    -- a stop finds the older tables, or these made newer
    pub newer_survives : Survives (state g old) (state g new) (IsOpened g old)
    newer_survives = leaves_first (state g old) (state g mid) (state g new) (IsOpened g old) leaves (left done (IsOpened g old) (λ clean up after trees is on. (
      says clean,
      λ version records shows sound.
          let made_so = made version records shows sound clean (state g mid).now after ((older_stays version records shows).tables clean up) on in
          kept_rests after trees records is made_so.0 made_so.2,
    )))

  pub opens_newer : {new : Held S} {E : Type 0} (older : OlderOffice) → (HasCleanDisk (state g mid) → IsOlder (state g old).now)
      → ((version : Option OlderVersion) (records : Records) → ShowsAs version g old records → HasCleanDisk (state g mid) → IsFoundOf version records (Some older))
      → Holds g mid (λ db. db.schema ≡ older_schema older.version) → Commits {E = E} g mid new (Ok (tt {0})) (MigratesTables older.version older.days older.last) → Opens g old new
  opens_newer {new = new} older says found schema done =
      let was : HasCleanDisk (state g new) → HasCleanDisk (state g mid) = was_clean (state g mid) (state g new) done.survives.clean in
      let never : (records : Records) → Shows g old records → HasCleanDisk (state g new) → ⊥ = λ records shows clean. never_some older (found None records shows (was clean)) in
      record {
        shows = λ records shows. any_shown g new (λ db. IsShownBy db records) (never records shows);
        kept = λ records kept. any_kept g new records (never records (kept_shows g old records kept));
        migrated = λ version records shows sound. kept_whole g new records (turns done (λ db. IsShownByOlder version db records) (λ db. HasKept db records) (older_stays older says found done version records shows)
            (λ clean before after shown on. (made older says found done version records shows sound (was clean) before after shown on).0));
        live = λ version records shows clean. (done.made clean).is_open;
        days = λ records shows days has. any_days g new days (never records shows);
        older_days = λ version records shows sound. turns done (λ db. IsShownByOlder version db records) (λ db. HasGreatestDays db records) (older_stays older says found done version records shows)
            (λ clean before after shown on. (made older says found done version records shows sound (was clean) before after shown on).1);
        registers = register_by g new (turns done (λ db. db.schema ≡ older_schema older.version) (λ db. db.schema ≡ register_schema) schema (λ clean before after has on. on.schema has));
        said = λ clean. inr (says (was clean));
        survives = newer_survives older says found done;
      }
