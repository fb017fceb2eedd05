-- A register that is opened again after a stop.
use Rattle.std.specs.Prelude.{◌≡◌, ◌⊎◌, ℕ, List, IsTrue}
use Rattle.sqlite_trees.specs.declared.store.Store.{Ghosts}
use Rattle.sqlite.specs.Held.{Held, state}
use Rattle.sqlite.specs.State.{HasCleanDisk, IsLive, Opens, Survives}
use Rattle.reg_core.specs.Changes.{with_schedule}
use Rattle.reg_core.specs.Issuer.{Issuer}
use Rattle.reg_core.specs.Policy.{Terms}
use Rattle.reg_core.specs.Records.{Records, no_records}
use Rattle.reg_core.specs.Sound.{SoundRows}
use Rattle.reg_store_tables.specs.Kept.{ShowsKept}
use Rattle.reg_store_tables.specs.Schema.{no_schema}
use Rattle.reg_store_tables.specs.Shows.{Shows}
use Rattle.reg_store_changes.specs.AfterStoppedChange.{IsIssuerSet, IsScheduled}
use Rattle.reg_der.specs.Issuers.{with_issuer}
use Rattle.reg_store_migration.specs.Older.{ShowsOlder}
use Rattle.reg_store_migration.specs.declared.version.OlderVersion.{OlderVersion}
use Rattle.reg_store_opening.specs.AfterStoppedOpening.{IsCreated, IsOpened}

-- The machine stopped, and the database was opened again. The disk had returned what was written until then. The new connection obeys the
-- schema that it found, and shows rows that a stop at that moment may leave.
pub record IsOpenedAgain {S : Type 0} (g : Ghosts S) (held again : Held S) : Type 0 where
  pub honest : HasCleanDisk (state g held)
  pub opens : Opens (state g again)
  pub live : IsLive (state g again)
  pub found : ∥ (state g held).may_leave (state g again).committed.trees ∥₁

-- after a stop while a register is made, the opened database is as last committed before, or it was empty and is a register without records
abbrev pub OpensEmptyOrMade : {S : Type 0} → Ghosts S → Type 0
OpensEmptyOrMade {S = S} g =
    (old new again : Held S) (issuer : Issuer) (policy : Terms)
    → IsTrue (state g old).is_open → IsLive (state g old)
    → Survives (state g old) (state g new) (IsCreated old issuer policy) → IsOpenedAgain g new again
    → ∥ ((state g again).now ≡ (state g old).committed)
    ⊎ ((old.schema ≡ no_schema) × ShowsKept g again (no_records issuer policy)) ∥₁

-- After a stop while a register is opened: one of the program's version is as last committed, and shows the records that it showed. One of an
-- older version shows its sound records in the tables of that version, or in the program's with derived tables that match them.
abbrev pub OpensWithTheSame : {S : Type 0} → Ghosts S → Type 0
OpensWithTheSame {S = S} g =
    (old new again : Held S)
    → IsTrue (state g old).is_open → IsLive (state g old)
    → Survives (state g old) (state g new) (IsOpened g old) → IsOpenedAgain g new again
    → ((records : Records) → Shows g old records → (state g again).now ≡ (state g old).committed)
    × ((records : Records) → ShowsKept g old records → ShowsKept g again records)
    × ((version : OlderVersion) (records : Records) → ShowsOlder version g old records → SoundRows records
    → ∥ ShowsOlder version g again records ⊎ ShowsKept g again records ∥₁)

-- after a stop while a schedule is set, the opened register shows the records with the schedule before the call, or with the new one
abbrev pub OpensWithASchedule : {S : Type 0} → Ghosts S → Type 0
OpensWithASchedule {S = S} g =
    (old new again : Held S) (records : Records) (steps : List (ℕ × ℕ))
    → ShowsKept g old records → IsTrue (state g old).is_open → IsLive (state g old)
    → Survives (state g old) (state g new) (IsScheduled g old steps) → IsOpenedAgain g new again
    → ∥ ShowsKept g again records ⊎ ShowsKept g again (with_schedule records steps) ∥₁

-- after a stop while an issuer with the same key is set, the opened register shows the records with the issuer before the call, or with the
-- new one
abbrev pub OpensWithAnIssuer : {S : Type 0} → Ghosts S → Type 0
OpensWithAnIssuer {S = S} g =
    (old new again : Held S) (records : Records) (issuer : Issuer)
    → ShowsKept g old records → records.issuer.key ≡ issuer.key → IsTrue (state g old).is_open
    → IsLive (state g old) → Survives (state g old) (state g new) (IsIssuerSet g old issuer)
    → IsOpenedAgain g new again
    → ∥ ShowsKept g again records ⊎ ShowsKept g again (with_issuer records issuer) ∥₁
