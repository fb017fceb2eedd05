-- The effects of a change of any kind, and of a new schedule or issuer.
use Rattle.std.specs.Prelude.{◌≡◌, ◌≤◌, ℕ, false, List, Result, OnOk, OnErr}
use Rattle.sqlite_trees.specs.declared.store.Store.{Ghosts}
use Rattle.sqlite.specs.Held.{Held, state}
use Rattle.sqlite.specs.State.{HasCleanDisk}
use Rattle.reg_core.specs.Changes.{Fits, changed_by, with_schedule}
use Rattle.reg_core.specs.Issuer.{Issuer}
use Rattle.reg_core.specs.Records.{Records}
use Rattle.reg_core.specs.Sound.{SoundRows}
use Rattle.reg_core.specs.declared.change.Change.{Change}
use Rattle.reg_der.specs.Issuers.{with_issuer}
use Rattle.reg_store_tables.specs.DerivedRows.{DerivedRows}
use Rattle.reg_store_tables.specs.Kept.{ShowsKept}
use Rattle.reg_store_tables.specs.Shows.{KeepsOfficeDays, Shows, ShowsBoth}
use Rattle.reg_store_tables.specs.Stays.{Changed, Stays}
use Rattle.reg_store_changes.specs.AfterStoppedChange.{IsChanged, IsIssuerSet, IsScheduled}
use Rattle.reg_store_changes.specs.ChangeEffects.{TurnsOne}
use Rattle.reg_store_changes.specs.DerivedEffects.{with_expired}
use Rattle.reg_store_changes.specs.WithinTransactions.{StaysIdle}

-- if the tables show sound records that the change fits, and the call succeeds, the office's row keeps its days
abbrev pub LeavesOfficeDays : {S A E : Type 0} → Ghosts S → Held S → Held S → ℕ → Change → Result A E → Type 0
LeavesOfficeDays g old new now change result =
    (records : Records) → ShowsKept g old records → SoundRows records → Fits records now change
    → OnOk result (KeepsOfficeDays g old new)

-- The change was made at a moment, or nothing has changed. If sound records allow it, the tables show the changed ones, with derived
-- tables that match them, and the office keeps its days. A serial number that it revoked had one good letter. An error leaves the tables as
-- they were. A stop leaves what it would have left before, or the whole change. No transaction stays open, whatever the result.
pub record MakesChange {S A E : Type 0} (g : Ghosts S) (old new : Held S) (now : ℕ) (change : Change)
    (result : Result A E) : Type 0 where
  pub ok : (records : Records) → ShowsKept g old records → SoundRows records → records.last ≤ now
      → Fits records now change
      → OnOk result (ShowsKept g new (changed_by records now change))
  pub one : HasCleanDisk (state g new) → (records : Records) (columns : DerivedRows)
      → ShowsBoth g old records columns
      → OnOk result (TurnsOne change (with_expired now columns))
  pub days : LeavesOfficeDays g old new now change result
  pub changed : Changed g old new (IsChanged g old now change) result
  pub idle : StaysIdle g old new

-- A schedule of longest validities was set, or nothing has changed. The other records, the derived tables and the days of the office don't
-- change. If no transaction was under way before, none is afterwards.
pub record SetsSchedule {S A E : Type 0} (g : Ghosts S) (old new : Held S) (steps : List (ℕ × ℕ))
    (result : Result A E) : Type 0 where
  pub ok : (records : Records) → ShowsKept g old records
      → OnOk result (ShowsKept g new (with_schedule records steps))
  pub shown : (records : Records) → Shows g old records
      → OnOk result (Shows g new (with_schedule records steps))
  pub days : (records : Records) → Shows g old records → OnOk result (KeepsOfficeDays g old new)
  pub changed : Changed g old new (IsScheduled g old steps) result
  pub err : OnErr result (Stays (state g old) (state g new))
  pub idle : old.in_transaction ≡ false → new.in_transaction ≡ false

-- An issuer with the same key was set, or nothing has changed. The other records, the derived tables and the days of the office don't
-- change. If no transaction was under way before, none is afterwards.
pub record SetsIssuer {S A E : Type 0} (g : Ghosts S) (old new : Held S) (issuer : Issuer)
    (result : Result A E) : Type 0 where
  pub ok : (records : Records) → ShowsKept g old records
      → (HasCleanDisk (state g new) → records.issuer.key ≡ issuer.key)
      → OnOk result (ShowsKept g new (with_issuer records issuer))
  pub days : (records : Records) → ShowsKept g old records → records.issuer.key ≡ issuer.key
      → OnOk result (KeepsOfficeDays g old new)
  pub changed : Changed g old new (IsIssuerSet g old issuer) result
  pub err : OnErr result (Stays (state g old) (state g new))
  pub idle : old.in_transaction ≡ false → new.in_transaction ≡ false
