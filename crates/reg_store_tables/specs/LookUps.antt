-- The results of look-ups, which change nothing.
use Rattle.std.specs.Prelude.{◌≡◌, ℕ, List, Option, Result, IsTrue, IfOk, OnOk}
use Rattle.sqlite_value.specs.Order.{Row}
use Rattle.sqlite_trees.specs.declared.store.Store.{Ghosts}
use Rattle.sqlite.specs.Held.{Held, state}
use Rattle.sqlite.specs.State.{State, HasCleanDisk}
use Rattle.reg_core.specs.Records.{Records}
use Rattle.reg_core.specs.Sound.{SoundRows}
use Rattle.reg_store_tables.specs.Failing.{FailsWith, FailsOnlyByLimit, ShowsWritten}
use Rattle.reg_store_tables.specs.Kept.{ShowsKeptUntil}
use Rattle.reg_store_tables.specs.ReadStatements.{Answers}
use Rattle.reg_store_tables.specs.ShownRows.{ShowsRow, ShowsOneRow, ShowsOnly}
use Rattle.reg_store_tables.specs.Shows.{ShowsUntil}
use Rattle.reg_store_tables.specs.Stays.{HasSchema, Looked}
use Rattle.reg_store_tables.specs.declared.fault.DatabaseFault.{DatabaseFault}
use Rattle.reg_store_tables.specs.declared.fault.DatabaseFault.TheVariants.{Store}

-- ---- one statement

-- A query: it changes nothing, `view` of its result has the rows that the text reads, and it reports `Store` only if the database failed.
pub record Queries {C T : Type 0} (g : Ghosts C) (old new : Held C) (text : List ℕ) (params : Row)
    (result : Result T DatabaseFault) (view : T → List Row) : Type 0 where
  pub looked : Looked g old new
  pub rows : HasSchema (state g old) → HasCleanDisk (state g new)
      → IfOk result (λ found. Answers (state g old) text params (view found))
  pub fails : FailsOnlyByLimit text params → HasSchema (state g old)
      → FailsWith Store (state g old) (state g new) result

-- A statement that reads: it changes nothing, and `view` of its result is the value that its rows show (`Shown`). If they show one by
-- `ShownWell`, it reports `Store` only if the database failed.
pub record ReadsBy {C T W : Type 0} (g : Ghosts C) (old new : Held C) (text : List ℕ) (params : Row)
    (result : Result T DatabaseFault)
    (view : T → W) (Shown ShownWell : State → List ℕ → Row → W → Type 0) : Type 0 where
  pub looked : Looked g old new
  pub live : HasSchema (state g old) → HasCleanDisk (state g new)
      → OnOk result (IsTrue (state g old).is_open)
  pub found : (wanted : W) → HasSchema (state g old) → HasCleanDisk (state g new)
      → Shown (state g old) text params wanted
      → IfOk result (λ found. view found ≡ wanted)
  pub fails : (wanted : W) → FailsOnlyByLimit text params → HasSchema (state g old)
      → ShownWell (state g old) text params wanted
      → FailsWith Store (state g old) (state g new) result

module _ {C R : Type 0} (has_valid_serial has_values : R → Type 0) (shown : R → Row) (g : Ghosts C)
    (old new : Held C)
    (text : List ℕ) (params : Row) where
  -- a statement that reads at most one row
  abbrev pub ReadsRow : Result (Option R) DatabaseFault → Type 0
  ReadsRow result =
      ReadsBy g old new text params result (λ found. found) (ShowsRow has_valid_serial shown)
      (ShowsOneRow (λ it. has_valid_serial it × has_values it) shown)

  -- a statement that reads exactly one row
  abbrev pub ReadsOne : Result R DatabaseFault → Type 0
  ReadsOne result =
      ReadsBy g old new text params result (λ found. found) (ShowsOnly has_valid_serial shown)
      (ShowsOnly (λ it. has_valid_serial it × has_values it) shown)

-- ---- a look-up

-- A look-up: it changes nothing, and `IsSo` holds of the records that the tables show and of its result, if the disk returned what was written.
-- Over rows that a register writes, and if `MayBeAsked` holds, it reports a failure of the store only if the database failed.
pub record FindsIf {C T : Type 0} (MayBeAsked : Records → Type 0) (g : Ghosts C) (old new : Held C)
    (result : Result T DatabaseFault) (IsSo : Records → T → Type 0) : Type 0 where
  pub looked : Looked g old new
  pub found : (records : Records) → ShowsUntil g old new records → HasCleanDisk (state g new)
      → IfOk result (IsSo records)
  pub fails : (records : Records) → MayBeAsked records → ShowsWritten g old records
      → FailsWith Store (state g old) (state g new) result

-- a look-up that may always be asked
abbrev pub Finds : {C T : Type 0} → Ghosts C → Held C → Held C → Result T DatabaseFault
    → (Records → T → Type 0) → Type 0
Finds g old new result IsSo = FindsIf (λ records. Unit {0}) g old new result IsSo

-- ---- look-ups, one after another

-- The look-ups change nothing. If the tables show sound records, with derived tables that match them, `IsSo` holds of the records.
pub record LooksUp {C : Type 0} (g : Ghosts C) (old new : Held C) (IsSo : Records → Type 0) : Type 0 where
  pub looked : Looked g old new
  pub found : (records : Records) → ShowsKeptUntil g old new records → SoundRows records
      → HasCleanDisk (state g new) → IsSo records

-- `LooksUp`: if the look-ups succeed, `IsSo` holds of the records and of the result
abbrev pub Learns : {C T E : Type 0} → Ghosts C → Held C → Held C → Result T E
    → (Records → T → Type 0) → Type 0
Learns g old new result IsSo = LooksUp g old new (λ records. IfOk result (IsSo records))
