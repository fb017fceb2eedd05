-- The effects of the steps of a change on the database.
use Rattle.std.specs.Prelude.{◌≡◌, ℕ, List, []}
use Rattle.sqlite_trees.specs.Tree.{Trees}
use Rattle.sqlite.specs.Effect.{Database, IsDatabase}
use Rattle.reg_core.specs.Changes.{Fits, changed_by, with_revocation}
use Rattle.reg_core.specs.Issuer.{Issuer}
use Rattle.reg_core.specs.Records.{Records}
use Rattle.reg_core.specs.Schedule.{IsSchedule}
use Rattle.reg_core.specs.Sound.{SoundRows}
use Rattle.reg_core.specs.declared.change.Change.{Change}
use Rattle.reg_core.specs.declared.rows.RevocationRow.{RevocationRow}
use Rattle.reg_der.specs.Issuers.{with_issuer}
use Rattle.reg_store_tables.specs.DerivedRows.{DerivedRows}
use Rattle.reg_store_tables.specs.Shows.{AreRecordsAndDerived}
use Rattle.reg_store_tables.specs.Staged.{IsStaged}
use Rattle.reg_store_tables.specs.Steps.{TurnsWhere}
use Rattle.reg_store_changes.specs.ChangeEffects.{TurnsOne, derived_after, derived_rows_after}
use Rattle.reg_store_changes.specs.DerivedEffects.{good_at, with_expired, with_revoked_letter, with_unlisted}

-- a certificate with this notAfter, which had one good letter, is revoked
abbrev pub Revokes : RevocationRow → ℕ → Database → Database → Type 0
Revokes row not_after old new =
    (records : Records) (columns : DerivedRows) → AreRecordsAndDerived old records columns
    → (good_at row.serial columns ≡ 1) × AreRecordsAndDerived new (with_revocation records records.last row)
    (with_unlisted row not_after (with_revoked_letter row.serial columns))

-- over sound records that a change fits, its rows are written, and those of the derived tables except the counts; `one`: see `TurnsOne`
pub record Puts (change : Change) (old new : Database) : Type 0 where
  pub turns : (records : Records) (columns : DerivedRows) (now : ℕ) → SoundRows records
      → Fits records now change → AreRecordsAndDerived old records columns
      → AreRecordsAndDerived new (changed_by records records.last change) (derived_rows_after change columns)
  pub one : (records : Records) (columns : DerivedRows) → AreRecordsAndDerived old records columns
      → TurnsOne change columns

-- over sound records that a change fits, the whole change is made at a moment; `one`: see `TurnsOne`
pub record Enters (now : ℕ) (change : Change) (old new : Database) : Type 0 where
  pub turns : (records : Records) (columns : DerivedRows) → SoundRows records
      → Fits records now change → AreRecordsAndDerived old records columns
      → AreRecordsAndDerived new (changed_by records now change) (derived_after now change columns)
      × IsDatabase new
  pub one : (records : Records) (columns : DerivedRows) → AreRecordsAndDerived old records columns
      → TurnsOne change (with_expired now columns)

-- an issuer with the same key replaces the one before
abbrev pub ReplacesIssuer : Issuer → Database → Database → Type 0
ReplacesIssuer issuer =
    TurnsWhere (λ records. records.issuer.key ≡ issuer.key) (λ records. with_issuer records issuer)
    (λ columns. columns)

-- all steps of the schedule are deleted
abbrev pub ClearsSteps : Database → Database → Type 0
ClearsSteps old new = (base : Trees) (steps : List (ℕ × ℕ)) → IsStaged base steps old → IsStaged base [] new

-- these steps are a schedule, and replace the steps before
pub record WritesSchedule (steps : List (ℕ × ℕ)) (old new : Database) : Type 0 where
  pub sound : IsSchedule steps
  pub staged : (base : Trees) (before : List (ℕ × ℕ)) → IsStaged base before old
      → IsStaged base steps new × IsDatabase new
