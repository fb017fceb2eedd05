-- The effects of a change on the derived tables.
use Rattle.std.specs.Prelude.{◌≡◌, ℕ, List}
use Rattle.reg_core.specs.Records.{Crl}
use Rattle.reg_core.specs.declared.change.Change.{Change}
use Rattle.reg_core.specs.declared.change.Change.TheVariants.{Certificate, Revocation, Crl as NewCrl}
use Rattle.reg_core.specs.declared.rows.CrlRow.{CrlRow}
use Rattle.reg_store_tables.specs.DerivedRows.{DerivedRows, with_counts}
use Rattle.reg_store_changes.specs.DerivedEffects.{with_expired, count_ended_before, with_revoked_letter, good_at, with_good, with_unlisted, with_last_listings, shifted}

-- a CRL with its bytes
abbrev pub crl_of : CrlRow → List ℕ → Crl
crl_of row bytes = record { number = row.number; this_update = row.this_update; bytes = bytes }

-- how many certificates a change revokes
abbrev pub newly_revoked : Change → ℕ
newly_revoked (Revocation row not_after) = 1
newly_revoked change = 0

-- how many certificates a change adds
abbrev pub added : Change → ℕ
added (Certificate row) = 1
added change = 0

-- if the change is a revocation, its serial number has one good letter
abbrev pub TurnsOne : Change → DerivedRows → Type 0
TurnsOne (Revocation row not_after) columns = good_at row.serial columns ≡ 1
TurnsOne change columns = Unit {0}

-- the state letters and the rows of `listed` after a change
abbrev pub derived_rows_after : Change → DerivedRows → DerivedRows
derived_rows_after (Certificate row) columns = with_good row.serial row.not_after columns
derived_rows_after (Revocation row not_after) columns =
    with_unlisted row not_after (with_revoked_letter row.serial columns)
derived_rows_after (NewCrl row der) columns = with_last_listings row.number row.this_update columns
derived_rows_after change columns = columns

-- the derived tables after a change at a moment
abbrev pub derived_after : ℕ → Change → DerivedRows → DerivedRows
derived_after now change columns =
    with_counts (shifted columns.counts (count_ended_before now columns) (newly_revoked change) (added change))
    (derived_rows_after change (with_expired now columns))
