-- The values that a register's records can have. Tables could have others.
use Rattle.std.specs.Prelude.{◌≡◌, ℕ, pos, ◌<◌}
use Rattle.std.specs.List.{AllByRecursion}
use Rattle.reg_core.specs.Calendar.{IsMoment, clock_end}
use Rattle.reg_core.specs.Label.{IsLabel}
use Rattle.reg_core.specs.Records.{Records}
use Rattle.reg_core.specs.Schedule.{IsDays}
use Rattle.reg_core.specs.Reached.{Reached}
use Rattle.reg_store_tables.specs.DerivedRows.{DerivedRows}
use Rattle.reg_store_tables.specs.Kept.{Kept}
use Rattle.reg_audit.specs.Stored.{IsSomeCrl}
pub use Rattle.reg_store_tables.specs.RecordValues.{IsValidity, AreMomentAndReason, HasValues}

-- the column `days` of `office` is a number of days that a schedule can have: 1 to 398
abbrev pub HasAllowedDays : DerivedRows → Type 0
HasAllowedDays columns = (days : ℕ) × (columns.days ≡ pos days) × IsDays days

-- sound records (`Reached`) with the bytes of their CRLs, derived tables that match them, and a column `days` that a schedule can have
abbrev pub IsSoundRegister : Records → DerivedRows → Type 0
IsSoundRegister records columns = Reached IsSomeCrl records × Kept columns records × HasAllowedDays columns

-- each value is one that a register's records and derived rows can have; this is so if the records have a register's values and
-- are sound, and the derived rows match them
pub record AreReadable (records : Records) (columns : DerivedRows) : Type 0 where
  pub office : records.last < clock_end
  pub subscribers : AllByRecursion (λ row. IsLabel row.name) records.subscribers
  pub certificates : AllByRecursion (λ row. IsValidity row.not_before row.not_after) records.certificates
  pub requests : AllByRecursion (λ row. row.received < clock_end) records.requests
  pub revocations : AllByRecursion (λ row. AreMomentAndReason row.at row.reason) records.revocations
  pub crls : AllByRecursion (λ crl. crl.this_update < clock_end) records.crls
  pub letters : AllByRecursion (λ row. IsMoment row.not_after) columns.letters
  pub listed : AllByRecursion
      (λ row. AreMomentAndReason row.at row.reason × IsMoment row.not_after) columns.listed
