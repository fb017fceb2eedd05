-- The faults of an audit that does not find all rows sound.
use Rattle.std.specs.Prelude.{◌≢◌, Result, IfErr}
use Rattle.reg_core.specs.Records.{Records}
use Rattle.reg_core.specs.Reached.{Reached, ReachedRows}
use Rattle.reg_core.specs.declared.broken_row.BrokenRow.{BrokenRow as Row}
use Rattle.reg_audit.specs.declared.check_fault.CheckFault.{CheckFault}
use Rattle.reg_audit.specs.declared.check_fault.CheckFault.TheVariants as found
use Rattle.reg_core.specs.declared.broken_row.Defect.TheVariants.{OtherBytes}
use Rattle.reg_store_tables.specs.DerivedRows.{DerivedRows}
use Rattle.reg_store_tables.specs.Kept.{Kept}
use Rattle.reg_store_tables.specs.declared.fault.DatabaseFault.{DatabaseFault}
use Rattle.reg_store_tables.specs.declared.fault.DatabaseFault.TheVariants as fault
use Rattle.reg_audit.specs.Stored.{IsSomeCrl}
use Rattle.reg_audit.specs.ReadableValues.{HasAllowedDays, HasValues}
use Rattle.reg_audit.specs.declared.fault.AuditFault.{AuditFault}
use Rattle.reg_audit.specs.declared.fault.AuditFault.TheVariants.{Memory, Store, Broken}

-- the audit's fault for a fault of the database
abbrev pub fault_of_call : DatabaseFault → AuditFault
fault_of_call fault.Memory = Memory
fault_of_call fault.Store = Store

-- the audit's fault for a fault of a check of rows
abbrev pub fault_of_check : CheckFault → AuditFault
fault_of_check found.Memory = Memory
fault_of_check (found.Broken broken) = Broken broken

-- the fault is a broken row, not out of memory or a failure of the database
abbrev pub EndsAtBrokenRow : AuditFault → Type 0
EndsAtBrokenRow Memory = ⊥
EndsAtBrokenRow Store = ⊥
EndsAtBrokenRow (Broken broken) = Unit {0}

-- the result is not a broken row
abbrev pub NoBrokenRow : {T : Type 0} → Result T AuditFault → Type 0
NoBrokenRow result = IfErr result (λ fault. ¬ EndsAtBrokenRow fault)

-- if the result is a broken row, `Holds` is false
abbrev pub NoBrokenRowIf : {T : Type 0} → Type 0 → Result T AuditFault → Type 0
NoBrokenRowIf Holds result = IfErr result (λ fault. EndsAtBrokenRow fault → ¬ Holds)

-- the fault is a row that breaks a rule of the records or of the derived tables, not a CRL with other bytes
abbrev pub BreaksRule : AuditFault → Type 0
BreaksRule Memory = ⊥
BreaksRule Store = ⊥
BreaksRule (Broken broken) = broken.why ≢ OtherBytes

-- What a broken row disproves of the records and derived rows that tables show. `whole`: not all of this holds: the records have
-- a register's values and are sound (`Reached`), each CRL has the bytes of its entries, the derived rows match, and the column
-- `days` of `office` is a number that a schedule can have. `rows`: the same without the bytes of CRLs, unless these are the defect.
pub record Disproves (row : Row) (records : Records) (columns : DerivedRows) : Type 0 where
  pub whole : HasValues records → Reached IsSomeCrl records → Kept columns records → HasAllowedDays columns
      → ⊥
  pub rows : row.why ≢ OtherBytes → HasValues records → ReachedRows records → Kept columns records
      → HasAllowedDays columns → ⊥

-- an audit that ends with a broken row disproves this by that row
abbrev pub IsDisproved : AuditFault → Records → DerivedRows → Type 0
IsDisproved Memory records columns = Unit {0}
IsDisproved Store records columns = Unit {0}
IsDisproved (Broken row) records columns = Disproves row records columns
