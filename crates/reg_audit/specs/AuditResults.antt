-- The result of an audit, and what it says of the tables.
use Rattle.std.specs.Prelude.{◌≡◌, ◌≢◌, None, Some, Result, Ok, Err}
use Rattle.sqlite.specs.Effect.{Database}
use Rattle.reg_core.specs.Records.{Records}
use Rattle.reg_store_tables.specs.DerivedRows.{DerivedRows}
use Rattle.reg_store_tables.specs.Schema.{register_schema}
use Rattle.reg_store_tables.specs.declared.fault.StoreFault.{StoreFault}
use Rattle.reg_store_tables.specs.declared.fault.StoreFault.TheVariants as fault
use Rattle.reg_store_opening.specs.Examined.{HasVersionAndOffice}
use Rattle.reg_store_opening.specs.declared.version_check.OlderOffice.{OlderOffice}
use Rattle.reg_core.specs.declared.audit_result.Audited.{Audited}
use Rattle.reg_audit.specs.Numbers.{AreNumbersOf}
use Rattle.reg_audit.specs.Faults.{Disproves}
use Rattle.reg_audit.specs.declared.fault.AuditFault.{AuditFault}
use Rattle.reg_audit.specs.declared.fault.AuditFault.TheVariants as audit_fault
use Rattle.reg_core.specs.declared.audit_result.AuditResult.{AuditResult}
use Rattle.reg_core.specs.declared.audit_result.AuditResult.TheVariants.{Sound, Broken, Older, OtherSchema}

-- the result: sound rows, or a broken row; otherwise the fault
abbrev pub audit_result_of : Result Audited AuditFault → Result AuditResult StoreFault
audit_result_of (Ok found) = Ok (Sound found)
audit_result_of (Err (audit_fault.Broken broken)) = Ok (Broken broken)
audit_result_of (Err audit_fault.Memory) = Err fault.Memory
audit_result_of (Err audit_fault.Store) = Err fault.Store

-- the result is `Sound`
abbrev pub IsSound : AuditResult → Type 0
IsSound (Sound found) = Unit {0}
IsSound _ = ⊥

-- a `Sound` result has the numbers of certificates, revocations and CRLs that the records have
abbrev pub CountedBy : AuditResult → Records → Type 0
CountedBy (Sound found) records = AreNumbersOf records found
CountedBy _ records = Unit {0}

-- what a `Broken` result disproves of the records and derived rows that the tables show
abbrev pub DisprovedBy : AuditResult → Records → DerivedRows → Type 0
DisprovedBy (Broken row) records columns = Disproves row records columns
DisprovedBy _ records columns = Unit {0}

-- what a result says of the tables that were read: an older version, with its row of `office`; or the program's version, with its row
-- of `office`, and another schema than a register's (`OtherSchema`) or a register's (`Sound` and `Broken`)
abbrev pub ReportsTables : AuditResult → Database → Type 0
ReportsTables Older db = (office : OlderOffice) × HasVersionAndOffice db (Some office)
ReportsTables OtherSchema db = HasVersionAndOffice db None × (db.schema ≢ register_schema)
ReportsTables (Sound found) db = HasVersionAndOffice db None × (db.schema ≡ register_schema)
ReportsTables (Broken row) db = HasVersionAndOffice db None × (db.schema ≡ register_schema)
