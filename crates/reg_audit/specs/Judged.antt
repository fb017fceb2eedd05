-- What the result of an audit says of a database, and that the audit changes nothing.
use Rattle.std.specs.Prelude.{◌≡◌, ◌≢◌, ℕ, ◌<◌, false, Result, Err, IfOk, IfErr, IsTrue}
use Rattle.sqlite_trees.specs.declared.store.Store.{Ghosts}
use Rattle.sqlite.specs.Held.{Held, state}
use Rattle.sqlite.specs.State.{HasCleanDisk}
use Rattle.reg_core.specs.Records.{Records}
use Rattle.reg_store_tables.specs.DerivedRows.{DerivedRows}
use Rattle.reg_store_tables.specs.Shows.{ShowsBoth}
use Rattle.reg_store_tables.specs.Stays.{IsRegister, Stays}
use Rattle.reg_store_tables.specs.declared.fault.StoreFault.{StoreFault}
use Rattle.reg_store_tables.specs.declared.fault.StoreFault.TheVariants.{NewVersion, NotARegister, NotEmpty}
use Rattle.reg_store_opening.specs.VersionAndOffice.{HasVersion, HasNoRegister}
use Rattle.reg_audit.specs.Complete.{ShowsSound}
use Rattle.reg_core.specs.declared.audit_result.AuditResult.{AuditResult}
use Rattle.reg_audit.specs.Presumed.{IsPresumed}
use Rattle.reg_audit.specs.ReadableValues.{IsSoundRegister}
use Rattle.reg_audit.specs.AuditResults.{CountedBy, DisprovedBy, IsSound, ReportsTables}

-- `Sound`: all records that the tables show are sound, and their numbers are reported; there are such records if the presumed facts hold.
-- `Broken`: see `DisprovedBy`. Other results say which tables there are. No error is `NotEmpty`. No table changes.
pub record IsJudged {S : Type 0} (g : Ghosts S) (old new : Held S)
    (result : Result AuditResult StoreFault) : Type 0 where
  pub sound : (records : Records) (columns : DerivedRows) → ShowsBoth g old records columns
      → HasCleanDisk (state g new)
      → IfOk result (λ audit_result. IsSound audit_result → IsSoundRegister records columns)
  pub shown : (HasCleanDisk (state g old) → IsTrue (state g old).is_open) → IsPresumed g old
      → HasCleanDisk (state g new)
      → IfOk result (λ audit_result. IsSound audit_result → ShowsSound (state g old).now)
  pub counted : (records : Records) (columns : DerivedRows) → ShowsBoth g old records columns
      → HasCleanDisk (state g new) → IfOk result (λ audit_result. CountedBy audit_result records)
  pub broken : (records : Records) (columns : DerivedRows) → ShowsBoth g old records columns
      → HasCleanDisk (state g new) → IfOk result (λ audit_result. DisprovedBy audit_result records columns)
  pub reports_tables : HasCleanDisk (state g new)
      → IfOk result (λ audit_result. ReportsTables audit_result (state g old).now)
  pub newer : HasCleanDisk (state g new) → result ≡ Err NewVersion
      → (n : ℕ) × (3 < n) × HasVersion (state g old).now n
  pub none : HasCleanDisk (state g new) → result ≡ Err NotARegister → HasNoRegister (state g old).now
  pub register : IfOk result (λ audit_result. IsSound audit_result → IsRegister (state g new))
  pub same : Stays (state g old) (state g new)
  pub idle : new.in_transaction ≡ false
  pub faults : IfErr result (λ fault. fault ≢ NotEmpty)
