-- What follows from the result of an audit for the `AuditResult` that is reported.
use Rattle.std.proofs.Common.{◌≡◌, false, Some, None, is_some, Result, Ok, Err, IfOk, IfErr, IsTrue, sym, subst, ◌∙◌, ap}
use Rattle.std.specs.Prelude.{Option}
use Rattle.sqlite.specs.Effect.{Database}
use Rattle.sqlite.specs.State.{State}
use Rattle.reg_core.specs.Records.{Records}
use Rattle.reg_store_tables.specs.DerivedRows.{DerivedRows}
use Rattle.reg_store_tables.specs.Schema.{register_schema}
use Rattle.reg_store_tables.specs.Stays.{IsRegister}
use Rattle.reg_store_tables.specs.declared.fault.StoreFault.{StoreFault}
use Rattle.reg_core.specs.declared.audit_result.Audited.{Audited}
use Rattle.reg_audit.specs.declared.fault.AuditFault.{AuditFault}
use Rattle.reg_audit.specs.declared.fault.AuditFault.TheVariants as audit_fault
use Rattle.reg_audit.specs.Numbers.{AreNumbersOf}
use Rattle.reg_audit.specs.Faults.{IsDisproved}
use Rattle.reg_store_opening.specs.Examined.{HasVersionAndOffice}
use Rattle.reg_store_opening.specs.declared.version_check.OlderOffice.{OlderOffice}
use Rattle.reg_audit.specs.AuditResults.{CountedBy, DisprovedBy, IsSound, audit_result_of}
use Rattle.reg_core.specs.declared.audit_result.AuditResult.{AuditResult}

module _ (P : Type 0) where
  well_said : (audited : Result Audited AuditFault) → IfOk audited (λ _. P) → IfOk (audit_result_of audited) (λ audit_result. IsSound audit_result → P)
  well_said (Ok found) holds = λ sound. holds
  well_said (Err (audit_fault.Broken broken)) holds = λ sound. absurd sound
  well_said (Err audit_fault.Memory) holds = tt
  well_said (Err audit_fault.Store) holds = tt

  -- what holds if all rows are sound holds if the result is `Sound`
  pub sound_said : (audited : Result Audited AuditFault) (result : Result AuditResult StoreFault) → result ≡ audit_result_of audited → IfOk audited (λ _. P)
      → IfOk result (λ audit_result. IsSound audit_result → P)
  sound_said audited result is holds = subst (λ (r : Result AuditResult StoreFault). IfOk r (λ audit_result. IsSound audit_result → P)) (sym is) (well_said audited holds)

  -- and what holds whatever an audit answers holds there too
  pub always_said : (result : Result AuditResult StoreFault) → P → IfOk result (λ audit_result. IsSound audit_result → P)
  always_said (Ok audit_result) holds = λ sound. holds
  always_said (Err fault) holds = tt

module _ (records : Records) (columns : DerivedRows) where
  well_denied : (audited : Result Audited AuditFault) → IfErr audited (λ reason. IsDisproved reason records columns) → IfOk (audit_result_of audited) (λ audit_result. DisprovedBy audit_result records columns)
  well_denied (Err (audit_fault.Broken broken)) denied = denied
  well_denied other denied = tt

  -- what a row that was found denies, it denies where it is told
  pub denied_said : (audited : Result Audited AuditFault) (result : Result AuditResult StoreFault) → result ≡ audit_result_of audited → IfErr audited (λ reason. IsDisproved reason records columns) → IfOk result (λ audit_result. DisprovedBy audit_result records columns)
  denied_said audited result is denied = subst (λ (r : Result AuditResult StoreFault). IfOk r (λ audit_result. DisprovedBy audit_result records columns)) (sym is) (well_denied audited denied)

well_counted : (records : Records) (audited : Result Audited AuditFault) → IfOk audited (AreNumbersOf records) → IfOk (audit_result_of audited) (λ audit_result. CountedBy audit_result records)
well_counted records (Ok found) counted = counted
well_counted records (Err (audit_fault.Broken broken)) counted = tt
well_counted records (Err other) counted = tt

-- the numbers that were found are told
pub counted_said : (records : Records) (audited : Result Audited AuditFault) (result : Result AuditResult StoreFault) → result ≡ audit_result_of audited → IfOk audited (AreNumbersOf records)
    → IfOk result (λ audit_result. CountedBy audit_result records)
counted_said records audited result is counted = subst (λ (r : Result AuditResult StoreFault). IfOk r (λ audit_result. CountedBy audit_result records)) (sym is) (well_counted records audited counted)

-- a schema that is a register's, where all is committed
pub register_by : (s : State) → s.now.schema ≡ register_schema → (IsTrue s.is_open → s.now ≡ s.committed) → IsRegister s
register_by s is saved = record { now = λ clean up. is; committed = λ clean up. ap (λ (db : Database). db.schema) (sym (saved up)) ∙ is }

-- what was found, where it is none older, says the program's version and an office
pub says_third : (db : Database) (found : Option OlderOffice) → is_some found ≡ false → HasVersionAndOffice db found → HasVersionAndOffice db None
says_third db None none says = says
says_third db (Some older) none says = absurd (let bad : ⊥ = cc in bad)
