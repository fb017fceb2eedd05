-- How the look of an audit ends.
use Rattle.std.proofs.Common.{◌≡◌, ◌≢◌, ℕ, ◌<◌, false, true, Some, None, is_some, Result, Ok, Err, IfOk, inl, refl, sym, ap, subst, ◌∙◌}
use Rattle.std.specs.Prelude.{Option, IsErrAnd}
use Rattle.sqlite_trees.specs.declared.store.Store.{Ghosts}
use Rattle.sqlite.specs.Effect.{Database}
use Rattle.sqlite.specs.Held.{Held, state}
use Rattle.sqlite.specs.State.{State, HasCleanDisk}
use Rattle.reg_store_tables.specs.Schema.{register_schema}
use Rattle.reg_store_tables.specs.Stays.{Stays}
use Rattle.reg_store_tables.specs.declared.fault.StoreFault.{StoreFault}
use Rattle.reg_store_tables.specs.declared.fault.StoreFault.TheVariants as fault
use Rattle.reg_core.specs.declared.audit_result.Audited.{Audited}
use Rattle.reg_core.specs.declared.audit_result.AuditResult.{AuditResult}
use Rattle.reg_core.specs.declared.audit_result.AuditResult.TheVariants as audit_result
use Rattle.reg_audit.specs.declared.fault.AuditFault.{AuditFault}
use Rattle.reg_audit.specs.declared.fault.AuditFault.TheVariants as audit_fault
use Rattle.reg_store_opening.specs.Examined.{HasVersionAndOffice}
use Rattle.reg_store_opening.specs.VersionAndOffice.{HasVersion, HasNoRegister}
use Rattle.reg_store_opening.specs.declared.version_check.OlderOffice.{OlderOffice}
use Rattle.reg_audit.specs.Judged.{IsJudged}
use Rattle.reg_audit.specs.AuditResults.{ReportsTables, audit_result_of}

-- a fault of who looks at the version
abbrev fails_by : StoreFault → Result (Option OlderOffice) StoreFault
fails_by why = Err why

-- nothing was done yet
pub stays_same : (s : State) → Stays s s
stays_same s = record { was_open = λ clean up. up; now = λ clean up. inl refl; committed = λ clean up. refl }

module _ {S : Type 0} (g : Ghosts S) (old new : Held S) (same : Stays (state g old) (state g new)) (idle : new.in_transaction ≡ false) where
  -- the look at the version fails
  pub failed_first :
      (result : Result AuditResult StoreFault) (why : StoreFault) → IsErrAnd result (λ error. error ≡ why)
      → (HasCleanDisk (state g new) → fails_by why ≡ Err fault.NewVersion → (n : ℕ) × (3 < n) × HasVersion (state g old).now n)
      → (HasCleanDisk (state g new) → fails_by why ≡ Err fault.NotARegister → HasNoRegister (state g old).now)
      → why ≢ fault.NotEmpty → IsJudged g old new result
  failed_first (Ok answer) why is newer none other = absurd is
  failed_first (Err error) why is newer none other = record {
    sound = λ records columns shows clean. tt;
    shown = λ up presumed clean. tt;
    counted = λ records columns shows clean. tt;
    broken = λ records columns shows clean. tt;
    reports_tables = λ clean. tt;
    newer = λ clean e. newer clean (ap fails_by (sym is ∙ (let its : error ≡ fault.NewVersion = cc in its)));
    none = λ clean e. none clean (ap fails_by (sym is ∙ (let its : error ≡ fault.NotARegister = cc in its)));
    register = tt;
    same = same;
    idle = idle;
    faults = λ e. other (sym is ∙ e);
  }

  -- the version is an older one
  pub ended_older : (HasCleanDisk (state g new) → ReportsTables audit_result.Older (state g old).now) → IsJudged g old new (Ok audit_result.Older)
  ended_older reports_tables = record {
    sound = λ records columns shows clean sound. absurd sound;
    shown = λ up presumed clean sound. absurd sound;
    counted = λ records columns shows clean. tt;
    broken = λ records columns shows clean. tt;
    reports_tables = reports_tables;
    newer = λ clean e. absurd (let bad : ⊥ = cc in bad);
    none = λ clean e. absurd (let bad : ⊥ = cc in bad);
    register = λ sound. absurd sound;
    same = same;
    idle = idle;
    faults = tt;
  }

  -- the schema is another
  pub ended_other : (HasCleanDisk (state g new) → ReportsTables audit_result.OtherSchema (state g old).now) → IsJudged g old new (Ok audit_result.OtherSchema)
  ended_other reports_tables = record {
    sound = λ records columns shows clean sound. absurd sound;
    shown = λ up presumed clean sound. absurd sound;
    counted = λ records columns shows clean. tt;
    broken = λ records columns shows clean. tt;
    reports_tables = reports_tables;
    newer = λ clean e. absurd (let bad : ⊥ = cc in bad);
    none = λ clean e. absurd (let bad : ⊥ = cc in bad);
    register = λ sound. absurd sound;
    same = same;
    idle = idle;
    faults = tt;
  }

-- an older version that was found is told
pub says_older : (db : Database) (found : Option OlderOffice) → is_some found ≡ true → HasVersionAndOffice db found → ReportsTables audit_result.Older db
says_older db None some says = absurd (let bad : ⊥ = cc in bad)
says_older db (Some older) some says = (older, says)

-- rows that were looked at are those of the program's version, in a register's tables
tables_reported : (db : Database) (audited : Result Audited AuditFault) → HasVersionAndOffice db None × (db.schema ≡ register_schema) → IfOk (audit_result_of audited) (λ answer. ReportsTables answer db)
tables_reported db (Ok found) says = says
tables_reported db (Err (audit_fault.Broken broken)) says = says
tables_reported db (Err audit_fault.Memory) says = tt
tables_reported db (Err audit_fault.Store) says = tt

pub tables_said : (db : Database) (audited : Result Audited AuditFault) (result : Result AuditResult StoreFault) → result ≡ audit_result_of audited
    → HasVersionAndOffice db None × (db.schema ≡ register_schema) → IfOk result (λ answer. ReportsTables answer db)
tables_said db audited result is says = subst (λ (r : Result AuditResult StoreFault). IfOk r (λ answer. ReportsTables answer db)) (sym is) (tables_reported db audited says)

-- who looks at rows has no fault of the version
pub never_newer : {P : Type 0} (audited : Result Audited AuditFault) → audit_result_of audited ≡ Err fault.NewVersion → P
never_newer (Ok found) e = absurd (let bad : ⊥ = cc in bad)
never_newer (Err (audit_fault.Broken broken)) e = absurd (let bad : ⊥ = cc in bad)
never_newer (Err audit_fault.Memory) e = absurd (let bad : ⊥ = cc in bad)
never_newer (Err audit_fault.Store) e = absurd (let bad : ⊥ = cc in bad)

pub never_none : {P : Type 0} (audited : Result Audited AuditFault) → audit_result_of audited ≡ Err fault.NotARegister → P
never_none (Ok found) e = absurd (let bad : ⊥ = cc in bad)
never_none (Err (audit_fault.Broken broken)) e = absurd (let bad : ⊥ = cc in bad)
never_none (Err audit_fault.Memory) e = absurd (let bad : ⊥ = cc in bad)
never_none (Err audit_fault.Store) e = absurd (let bad : ⊥ = cc in bad)
