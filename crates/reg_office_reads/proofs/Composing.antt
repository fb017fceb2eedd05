-- Faults that are passed on.
use Rattle.std.proofs.Common.{◌≡◌, Result, Ok, Err, sym, subst}
use Rattle.std.specs.Prelude.{IfErr, IsErrAnd}
use Rattle.reg_office_api.specs.LookUps.{IsOfStore}
use Rattle.reg_core.specs.declared.refusal.Fault.{Fault}
use Rattle.reg_core.specs.declared.refusal.Fault.TheVariants.{Memory, Store}
use Rattle.reg_store_tables.specs.Faults.{fault_of}
use Rattle.reg_store_tables.specs.declared.fault.DatabaseFault.{DatabaseFault}
use Rattle.reg_store_tables.specs.declared.fault.DatabaseFault.TheVariants.{Memory as OutOfMemory, Store as Failed}

-- what holds of want of memory and of a failure of the store holds of each fault of the database
pub of_failure : (P : Fault → Type 0) → P Memory → P Store → (failure : DatabaseFault) → P (fault_of failure)
of_failure P lacked failed OutOfMemory = lacked
of_failure P lacked failed Failed = failed

-- so a fault of the database is one of these
pub answer_of_fault : (failure : DatabaseFault) (fault : Fault) → fault ≡ fault_of failure → IsOfStore fault
answer_of_fault failure fault is = subst IsOfStore (sym is) (of_failure IsOfStore tt tt failure)

-- a fault that is passed on is of its kind
pub passed_on : {T : Type 0} (P : Fault → Type 0) (outcome : Result T Fault) (fault : Fault) → IsErrAnd outcome (λ error. error ≡ fault) → P fault → IfErr outcome P
passed_on P (Ok x) fault same holds = absurd same
passed_on P (Err error) fault same holds = subst P (sym same) holds
