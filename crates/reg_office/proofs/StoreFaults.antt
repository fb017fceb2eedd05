-- Faults of the database that a call of the office passes on.
use Rattle.std.proofs.Common.{◌≡◌}
use Rattle.reg_core.specs.declared.refusal.Fault.{Fault}
use Rattle.reg_office_api.specs.LookUps.{IsOfStore}
use Rattle.reg_office_reads.proofs.PublicLaws.{answer_of_fault}
use Rattle.reg_store_tables.specs.Faults.{fault_of}
use Rattle.reg_store_tables.specs.declared.fault.DatabaseFault.{DatabaseFault}

-- a fault of the database is want of memory or a failure of the store
pub store_fault : (failure : DatabaseFault) (fault : Fault) → fault ≡ fault_of failure → IsOfStore fault
store_fault failure fault is = answer_of_fault failure fault is
