-- Conversions of faults: from the `Error` of sqlite to a `DatabaseFault`, and from that to a `StoreFault` or to the `Fault` of a command or query.
use Rattle.sqlite.specs.declared.error.Error.{Error}
use Rattle.sqlite.specs.declared.error.Error.TheVariants.{SqliteFailure}
use Rattle.sqlite.specs.declared.error.ErrorCode.TheVariants.{OutOfMemory}
use Rattle.reg_core.specs.declared.refusal.Fault.{Fault}
use Rattle.reg_core.specs.declared.refusal.Fault.TheVariants.{Memory as LackedMemory, Store as StoreFailed}
use Rattle.reg_der.specs.declared.issuer.IssuerFault.{IssuerFault}
use Rattle.reg_der.specs.declared.issuer.IssuerFault.TheVariants as issuer
use Rattle.reg_store_tables.specs.declared.fault.DatabaseFault.{DatabaseFault}
use Rattle.reg_store_tables.specs.declared.fault.DatabaseFault.TheVariants as call
use Rattle.reg_store_tables.specs.declared.fault.RowFault.{RowFault}
use Rattle.reg_store_tables.specs.declared.fault.RowFault.TheVariants as rows
use Rattle.reg_store_tables.specs.declared.fault.StoreFault.{StoreFault}
use Rattle.reg_store_tables.specs.declared.fault.StoreFault.TheVariants.{Memory, Store}

-- the fault of a call for an error of the database: out of memory, or another failure
abbrev pub database_fault_of : Error → DatabaseFault
database_fault_of (SqliteFailure OutOfMemory) = call.Memory
database_fault_of _ = call.Store

-- the fault of a call if memory ran out, or the bytes of a row are no issuer's
abbrev pub issuer_fault_of : IssuerFault → DatabaseFault
issuer_fault_of issuer.Memory = call.Memory
issuer_fault_of issuer.BadName = call.Store
issuer_fault_of issuer.BadKey = call.Store

-- the fault of a call if memory ran out, or a row has an invalid value
abbrev pub row_fault_of : RowFault → DatabaseFault
row_fault_of rows.Memory = call.Memory
row_fault_of (rows.At place) = call.Store

-- the fault of a call on an open register, as one of the store
abbrev pub store_fault_of : DatabaseFault → StoreFault
store_fault_of call.Memory = Memory
store_fault_of call.Store = Store

-- the fault of a call, as one of a command or a query
abbrev pub fault_of : DatabaseFault → Fault
fault_of call.Memory = LackedMemory
fault_of call.Store = StoreFailed
