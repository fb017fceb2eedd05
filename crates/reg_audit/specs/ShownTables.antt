-- The hypotheses of an audit's clauses: the tables, or the rows that were read, show some records and derived rows.
use Rattle.std.specs.Prelude.{List, Result, Vec}
use Rattle.sqlite_trees.specs.declared.store.Store.{Ghosts}
use Rattle.sqlite_value.specs.Order.{Row}
use Rattle.sqlite.specs.Held.{Held, state}
use Rattle.sqlite.specs.State.{HasCleanDisk}
use Rattle.reg_core.specs.Records.{Records}
use Rattle.reg_store_tables.specs.DerivedRows.{DerivedRows}
use Rattle.reg_store_tables.specs.Shows.{ShowsBoth}
use Rattle.reg_audit.specs.Faults.{NoBrokenRow}
use Rattle.reg_audit.specs.ReadQueries.{AreRead, IsReadOf, whole}
use Rattle.reg_audit.specs.ReadableValues.{AreReadable}
use Rattle.reg_audit.specs.declared.fault.AuditFault.{AuditFault}
use Rattle.reg_audit.specs.declared.sql.AuditQuery.{AuditQuery}

-- if the disk returned what was written, `Has` holds of any records and derived rows that the tables show before a call
abbrev pub OnShown : {S : Type 0} → Ghosts S → Held S → Held S → (Records → DerivedRows → Type 0) → Type 0
OnShown g old new Has =
    (records : Records) → (columns : DerivedRows) → ShowsBoth g old records columns
    → HasCleanDisk (state g new) → Has records columns

-- `Has` holds of any records and derived rows from which these rows of one statement were read
abbrev pub OnRead : AuditQuery → List Row → (Records → DerivedRows → Type 0) → Type 0
OnRead what rows Has =
    (records : Records) → (columns : DerivedRows) → IsReadOf records columns what rows → Has records columns

-- `Has` holds of any records and derived rows from which the rows of these statements were read
abbrev pub OnEachRead : {Rows : Type 0} → List AuditQuery → List Rows → (Rows → List Row)
    → (Records → DerivedRows → Type 0) → Type 0
OnEachRead whats all items Has =
    (records : Records) → (columns : DerivedRows) → AreRead records columns whats all items
    → Has records columns

-- the same for the statements of `whole`
abbrev pub OnAllRead : {Z : Type 0} → List (Vec Row Z) → (Records → DerivedRows → Type 0) → Type 0
OnAllRead all Has = OnEachRead whole all (λ rows. rows.items) Has

-- no row is reported as broken if the records and derived rows from which it was read are `AreReadable`
abbrev pub AreReadIfReadable : {T : Type 0} → AuditQuery → List Row → Result T AuditFault → Type 0
AreReadIfReadable what rows result =
    OnRead what rows (λ records columns. AreReadable records columns → NoBrokenRow result)
