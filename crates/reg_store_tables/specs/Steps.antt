-- The effects of a step of a transaction on the tables.
use Rattle.std.specs.Prelude.{◌≡◌, ℕ, true, Result, IfOk, IsTrue}
use Rattle.sqlite_trees.specs.declared.store.Store.{Ghosts}
use Rattle.sqlite.specs.Effect.{Database, IsDatabase}
use Rattle.sqlite.specs.Held.{state}
use Rattle.sqlite.specs.State.{State, HasCleanDisk, IsUnchanged}
use Rattle.sqlite.specs.declared.transaction.Transaction.{Transaction}
use Rattle.reg_core.specs.Records.{Records}
use Rattle.reg_store_tables.specs.DerivedRows.{DerivedRows}
use Rattle.reg_store_tables.specs.Schema.{register_schema}
use Rattle.reg_store_tables.specs.Shows.{AreRecordsAndDerived}
use Rattle.reg_store_tables.specs.Stays.{MayMove, Moves}

-- while the connection is open, its database has the property
abbrev pub WhileOpen : State → (Database → Type 0) → Type 0
WhileOpen s P = IsTrue s.is_open → P s.now

-- a transaction is under way, over an open connection
abbrev pub IsUnderWay : State → Type 0
IsUnderWay s = IsTrue s.is_open × (s.in_transaction ≡ true)

-- a step that writes rows: a register's schema stays, and the tables obey it
pub record WritesRows (old new : Database) : Type 0 where
  pub schema : old.schema ≡ register_schema → new.schema ≡ register_schema
  pub obeys : old.schema ≡ register_schema → IsDatabase new

-- a step that may write no rows: a register's schema stays, and the tables obey it if they did before
pub record KeepsRows (old new : Database) : Type 0 where
  pub schema : old.schema ≡ register_schema → new.schema ≡ register_schema
  pub obeys : old.schema ≡ register_schema → IsDatabase old → IsDatabase new

module _ {S : Type 0} (g : Ghosts S) (old new : Transaction S) where
  -- A step that returns a value. If it succeeds, and the disk returned what was written, nothing is committed and the transaction is under
  -- way. Then `Leads` relates the database before the step to the one after it.
  abbrev pub Yields : {T E : Type 0} → Result T E → (T → Database → Database → Type 0) → Type 0
  Yields result Leads =
      HasCleanDisk (state g new.conn.now)
      → IfOk result (λ given.
      Moves (state g old.conn.now) (state g new.conn.now) (Leads given (state g old.conn.now).now))

  -- `Yields` for a step without a value
  abbrev pub Makes : {T E : Type 0} → Result T E → (Database → Database → Type 0) → Type 0
  Makes result Leads = Yields result (λ _. Leads)

  -- `Makes` for a step that writes rows
  abbrev pub MakesRows : {T E : Type 0} → Result T E → (Database → Database → Type 0) → Type 0
  MakesRows result Leads = Makes result (λ before after. Leads before after × WritesRows before after)

  -- `Makes` for a step that may run no statement, in a transaction that is under way
  abbrev pub Continues : {T E : Type 0} → Result T E → (Database → Database → Type 0) → Type 0
  Continues result Leads = IsUnderWay (state g old.conn.now) → Makes result Leads

  -- `Continues` for a step that may write rows
  abbrev pub ContinuesRows : {T E : Type 0} → Result T E → (Database → Database → Type 0) → Type 0
  ContinuesRows result Leads = Continues result (λ before after. Leads before after × KeepsRows before after)

  -- `MakesRows` for steps of which there may be none
  abbrev pub MayMakeRows : {T E : Type 0} → Result T E → (Database → Database → Type 0) → Type 0
  MayMakeRows result Leads =
      let before = (state g old.conn.now).now in
      HasCleanDisk (state g new.conn.now)
      → IfOk result (λ _. MayMove (state g old.conn.now) (state g new.conn.now)
      (λ after. Leads before after × KeepsRows before after))

  -- If the call succeeds, and the disk returned what was written, `IsSo` holds of its result and the database; the connection was open, and
  -- nothing has changed.
  abbrev pub Asks : {T E : Type 0} → Result T E → (T → Database → Type 0) → Type 0
  Asks result IsSo =
      HasCleanDisk (state g new.conn.now)
      → IfOk result (λ value. IsUnchanged (state g old.conn.now) (state g new.conn.now)
      × IsSo value (state g old.conn.now).now)

-- if the tables showed records that fit, with some derived tables, they now show these changed records and derived tables
abbrev pub TurnsWhere : (Records → Type 0) → (Records → Records) → (DerivedRows → DerivedRows) → Database
    → Database → Type 0
TurnsWhere Fits records_after derived_after old new =
    (records : Records) (columns : DerivedRows) → Fits records → AreRecordsAndDerived old records columns
    → AreRecordsAndDerived new (records_after records) (derived_after columns)

-- `TurnsWhere` for any records
abbrev pub Turns : (Records → Records) → (DerivedRows → DerivedRows) → Database → Database → Type 0
Turns records_after derived_after old new =
    (records : Records) (columns : DerivedRows) → AreRecordsAndDerived old records columns
    → AreRecordsAndDerived new (records_after records) (derived_after columns)

-- the records become these, and the derived tables stay
abbrev pub TurnsRecords : (Records → Records) → Database → Database → Type 0
TurnsRecords records_after = Turns records_after (λ columns. columns)

-- the records stay, and the derived tables become these
abbrev pub TurnsDerivedRows : (DerivedRows → DerivedRows) → Database → Database → Type 0
TurnsDerivedRows derived_after = Turns (λ records. records) derived_after

-- `TurnsDerivedRows`, with the number of rows that change
abbrev pub TurnsCounted : (DerivedRows → DerivedRows) → (DerivedRows → ℕ) → ℕ → Database → Database → Type 0
TurnsCounted derived_after turned count old new =
    (records : Records) (columns : DerivedRows) → AreRecordsAndDerived old records columns
    → AreRecordsAndDerived new records (derived_after columns) × (count ≡ turned columns)
