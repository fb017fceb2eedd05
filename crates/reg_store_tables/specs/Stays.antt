-- The state that look-ups, steps of a transaction and failed changes leave as it was.
use Rattle.std.specs.Prelude.{◌≡◌, ◌⊎◌, ◌↔◌, false, true, IsTrue, Result, OnOk, OnErr, ℕ, List, Ok}
use Rattle.sqlite_trees.specs.Tree.{Trees}
use Rattle.sqlite_trees.specs.declared.store.Store.{Ghosts}
use Rattle.sqlite.specs.Held.{Held, state}
use Rattle.sqlite.specs.Effect.{Database}
use Rattle.sqlite.specs.State.{State, HasCleanDisk, KeepsCommit, Survives, Executes}
use Rattle.sqlite.specs.declared.transaction.Transaction.{Transaction}
use Rattle.reg_store_tables.specs.Schema.{register_schema}
use Rattle.reg_store_tables.specs.declared.fault.StoreFault.{StoreFault}
use Rattle.reg_store_tables.specs.declared.fault.StoreFault.TheVariants.{Memory, Store}
use Rattle.sqlite_value.specs.Order.{Row}

-- if the disk returned what was written, and the connection is open, its schema is a register's, also as last committed
pub record IsRegister (s : State) : Type 0 where
  pub now : HasCleanDisk s → IsTrue s.is_open → s.now.schema ≡ register_schema
  pub committed : HasCleanDisk s → IsTrue s.is_open → s.committed.schema ≡ register_schema

-- if the disk returned what was written, and the connection is open, its schema is a register's
abbrev pub HasSchema : State → Type 0
HasSchema s = HasCleanDisk s → IsTrue s.is_open → s.now.schema ≡ register_schema

-- the connection was open, and its tables are as they were, also as last committed
pub record IsSame (old new : State) : Type 0 where
  pub was_open : IsTrue old.is_open
  pub now : new.now ≡ old.now
  pub committed : new.committed ≡ old.committed

-- nothing has changed, if the disk returned what was written and the connection is open: it was open, its tables are as they were or as last
-- committed, and the committed tables are the same
pub record Stays (old new : State) : Type 0 where
  pub was_open : HasCleanDisk new → IsTrue new.is_open → IsTrue old.is_open
  pub now : HasCleanDisk new → IsTrue new.is_open → (new.now ≡ old.now) ⊎ (new.now ≡ old.committed)
  pub committed : HasCleanDisk new → IsTrue new.is_open → new.committed ≡ old.committed

-- A call that commits nothing: a stop afterwards leaves what it would have left before. The count of disk faults does not fall, only a disk
-- fault closes the connection, and the limit on the steps of a query stays.
abbrev pub LeavesNothing : State → State → Type 0
LeavesNothing old new = Survives old new (λ _. ⊥)

-- A look-up: it leaves the tables of a register as they are, and commits nothing. If no transaction was under way before, none is
-- afterwards. If one is still under way afterwards, nothing that it wrote is lost, and an open connection is open.
pub record Looked {S : Type 0} (g : Ghosts S) (old new : Held S) : Type 0 where
  pub same : IsRegister (state g old) → Stays (state g old) (state g new)
  pub within : HasSchema (state g old) → HasCleanDisk (state g new) → IsTrue (state g new).is_open
      → new.in_transaction ≡ true → IsSame (state g old) (state g new)
  pub live : HasCleanDisk (state g new) → new.in_transaction ≡ true → IsTrue (state g old).is_open
      → IsTrue (state g new).is_open
  pub survives : LeavesNothing (state g old) (state g new)
  pub idle : old.in_transaction ≡ false → new.in_transaction ≡ false

-- A step of a transaction: it commits nothing, even if it fails.
pub record Stepped {S : Type 0} (g : Ghosts S) (old new : Transaction S) : Type 0 where
  pub same_reference : new.conn.ghost_name ≡ old.conn.ghost_name
  pub kept : HasCleanDisk (state g new.conn.now) → KeepsCommit (state g old.conn.now) (state g new.conn.now)
  pub survives : LeavesNothing (state g old.conn.now) (state g new.conn.now)

-- A change: if it succeeds, the connection is open; an error leaves the tables as they were; a stop leaves what it would have
-- left before, or the whole change.
pub record Changed {S T E : Type 0} (g : Ghosts S) (old new : Held S) (Made : Trees → Type 0)
    (result : Result T E) : Type 0 where
  pub live : HasCleanDisk (state g new) → OnOk result (IsTrue (state g new).is_open)
  pub err : IsRegister (state g old) → OnErr result (Stays (state g old) (state g new))
  pub survives : Survives (state g old) (state g new) Made

-- the statement ran inside the transaction, which is still under way, and nothing was committed
pub record Ran (sql : List ℕ) (params : Row) (old new : State) (count : ℕ) : Type 0 where
  pub was_open : IsTrue old.is_open
  pub is_open : IsTrue new.is_open
  pub committed : new.committed ≡ old.committed
  pub under_way : new.in_transaction ≡ true
  pub ran : Executes sql params old new (Ok count)

-- a step over an open connection, which leaves a transaction under way with a database that has the property, and commits nothing
pub record Moves (old new : State) (P : Database → Type 0) : Type 0 where
  pub was_open : IsTrue old.is_open
  pub is_open : IsTrue new.is_open
  pub committed : new.committed ≡ old.committed
  pub under_way : new.in_transaction ≡ true
  pub tables : P new.now

-- Steps inside a transaction, of which there may be none: an open connection stays open, a transaction that is under way stays so
-- with a database that has the property, and nothing is committed.
pub record MayMove (old new : State) (P : Database → Type 0) : Type 0 where
  pub is_open : IsTrue old.is_open ↔ IsTrue new.is_open
  pub committed : new.committed ≡ old.committed
  pub under_way : old.in_transaction ≡ true → new.in_transaction ≡ true
  pub tables : P new.now

-- the faults of the store that a call on an open register can return
abbrev pub IsDatabaseFault : StoreFault → Type 0
IsDatabaseFault fault = (fault ≡ Memory) ⊎ (fault ≡ Store)
