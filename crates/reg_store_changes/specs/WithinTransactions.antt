-- Steps of a transaction over a register's tables, on a connection that look-ups use as well.
use Rattle.std.specs.Prelude.{◌≡◌, ℕ, Bool, true, false, List, Result, Ok, Err, IfOk, OnErr, OnOk, IsTrue}
use Rattle.sqlite_trees.specs.declared.store.Store.{Ghosts}
use Rattle.sqlite_schema.specs.declared.command.Command.{Command}
use Rattle.sqlite_schema.specs.declared.command.Command.TheVariants.{Insert, Update, Delete}
use Rattle.sqlite.specs.Effect.{Database}
use Rattle.sqlite.specs.Given.{IsPlain}
use Rattle.sqlite.specs.Held.{Held, state}
use Rattle.sqlite.specs.Listing.{understood}
use Rattle.sqlite.specs.State.{State, HasCleanDisk, KeepsCommit, Shows, Survives}
use Rattle.reg_store_tables.specs.ReadStatements.{command_of}
use Rattle.reg_store_tables.specs.Schema.{register_schema}
use Rattle.reg_store_tables.specs.Stays.{IsRegister, LeavesNothing, Moves, Stays}
use Rattle.reg_store_tables.specs.Steps.{IsUnderWay, WritesRows}
use Rattle.reg_store_tables.specs.declared.fault.DatabaseFault.{DatabaseFault}

-- the command inserts, updates or deletes rows
abbrev pub writes_rows : Command → Bool
writes_rows (Insert at from) = true
writes_rows (Update at q) = true
writes_rows (Delete at q) = true
writes_rows command = false

-- over a register's tables, the text inserts, updates or deletes rows, and returns none
pub record IsWritingText (text : List ℕ) : Type 0 where
  pub plain : IsPlain (understood register_schema text)
  pub writes : writes_rows (command_of (understood register_schema text)) ≡ true

-- the schema is a register's, and while a transaction is under way, the connection is open, if the disk returned what was written
pub record IsInTransaction (s : State) : Type 0 where
  pub register : IsRegister s
  pub live : HasCleanDisk s → s.in_transaction ≡ true → IsTrue s.is_open

-- A step of a transaction over a register's tables: it commits nothing, even if it fails, and begins no transaction.
pub record StepsWithin {S : Type 0} (g : Ghosts S) (old new : Held S) : Type 0 where
  pub within : IsInTransaction (state g old) → IsInTransaction (state g new)
  pub kept : IsInTransaction (state g old) → HasCleanDisk (state g new) → KeepsCommit (state g old) (state g new)
  -- over a register's tables, a stop leaves what it would have left before
  pub survives : Survives (state g old) (state g new) (λ _. ¬ IsInTransaction (state g old))
  pub idle : old.in_transaction ≡ false → new.in_transaction ≡ false

module _ {S : Type 0} (g : Ghosts S) (old new : Held S) where
  -- A step over a register's tables that returns a value. If it succeeds, and the disk returned what was written, nothing is committed and the
  -- transaction is under way. Then `Leads` relates the database before the step to the one after it.
  abbrev pub YieldsWithin : {T E : Type 0} → Result T E → (T → Database → Database → Type 0) → Type 0
  YieldsWithin result Leads =
      IsInTransaction (state g old) → HasCleanDisk (state g new)
      → IfOk result (λ given. Moves (state g old) (state g new) (Leads given (state g old).now))

  -- `YieldsWithin` for a step without a value
  abbrev pub MakesWithin : {T E : Type 0} → Result T E → (Database → Database → Type 0) → Type 0
  MakesWithin result Leads = YieldsWithin result (λ _. Leads)

  -- `MakesWithin` for a step that writes rows
  abbrev pub MakesRowsWithin : {T E : Type 0} → Result T E → (Database → Database → Type 0) → Type 0
  MakesRowsWithin result Leads = MakesWithin result (λ before after. Leads before after × WritesRows before after)

  -- `MakesWithin` for a step that may run no statement, in a transaction that is under way
  abbrev pub ContinuesWithin : {T E : Type 0} → Result T E → (Database → Database → Type 0) → Type 0
  ContinuesWithin result Leads = IsUnderWay (state g old) → MakesWithin result Leads

-- no transaction stays open: if none was under way before, none is afterwards, if the disk returned what was written
abbrev pub StaysIdle : {S : Type 0} → Ghosts S → Held S → Held S → Type 0
StaysIdle g old new = HasCleanDisk (state g new) → old.in_transaction ≡ false → new.in_transaction ≡ false

-- a transaction has begun over an open connection, and nothing else has changed
pub record IsTransactionBegun (old new : State) : Type 0 where
  pub was_idle : old.in_transaction ≡ false
  pub was_open : IsTrue old.is_open
  pub is_open : IsTrue new.is_open
  pub now : new.now ≡ old.now
  pub committed : new.committed ≡ old.committed
  pub under_way : new.in_transaction ≡ true

-- The call that begins a transaction. It commits nothing, and an error changes nothing.
pub record BeginsTransaction {S T E : Type 0} (g : Ghosts S) (old new : Held S) (result : Result T E) : Type 0 where
  pub ok : HasCleanDisk (state g new) → OnOk result (IsTransactionBegun (state g old) (state g new))
  pub stays : OnErr result (Stays (state g old) (state g new))
  pub idle : OnErr result (StaysIdle g old new)
  pub survives : LeavesNothing (state g old) (state g new)

-- No transaction is under way afterwards, and the tables are as they were last committed.
pub record IsUndone (old new : State) : Type 0 where
  pub idle : new.in_transaction ≡ false
  pub was_open : IsTrue new.is_open → IsTrue old.is_open
  pub now : IsTrue new.is_open → new.now ≡ old.committed
  pub committed : IsTrue new.is_open → new.committed ≡ old.committed

-- The call that rolls back a transaction, if one is under way.
pub record RollsBack {S : Type 0} (g : Ghosts S) (old new : Held S) : Type 0 where
  pub undone : HasCleanDisk (state g new) → IsUndone (state g old) (state g new)
  pub survives : LeavesNothing (state g old) (state g new)

-- The call that commits a transaction. If it succeeds, what was written is committed; an error undoes it. A stop leaves what it would have left
-- before, or all that was written.
pub record CommitsWithin {S T E : Type 0} (g : Ghosts S) (old new : Held S) (result : Result T E) : Type 0 where
  pub made : HasCleanDisk (state g new)
      → OnOk result (Shows (state g old) (state g new) (state g old).now (state g old).now false)
  pub undone : HasCleanDisk (state g new) → OnErr result (IsUndone (state g old) (state g new))
  pub survives : Survives (state g old) (state g new) (λ trees. trees ≡ (state g old).now.trees)

-- The call that ends a transaction: it commits what the steps before it wrote, or rolls it back if one of them failed. The error of the step is the
-- call's.
abbrev pub EndsTransaction : {S : Type 0} → Ghosts S → Held S → Held S → Result (Unit {0}) DatabaseFault
    → Result (Unit {0}) DatabaseFault → Type 0
EndsTransaction g old new (Ok made) result = CommitsWithin g old new result
EndsTransaction g old new (Err fault) result = (result ≡ Err fault) × RollsBack g old new
