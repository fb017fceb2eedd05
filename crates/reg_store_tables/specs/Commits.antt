-- The effects of a transaction, from its beginning to its end.
use Rattle.std.specs.Prelude.{◌≡◌, true, false, Result, OnOk, OnErr, IsTrue}
use Rattle.sqlite_trees.specs.Tree.{Trees}
use Rattle.sqlite_trees.specs.declared.store.Store.{Ghosts}
use Rattle.sqlite.specs.Effect.{Database}
use Rattle.sqlite.specs.Held.{Held, state}
use Rattle.sqlite.specs.State.{State, HasCleanDisk, IsRolledBack, Survives, Shows}
use Rattle.reg_store_tables.specs.Stays.{Stays}

-- The call that commits a transaction. `committed` and `undone` hold if the disk returned what was written.
pub record Ends {S T E : Type 0} (g : Ghosts S) (entered ended : Held S) (result : Result T E) : Type 0 where
  -- if it succeeds, what was written is committed
  pub committed : HasCleanDisk (state g ended) → OnOk result
      (Shows (state g entered) (state g ended) (state g entered).now (state g entered).now false)
  -- if it fails, and the transaction was under way, it is rolled back
  pub undone : HasCleanDisk (state g ended) → OnErr result
      ((state g entered).in_transaction ≡ true → IsRolledBack (state g entered) (state g ended))
  -- a stop leaves what it would have left before, or all that was written
  pub survives : Survives (state g entered) (state g ended) (λ trees. trees ≡ (state g entered).now.trees)
  pub idle : ended.in_transaction ≡ false

-- the connection was open and is open, all of its database is committed, and `Leads` relates the database before to this one
pub record IsMade (old new : State) (Leads : Database → Database → Type 0) : Type 0 where
  pub was_open : IsTrue old.is_open
  pub is_open : IsTrue new.is_open
  pub saved : new.now ≡ new.committed
  pub led : Leads old.now new.now

-- the connection was open, and these are the rows of a database; `Leads` relates the database before to that one
abbrev pub AreLed : State → (Database → Database → Type 0) → Trees → Type 0
AreLed old Leads trees = IsTrue old.is_open × (db : Database) × (trees ≡ db.trees) × Leads old.now db

-- One transaction; if it succeeds, and the disk returned what was written, `Leads` relates the database before it to the one after it.
pub record Commits {S T E : Type 0} (g : Ghosts S) (old new : Held S) (result : Result T E)
    (Leads : Database → Database → Type 0) : Type 0 where
  pub made : HasCleanDisk (state g new) → OnOk result (IsMade (state g old) (state g new) Leads)
  -- an error leaves the tables as they were
  pub stays : OnErr result (Stays (state g old) (state g new))
  -- a stop leaves what it would have left before, or the whole transaction
  pub survives : Survives (state g old) (state g new) (AreLed (state g old) Leads)
