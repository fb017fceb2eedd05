-- Facts that an audit knows of a connection, and facts that are presumed of it.
use Rattle.std.specs.Prelude.{◌≡◌, false, length, IsTrue}
use Rattle.std.specs.List.{AllByRecursion}
use Rattle.sqlite_trees.specs.declared.store.Store.{Ghosts}
use Rattle.sqlite.specs.Held.{Held, state}
use Rattle.sqlite.specs.State.{IsLive}
use Rattle.reg_store_tables.specs.Schema.{register_schema}

-- A connection that is in no transaction and has a register's schema, as the crate `sqlite` keeps it while it is open: it obeys the
-- schema (the clause `live` of its `Connection::schema`), and what it shows is committed (`settled` of `is_autocommit`).
pub record IsOverRegister {S : Type 0} (g : Ghosts S) (h : Held S) : Type 0 where
  pub schema : (state g h).now.schema ≡ register_schema
  pub live : IsLive (state g h)
  pub saved : IsTrue (state g h).is_open → (state g h).now ≡ (state g h).committed

-- Facts that are presumed of an open connection and the file that it reads: no clause of the crate `sqlite` states them, and no
-- query can check them.
pub record IsPresumed {S : Type 0} (g : Ghosts S) (h : Held S) : Type 0 where
  -- No call has left its transaction broken: the crate keeps this true of every open connection.
  pub unbroken : (g.view h.store).is_broken ≡ false
  -- Each row of `listed` has its last column, the seventh if the rowid is counted. If a row lacks it, a query returns NULL for it. No
  -- statement of a register writes such a row.
  pub whole : AllByRecursion (λ row. length row ≡ 7) ((state g h).now.trees 15)
