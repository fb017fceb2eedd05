use Rattle.std.proofs.Common.{◌≡◌, take}
use Rattle.sqlite.specs.Effect.{Database}
use Rattle.sqlite.specs.Held.{state}
use Rattle.sqlite.specs.State.{HasCleanDisk}
use Rattle.reg_core.specs.Records.{Records}
use Rattle.reg_store_tables.specs.DerivedRows.{DerivedRows}
use Rattle.reg_store_tables.specs.Schema.{register_schema}
use Rattle.reg_store_tables.specs.Shows.{Holds, ShowsBoth}
use Rattle.reg_store_tables.specs.Stays.{Looked}
use Rattle.reg_audit.specs.ReadQueries.{AreRead, AreReadFrom}
use Rattle.reg_audit.proofs.whole_tables.read_each.Given as goal

abbrev pub invariant-loop-query : goal.invariant-loop-query
invariant-loop-query g l = record {
  looked : Looked g.S.Store l.fn.conn l.conn;
  found : (records : Records) (columns : DerivedRows) → ShowsBoth g.S.Store l.fn.conn records columns → HasCleanDisk (state g.S.Store l.conn) → AreRead records columns (take l.query-index l.queries) l.all.items (λ rows. rows.items);
  from : (db : Database) → Holds g.S.Store l.fn.conn (λ now. now ≡ db) → db.schema ≡ register_schema → HasCleanDisk (state g.S.Store l.conn) → AreReadFrom db (take l.query-index l.queries) l.all.items (λ rows. rows.items);
}
