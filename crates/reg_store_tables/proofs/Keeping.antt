-- A statement that writes rows leaves the schema as it was, and obeyed, whatever the rows are.
use Rattle.std.proofs.Common.{◌≡◌, ℕ, List, Option, None, Some, Ok, slice_get, ap, ◌∙◌}
use Rattle.sqlite_value.specs.Order.{Row}
use Rattle.sqlite_schema.specs.declared.command.Command.{Command}
use Rattle.sqlite_schema.specs.declared.command.Command.TheVariants.{Insert, Update, Delete}
use Rattle.sqlite_schema.specs.declared.command.Source.{Source}
use Rattle.sqlite_schema.specs.declared.program.Program.{Program}
use Rattle.sqlite_schema.specs.declared.schema.Schema.{Schema}
use Rattle.sqlite_schema.specs.declared.schema.Table.{Table}
use Rattle.sqlite.specs.declared.run.Mode.{Mode}
use Rattle.sqlite.specs.Does.{Tally, AtPlace, OnRows}
use Rattle.sqlite.specs.Effect.{Database, IsDatabase}
use Rattle.sqlite.specs.Given.{IsPlain}
use Rattle.sqlite.specs.Listing.{understood}
use Rattle.sqlite.specs.Rows.{Part, Task}
use Rattle.sqlite.specs.State.{State, mode_of, Writes}
use Rattle.sqlite.proofs.Callers.{runs_as, statement_of}
use Rattle.reg_store_tables.specs.ReadStatements.{command_of}
use Rattle.reg_store_tables.specs.Schema.{register_schema}
use Rattle.reg_store_tables.specs.Stays.{Ran}
use Rattle.reg_store_tables.specs.Steps.{WritesRows}
use Rattle.reg_store_tables.proofs.Edits.{went, same_value}

-- what a place that names a table does
at_table : {A : Type 0} (found : Option Table) (P : Table → Part A) (x : A) (Q : Type 0) → ((table : Table) → P table (Ok x) → Q) → AtPlace P found (Ok x) → Q
at_table None P x Q leads h = absurd (cc)
at_table (Some table) P x Q leads h = leads table h

rows_keep : (task : Task) (mode : Mode) (command : Command) (db : Database) (tally : Tally) (after : Database) → OnRows task mode None command db.trees (Ok (tally, after)) → after.schema ≡ task.schema
rows_keep task mode command db tally after h = ap (λ (x : Tally × Database). x.1.schema) (same_value (went (went (went h).2).2).2)

module _ (limit : Option ℕ) (mode : Mode) (params : Row) (db : Database) (tally : Tally) (after : Database) (text : List ℕ) (at : ℕ) where
  abbrev task_on : Table → Task
  task_on table = record { limit = limit; keys = mode.keys; schema = db.schema; table = table; params = params }

  kept_by : (command : Command) → AtPlace (λ table. OnRows (task_on table) mode None command db.trees) (slice_get db.schema.tables at) (Ok (tally, after)) → after.schema ≡ db.schema
  kept_by command h =
      at_table (slice_get db.schema.tables at) (λ table. OnRows (task_on table) mode None command db.trees) (tally, after) (after.schema ≡ db.schema)
      (λ table on. rows_keep (task_on table) mode command db tally after on) h

-- a text over a schema that inserts, updates or deletes rows: the schema stays, and is obeyed
module _ (sql : List ℕ) (params : Row) (old new : State) (count : ℕ) (ran : Ran sql params old new count) (schema : Schema) (has : old.now.schema ≡ schema) (plain : IsPlain (understood schema sql)) (at : ℕ) where
  inserts_keep : (from : Source) → command_of (understood schema sql) ≡ Insert at from → (new.now.schema ≡ schema) × IsDatabase new.now
  inserts_keep from is =
      let w : Writes old new None (Insert at from) (statement_of sql (understood schema sql)) params count = runs_as sql params old new schema has (Insert at from) is plain count ran.ran in
      (kept_by old.step_limit (mode_of old) params old.now w.tally new.now (statement_of sql (understood schema sql)) at (Insert at from) w.changed ∙ has, w.sound)

  updates_keep : (q : Program) → command_of (understood schema sql) ≡ Update at q → (new.now.schema ≡ schema) × IsDatabase new.now
  updates_keep q is =
      let w : Writes old new None (Update at q) (statement_of sql (understood schema sql)) params count = runs_as sql params old new schema has (Update at q) is plain count ran.ran in
      (kept_by old.step_limit (mode_of old) params old.now w.tally new.now (statement_of sql (understood schema sql)) at (Update at q) w.changed ∙ has, w.sound)

  pub deletes_keep : (q : Program) → command_of (understood schema sql) ≡ Delete at q → (new.now.schema ≡ schema) × IsDatabase new.now
  deletes_keep q is =
      let w : Writes old new None (Delete at q) (statement_of sql (understood schema sql)) params count = runs_as sql params old new schema has (Delete at q) is plain count ran.ran in
      (kept_by old.step_limit (mode_of old) params old.now w.tally new.now (statement_of sql (understood schema sql)) at (Delete at q) w.changed ∙ has, w.sound)

-- the same of a text over the tables of a register
module _ {sql : List ℕ} {params : Row} {old new : State} {count at : ℕ} (ran : Ran sql params old new count) where
  pub inserts_rows : {from : Source} → IsPlain (understood register_schema sql) → command_of (understood register_schema sql) ≡ Insert at from → WritesRows old.now new.now
  inserts_rows {from = from} plain is =
      record { schema = λ has. (inserts_keep sql params old new count ran register_schema has plain at from is).0; obeys = λ has. (inserts_keep sql params old new count ran register_schema has plain at from is).1 }

  pub updates_rows : {q : Program} → IsPlain (understood register_schema sql) → command_of (understood register_schema sql) ≡ Update at q → WritesRows old.now new.now
  updates_rows {q = q} plain is =
      record { schema = λ has. (updates_keep sql params old new count ran register_schema has plain at q is).0; obeys = λ has. (updates_keep sql params old new count ran register_schema has plain at q is).1 }

  pub deletes_rows : {q : Program} → IsPlain (understood register_schema sql) → command_of (understood register_schema sql) ≡ Delete at q → WritesRows old.now new.now
  deletes_rows {q = q} plain is =
      record { schema = λ has. (deletes_keep sql params old new count ran register_schema has plain at q is).0; obeys = λ has. (deletes_keep sql params old new count ran register_schema has plain at q is).1 }

-- rows are written after rows
pub writes_on : {a b c : Database} → WritesRows a b → WritesRows b c → WritesRows a c
writes_on first second = record { schema = λ has. second.schema (first.schema has); obeys = λ has. second.obeys (first.schema has) }
