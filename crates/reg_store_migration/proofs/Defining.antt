-- What the statements of the schema make of a database.
use Rattle.std.proofs.Common.{◌≡◌, ℕ, false, List, [], ◌∷◌, Option, None, Some, Ok, Result, slice_get, refl, sym, ap, subst, ◌∙◌}
use Rattle.std.specs.List.{AllByRecursion}
use Rattle.sqlite_trees.specs.Tree.{Trees}
use Rattle.sqlite_schema.specs.declared.command.Command.TheVariants.{CreateTable, CreateIndex}
use Rattle.sqlite_schema.specs.declared.schema.Schema.{Schema}
use Rattle.sqlite_schema.specs.declared.schema.Table.{Table}
use Rattle.sqlite_schema.specs.declared.schema.Index.{Index}
use Rattle.sqlite_resolve.specs.Compile.{table_defined_by, index_defined_by}
use Rattle.sqlite_catalog.specs.Change.{next_tree, created, indexed, KeepsRows}
use Rattle.sqlite_catalog.specs.Calls.{CreatesTable, CreatesIndex}
use Rattle.sqlite.specs.declared.run.Mode.{Mode}
use Rattle.sqlite.specs.Does.{Tally, Does, lacks_sequence}
use Rattle.sqlite.specs.Does as does
use Rattle.sqlite.specs.Effect.{Database}
use Rattle.sqlite.specs.State.{State, mode_of, Writes}
use Rattle.sqlite.specs.Listing.{understood}
use Rattle.sqlite.proofs.Callers.{runs_as}
use Rattle.sqlite.proofs.Callers as callers
use Rattle.reg_store_tables.specs.Stays.{Ran}
use Rattle.reg_store_tables.proofs.PublicLaws.{went, same_value, pushed}
use Rattle.reg_store_migration.specs.Makes.{DefinesTable, DefinesIndex}
use Rattle.reg_store_migration.specs.NumberedRows.{HasRows}
use Rattle.reg_store_migration.specs.Rebuilds.{Defines}

-- tables that keep their rows still have these
still_rows : (tables : List Table) (rows old new : Trees) → AllByRecursion (λ t. old t.tree ≡ rows t.tree) tables → KeepsRows tables old new → AllByRecursion (λ t. new t.tree ≡ rows t.tree) tables
still_rows [] rows old new had keeps = tt
still_rows (t ∷ tables) rows old new had keeps = (keeps.0 ∙ had.0, still_rows tables rows old new had.1 keeps.1)

same_ok : {A E : Type 0} {x y : A} {r : Result A E} → r ≡ Ok x → r ≡ Ok y → x ≡ y
same_ok a b = cc

module _ (schema : Schema) (text : List ℕ) (trees rows : Trees) (had : AllByRecursion (λ t. trees t.tree ≡ rows t.tree) schema.tables) where
  table_made : (table : Table) (after : Database) → table_defined_by text ≡ Ok table → rows (next_tree schema) ≡ [] → CreatesTable schema text trees after.schema after.trees → HasRows (created schema table) rows after
  table_made table after defined none made =
      let same : made.table ≡ table = same_ok made.defined defined in
      let new : Table = record table { tree = next_tree schema } in
      record {
        schema = made.is ∙ ap (created schema) same;
        rows = pushed (λ (t : Table). after.trees t.tree ≡ rows t.tree) schema.tables new (still_rows schema.tables rows trees after.trees had made.others) (made.empty ∙ sym none);
      }

  index_made : (table : Table) (index : Index) (after : Database) → index_defined_by table text ≡ Ok index → CreatesIndex schema table text trees after.schema after.trees → HasRows (indexed schema table index) rows after
  index_made table index after defined made =
      let same : made.index ≡ index = same_ok made.defined defined in
      record { schema = made.is ∙ ap (indexed schema table) same; rows = still_rows schema.tables rows trees after.trees had made.rows }

  abbrev at_trees : Database
  at_trees = record { schema = schema; trees = trees }

  table_done : (limit : Option ℕ) (mode : Mode) (table : Table) (tally : Tally) (after : Database) → table_defined_by text ≡ Ok table → rows (next_tree schema) ≡ [] → lacks_sequence (created schema table) ≡ false
      → Does limit mode [] at_trees text None CreateTable (Ok (tally, after)) → HasRows (created schema table) rows after
  table_done limit mode table tally after defined none uncounted h =
      let all = went h in
      let first = went all.1 in
      let made = table_made table first.0 defined none first.1 in
      let plain : lacks_sequence first.0.schema ≡ false = ap lacks_sequence made.schema ∙ uncounted in
      let now : after ≡ first.0 = ap (λ (p : Tally × Database). p.1) (same_value all.2) ∙ same_value (rw plain at first.2) in
      subst (HasRows (created schema table) rows) (sym now) made

  index_in : (mode : Mode) (table : Table) (index : Index) (tally : Tally) (after : Database) → index_defined_by table text ≡ Ok index
      → does.Defines mode (does.MakesIndex text at_trees table) (Ok (tally, after)) → HasRows (indexed schema table index) rows after
  index_in mode table index tally after defined h =
      let all = went h in
      let now : after ≡ all.0 = ap (λ (p : Tally × Database). p.1) (same_value all.2) in
      subst (HasRows (indexed schema table index) rows) (sym now) (index_made table index all.0 defined all.1)

  index_done : (limit : Option ℕ) (mode : Mode) (at : ℕ) (table : Table) (index : Index) (tally : Tally) (after : Database) → slice_get schema.tables at ≡ Some table → index_defined_by table text ≡ Ok index
      → Does limit mode [] at_trees text None (CreateIndex at) (Ok (tally, after)) → HasRows (indexed schema table index) rows after
  index_done limit mode at table index tally after there defined h = index_in mode table index tally after defined (rw there at h)

module _ (text : List ℕ) (old new : State) (count : ℕ) (ran : Ran text [] old new count) where
  makes_table : (schema : Schema) (table : Table) (rows : Trees) → DefinesTable schema text table → rows (next_tree schema) ≡ [] → HasRows schema rows old.now → HasRows (created schema table) rows new.now
  makes_table schema table rows means none was =
      let w : Writes old new None CreateTable (callers.statement_of text (understood schema text)) [] count = runs_as text [] old new schema was.schema CreateTable means.is means.plain count ran.ran in
      let done : Does old.step_limit (mode_of old) [] old.now text None CreateTable (Ok (w.tally, new.now)) =
      subst (λ t. Does old.step_limit (mode_of old) [] old.now t None CreateTable (Ok (w.tally, new.now))) means.whole w.changed in
      let at_schema : Does old.step_limit (mode_of old) [] (record old.now { schema = schema }) text None CreateTable (Ok (w.tally, new.now)) =
      subst (λ s. Does old.step_limit (mode_of old) [] (record old.now { schema = s }) text None CreateTable (Ok (w.tally, new.now))) was.schema done in
      table_done schema text old.now.trees rows was.rows old.step_limit (mode_of old) table w.tally new.now means.defined none means.uncounted at_schema

  makes_index : (schema : Schema) (at : ℕ) (table : Table) (index : Index) (rows : Trees) → DefinesIndex schema text at table index → HasRows schema rows old.now → HasRows (indexed schema table index) rows new.now
  makes_index schema at table index rows means was =
      let w : Writes old new None (CreateIndex at) (callers.statement_of text (understood schema text)) [] count = runs_as text [] old new schema was.schema (CreateIndex at) means.is means.plain count ran.ran in
      let done : Does old.step_limit (mode_of old) [] old.now text None (CreateIndex at) (Ok (w.tally, new.now)) =
      subst (λ t. Does old.step_limit (mode_of old) [] old.now t None (CreateIndex at) (Ok (w.tally, new.now))) means.whole w.changed in
      let at_schema : Does old.step_limit (mode_of old) [] (record old.now { schema = schema }) text None (CreateIndex at) (Ok (w.tally, new.now)) =
      subst (λ s. Does old.step_limit (mode_of old) [] (record old.now { schema = s }) text None (CreateIndex at) (Ok (w.tally, new.now))) was.schema done in
      index_done schema text old.now.trees rows was.rows old.step_limit (mode_of old) at table index w.tally new.now means.there means.defined at_schema

  pub defines : Defines text old.now new.now
  defines = record { table = makes_table; index = makes_index }

-- tables have the rows that they have
pub has_own : (schema : Schema) (db : Database) → db.schema ≡ schema → HasRows schema db.trees db
has_own schema db is = record { schema = is; rows = go schema.tables }
  where
    go : (tables : List Table) → AllByRecursion (λ t. db.trees t.tree ≡ db.trees t.tree) tables
    go [] = tt
    go (t ∷ tables) = (refl, go tables)

-- the same rows, said otherwise
pub has_same : (schema : Schema) (rows others : Trees) (db : Database) → AllByRecursion (λ t. rows t.tree ≡ others t.tree) schema.tables → HasRows schema rows db → HasRows schema others db
has_same schema rows others db same has = record { schema = has.schema; rows = go schema.tables same has.rows }
  where
    go : (tables : List Table) → AllByRecursion (λ t. rows t.tree ≡ others t.tree) tables → AllByRecursion (λ t. db.trees t.tree ≡ rows t.tree) tables → AllByRecursion (λ t. db.trees t.tree ≡ others t.tree) tables
    go [] same had = tt
    go (t ∷ tables) same had = (had.0 ∙ same.0, go tables same.1 had.1)
