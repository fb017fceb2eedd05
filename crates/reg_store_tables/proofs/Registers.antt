-- What a statement that writes makes of the tables of a register.
use Rattle.std.proofs.Common.{◌≡◌, ◌≢◌, ◌/◌, ℕ, Bool, true, false, ◌==◌, List, [], ◌∷◌, map, length, slice_get, Some, None, Ok, refl, sym, ap, subst, ◌∙◌, arith}
use Rattle.std.specs.List.{AllByRecursion, list_any, flat_map, filter_map}
use Rattle.std.proofs.lemmas.Bool.Decides.{nat_tests}
use Rattle.sqlite_value.specs.Order.{Row}
use Rattle.sqlite_trees.specs.Tree.{Trees, IsTable}
use Rattle.sqlite_sql.specs.Term.{Term, eval_all}
use Rattle.sqlite_sql.specs.Program.{overlay}
use Rattle.sqlite_schema.specs.declared.schema.Keys.TheVariants.{Enforced}
use Rattle.sqlite_schema.specs.declared.schema.Table.{Table}
use Rattle.sqlite_schema.specs.Rules.{parent_key}
use Rattle.sqlite_rules.specs.Action.{works, work_by, pairs, deed_for}
use Rattle.sqlite_rules.specs.Cast.{cast_row}
use Rattle.sqlite_rules.proofs.ListLemmas.{some_has, all_has}
use Rattle.sqlite.specs.Effect.{Database, value_rows}
use Rattle.sqlite.specs.Does.{Does}
use Rattle.sqlite.specs.Rows.{stamped}
use Rattle.sqlite.specs.State.{State, mode_of, Writes}
use Rattle.sqlite.specs.Listing.{understood}
use Rattle.sqlite.proofs.Callers.{runs_as, statement_of}
use Rattle.reg_core_laws.proofs.PublicLaws.{equal_numbers}
use Rattle.reg_store_tables.specs.Schema.{register_schema, table_trees}
use Rattle.reg_store_tables.proofs.Queries.{passes}
use Rattle.reg_store_tables.specs.Stays.{Ran}
use Rattle.reg_store_tables.proofs.Meaning.{updates, inserts, deletes, IsWriting}
use Rattle.reg_store_tables.proofs.Updates.{IsKeyed}
use Rattle.reg_store_tables.proofs.Edits.{made, Turns, Puts, Empties, does_turn, does_put, does_empty}

trees_are : map (λ (t : Table). t.tree) register_schema.tables ≡ table_trees
unfolding register_schema
trees_are = refl

-- no foreign key of the register acts
acts_by : (tree : ℕ) (olds news : List Row) (deletes : Bool)
    → flat_map (λ (child : Table). filter_map (λ ref. work_by 0 tree (pairs olds news) child ref (deed_for Enforced deletes ref) (parent_key register_schema.tables ref)) child.references) register_schema.tables ≡ []
unfolding register_schema
acts_by tree olds news true = refl
acts_by tree olds news false = refl

pub none_acts : (tree : ℕ) (olds news : List Row) → works register_schema Enforced 0 tree olds news ≡ []
none_acts tree olds news = acts_by tree olds news (length news == 0)

-- each other table has the rows that it had
pub record Spares (tree : ℕ) (db after : Trees) : Type 0 where
  pub same : (n : ℕ) → list_any (λ t. t == n) table_trees ≡ true → (n == tree) ≡ false → after n ≡ db n

pub unequal_trees : (m n : ℕ) → (m == n) ≡ false → m ≢ n
unequal_trees m n e = λ same. let t : (m == n) ≡ true = grind (arith, nat_tests) in cc

listed_in : (n : ℕ) (tables : List Table) → list_any (λ t. t == n) (map (λ (t : Table). t.tree) tables) ≡ list_any (λ (t : Table). t.tree == n) tables
listed_in n [] = refl
listed_in n (t ∷ tables) = ap (λ b. Rattle.std.proofs.Common.◌||◌ (t.tree == n) b) (listed_in n tables)

-- what holds of each of a register's tables holds of one that it has
pub at_known : (P : ℕ → Type 0) → AllByRecursion (λ t. P t.tree) register_schema.tables → (n : ℕ) → list_any (λ t. t == n) table_trees ≡ true → P n
at_known P all n known =
    let found = some_has (λ (t : Table). t.tree == n) register_schema.tables (sym (listed_in n register_schema.tables) ∙ ap (list_any (λ t. t == n)) trees_are ∙ known) in
    subst P (equal_numbers found.0.tree n found.2) (all_has (λ (t : Table). P t.tree) register_schema.tables found.0 all found.1)

pub spares : (tree : ℕ) (db after : Trees) → AllByRecursion (λ t. t.tree ≢ tree → after t.tree ≡ db t.tree) register_schema.tables → Spares tree db after
spares tree db after all = record { same = λ n known apart. at_known (λ m. m ≢ tree → after m ≡ db m) all n known (unequal_trees n tree apart) }

module _ (sql : List ℕ) (params : Row) (old new : State) (count : ℕ) (ran : Ran sql params old new count) (schema : old.now.schema ≡ register_schema) (place : ℕ) (table : Table)
    (there : slice_get register_schema.tables place ≡ Some table) where
  pub turns_rows : (terms columns : List Term) → IsWriting sql (updates place table.tree terms columns) → overlay old.now.trees [] table.tree ≡ old.now.trees table.tree
      → IsTable (old.now.trees table.tree) → AllByRecursion IsKeyed (old.now.trees table.tree)
      → Turns register_schema table (passes terms params) (made table columns params) old.now.trees new.now count
  turns_rows terms columns means plain sorted keyed =
      let w : Writes old new None (updates place table.tree terms columns) (statement_of sql (understood register_schema sql)) params count =
      runs_as sql params old new register_schema schema (updates place table.tree terms columns) means.is means.plain count ran.ran in
      let done = subst (λ s. Does old.step_limit (mode_of old) params (record old.now { schema = s }) (statement_of sql (understood register_schema sql)) None (updates place table.tree terms columns) (Ok (w.tally, new.now))) schema w.changed in
      subst (Turns register_schema table (passes terms params) (made table columns params) old.now.trees new.now) (sym w.counted)
      (does_turn old.step_limit (mode_of old) register_schema table params old.now.trees place terms columns w.tally new.now there (statement_of sql (understood register_schema sql)) done plain (none_acts table.tree) sorted keyed)

  pub puts_row : (terms : List Term) (width : ℕ) → IsWriting sql (inserts place terms width) → table.is_counted ≡ false → stamped table params ≡ params
      → value_rows params width (length terms / width) terms ≡ eval_all terms (params ∷ []) ∷ []
      → Puts register_schema table (cast_row table (eval_all terms (params ∷ []))) old.now.trees new.now
  puts_row terms width means uncounted unstamped one =
      let w : Writes old new None (inserts place terms width) (statement_of sql (understood register_schema sql)) params count =
      runs_as sql params old new register_schema schema (inserts place terms width) means.is means.plain count ran.ran in
      let done = subst (λ s. Does old.step_limit (mode_of old) params (record old.now { schema = s }) (statement_of sql (understood register_schema sql)) None (inserts place terms width) (Ok (w.tally, new.now))) schema w.changed in
      does_put old.step_limit (mode_of old) register_schema table params old.now.trees place terms width w.tally new.now there (statement_of sql (understood register_schema sql)) done uncounted unstamped one (none_acts table.tree)

  pub empties_rows : IsWriting sql (deletes place table.tree) → overlay old.now.trees [] table.tree ≡ old.now.trees table.tree → AllByRecursion IsKeyed (old.now.trees table.tree)
      → Empties register_schema table old.now.trees new.now
  empties_rows means plain keyed =
      let w : Writes old new None (deletes place table.tree) (statement_of sql (understood register_schema sql)) params count =
      runs_as sql params old new register_schema schema (deletes place table.tree) means.is means.plain count ran.ran in
      let done = subst (λ s. Does old.step_limit (mode_of old) params (record old.now { schema = s }) (statement_of sql (understood register_schema sql)) None (deletes place table.tree) (Ok (w.tally, new.now))) schema w.changed in
      does_empty old.step_limit (mode_of old) register_schema table params old.now.trees place w.tally new.now there (statement_of sql (understood register_schema sql)) done plain (none_acts table.tree) keyed

pub turns_spares : (table : Table) (p : Row → Bool) (f : Row → Row) (db : Trees) (after : Database) (count : ℕ) → Turns register_schema table p f db after count → Spares table.tree db after.trees
turns_spares table p f db after count turns = spares table.tree db after.trees turns.others

pub puts_spares : (table : Table) (row : Row) (db : Trees) (after : Database) → Puts register_schema table row db after → Spares table.tree db after.trees
puts_spares table row db after puts = spares table.tree db after.trees puts.others

pub empties_spares : (table : Table) (db : Trees) (after : Database) → Empties register_schema table db after → Spares table.tree db after.trees
empties_spares table db after empties = spares table.tree db after.trees empties.others
