-- What is kept beside the records of version 2, taken out.
use Rattle.std.proofs.Common.{◌≡◌, ◌≢◌, ℕ, Bool, true, false, cond, ◌==◌, List, [], ◌∷◌, length, slice_get, Some, None, Ok, refl, sym, ap, subst, ◌∙◌, inl, inr}
use Rattle.std.specs.List.{AllByRecursion, flat_map, filter_map}
use Rattle.std.proofs.lemmas.Bool.{cases_Bool}
use Rattle.sqlite_value.specs.declared.value.Value.TheVariants.{Int}
use Rattle.sqlite_value.specs.Order.{Row}
use Rattle.sqlite_trees.specs.Tree.{Trees}
use Rattle.sqlite_trees.proofs.ListLemmas.{all-slice_get}
use Rattle.sqlite_schema.specs.declared.schema.Keys.TheVariants.{Enforced}
use Rattle.sqlite_schema.specs.declared.schema.Table.{Table}
use Rattle.sqlite_schema.specs.Rules.{parent_key}
use Rattle.sqlite_sql.specs.Program.{overlay}
use Rattle.sqlite_rules.specs.Action.{works, work_by, pairs, deed_for}
use Rattle.sqlite_rules.specs.Edit.{id_in}
use Rattle.sqlite_tied.specs.Compute.{everything}
use Rattle.sqlite.specs.Does.{Does}
use Rattle.sqlite.specs.Effect.{Database}
use Rattle.sqlite.specs.Given.{IsPlain}
use Rattle.sqlite.specs.State.{State, mode_of, Writes}
use Rattle.sqlite.specs.Listing.{understood}
use Rattle.sqlite.proofs.Callers.{runs_as, statement_of}
use Rattle.reg_core_laws.proofs.PublicLaws.{equal_numbers}
use Rattle.reg_store_tables.specs.ReadStatements.{command_of}
use Rattle.reg_store_tables.specs.Schema.{standing, kept, listed}
use Rattle.reg_store_tables.specs.Stays.{Ran}
use Rattle.reg_store_tables.proofs.PublicLaws.{Empties, does_empty, deletes_keep, deletes, IsKeyed, unequal_trees}
use Rattle.reg_store_migration.specs.Older.{with_derived_tables}
use Rattle.reg_store_migration.specs.NumberedRows.{IsNumbered, HasRows, with_rows}
use Rattle.reg_store_migration.specs.declared.sql.TheConstants.{CLEAR_STANDING, CLEAR_KEPT, CLEAR_LISTED}

-- no foreign key acts
acts_by : (tree : ℕ) (olds news : List Row) (deletes : Bool)
    → flat_map (λ (child : Table). filter_map (λ ref. work_by 0 tree (pairs olds news) child ref (deed_for Enforced deletes ref) (parent_key with_derived_tables.tables ref)) child.references) with_derived_tables.tables ≡ []
acts_by tree olds news true = refl
acts_by tree olds news false = refl

none_acts : (tree : ℕ) (olds news : List Row) → works with_derived_tables Enforced 0 tree olds news ≡ []
none_acts tree olds news = acts_by tree olds news (length news == 0)

numbered_keyed : (rows : List Row) → AllByRecursion IsNumbered rows → AllByRecursion IsKeyed rows
numbered_keyed [] all = tt
numbered_keyed (row ∷ rows) all = (all.0.1 ∙ ap (λ v. Int (id_in v)) (sym all.0.1), numbered_keyed rows all.1)

-- the rows of one table are others, and those of the other tables are not
pub with_other : (tables : List Table) (tree : ℕ) (those : List Row) (rows db after : Trees) → after tree ≡ those → AllByRecursion (λ t. t.tree ≢ tree → after t.tree ≡ db t.tree) tables
    → AllByRecursion (λ t. db t.tree ≡ rows t.tree) tables → AllByRecursion (λ t. after t.tree ≡ with_rows tree those rows t.tree) tables
with_other [] tree those rows db after is others had = tt
with_other (t ∷ tables) tree those rows db after is others had = (
  elim (cases_Bool (t.tree == tree)) [
    | inl here ↦ ap after (equal_numbers t.tree tree here) ∙ is ∙ sym (ap (λ b. cond b those (rows t.tree)) here)
    | inr apart ↦ others.0 (unequal_trees t.tree tree apart) ∙ had.0 ∙ sym (ap (λ b. cond b those (rows t.tree)) apart)
  ],
  with_other tables tree those rows db after is others.1 had.1,
)

-- the table of a tree is emptied, if its rows have numbers, and the tables stay
abbrev pub Clears : ℕ → Database → Database → Type 0
Clears tree old new =
    ((rows : Trees) → AllByRecursion IsNumbered (rows tree) → HasRows with_derived_tables rows old → HasRows with_derived_tables (with_rows tree [] rows) new) × (old.schema ≡ with_derived_tables → new.schema ≡ with_derived_tables)

module _ (text : List ℕ) (place : ℕ) (table : Table) (there : slice_get with_derived_tables.tables place ≡ Some table) (plain : IsPlain (understood with_derived_tables text))
    (means : command_of (understood with_derived_tables text) ≡ deletes place table.tree) (over : (trees : Trees) → overlay trees [] table.tree ≡ trees table.tree) where
  clears : (old new : State) (count : ℕ) → Ran text [] old new count → Clears table.tree old.now new.now
  clears old new count ran = (
    λ rows numbered was.
        let w : Writes old new None (deletes place table.tree) (statement_of text (understood with_derived_tables text)) [] count =
        runs_as text [] old new with_derived_tables was.schema (deletes place table.tree) means plain count ran.ran in
        let done = subst (λ s. Does old.step_limit (mode_of old) [] (record old.now { schema = s }) (statement_of text (understood with_derived_tables text)) None (deletes place table.tree) (Ok (w.tally, new.now))) was.schema w.changed in
        let had : old.now.trees table.tree ≡ rows table.tree = all-slice_get (λ (t : Table). old.now.trees t.tree ≡ rows t.tree) with_derived_tables.tables place table there was.rows in
        let gone : Empties with_derived_tables table old.now.trees new.now =
        does_empty old.step_limit (mode_of old) with_derived_tables table [] old.now.trees place w.tally new.now there (statement_of text (understood with_derived_tables text)) done (over old.now.trees) (none_acts table.tree)
        (numbered_keyed (old.now.trees table.tree) (subst (AllByRecursion IsNumbered) (sym had) numbered)) in
        record { schema = gone.keeps_schema; rows = with_other with_derived_tables.tables table.tree [] rows old.now.trees new.now.trees gone.rows gone.others was.rows },
    λ has. (deletes_keep text [] old new count ran with_derived_tables has plain place _ means).0,
  )

pub clears_standing : (old new : State) (count : ℕ) → Ran CLEAR_STANDING.now [] old new count → Clears 12 old.now new.now
unfolding understood everything
clears_standing = clears CLEAR_STANDING.now 7 standing refl (refl, refl) refl (λ trees. refl)

pub clears_kept : (old new : State) (count : ℕ) → Ran CLEAR_KEPT.now [] old new count → Clears 14 old.now new.now
unfolding understood everything
clears_kept = clears CLEAR_KEPT.now 8 kept refl (refl, refl) refl (λ trees. refl)

pub clears_listed : (old new : State) (count : ℕ) → Ran CLEAR_LISTED.now [] old new count → Clears 15 old.now new.now
unfolding understood everything
clears_listed = clears CLEAR_LISTED.now 9 listed refl (refl, refl) refl (λ trees. refl)
