-- What an UPDATE and an INSERT make of the rows of a table, over any schema.
use Rattle.std.proofs.Common.{◌≡◌, ◌≢◌, ◌⊎◌, ◌/◌, ℕ, ℤ, Bool, true, false, cond, List, [], ◌∷◌, map, drop, length, filter, slice_get, unwrap_or, Option, Some, None, Result, Ok, Err, refl, sym, ap, ap₂, subst, ◌∙◌, inl, inr}
use Rattle.std.specs.List.{AllByRecursion}
use Rattle.std.specs.Prelude.{MatchBool}
use Rattle.std.specs.List.Sorted.{IsPermutation}
use Rattle.std.proofs.lemmas.List.{length-map}
use Rattle.std.proofs.lemmas.List.Sorted.{length_permutation}
use Rattle.sqlite_value.specs.declared.value.Value.{Value}
use Rattle.sqlite_value.specs.declared.value.Value.TheVariants.{Null, Int}
use Rattle.sqlite_value.specs.Order.{Row, column}
use Rattle.sqlite_trees.specs.Tree.{Trees, rowid, IsTable, put_row}
use Rattle.sqlite_trees.proofs.ListLemmas.{map-map}
use Rattle.sqlite_sql.specs.Term.{Term, col, eval_all}
use Rattle.sqlite_sql.specs.Ops.{unary}
use Rattle.sqlite_sql.specs.Query.{Query}
use Rattle.sqlite_sql.specs.Program.{overlay}
use Rattle.sqlite_schema.specs.declared.schema.Kind.TheVariants.{Integer}
use Rattle.sqlite_schema.specs.declared.schema.Table.{Table}
use Rattle.sqlite_schema.specs.declared.schema.Schema.{Schema}
use Rattle.sqlite_rules.specs.declared.error.Rowids.TheVariants.{Chosen, Above, Given}
use Rattle.sqlite_rules.specs.Action.{works, Writes}
use Rattle.sqlite_rules.specs.Cast.{cast, cast_row}
use Rattle.sqlite_rules.specs.Edit.{id_in, with_rowid, numbered, without_all, put_all, are_fresh, edit_of, edited, taken_by, Applies}
use Rattle.sqlite_rules.specs.Calls.{ids_of}
use Rattle.sqlite_rules.proofs.PlaceLemmas as places
use Rattle.sqlite.specs.Effect.{Database, Answers, value_rows}
use Rattle.sqlite.specs.Does.{Tally, Does, OnRows}
use Rattle.sqlite.specs.Rows.{Task, Written, stamped, count_of, rowids_for}
use Rattle.sqlite.specs.declared.run.Mode.{Mode}
use Rattle.sqlite.proofs.Callers.{one_step}
use Rattle.reg_store_tables.proofs.Queries.{selects, no_limit, passes, shows, given}
use Rattle.reg_store_tables.proofs.Meaning.{updates, inserts, deletes}
use Rattle.reg_store_tables.specs.DerivedRows.{turned}
use Rattle.reg_store_tables.proofs.Updates.{IsKeyed, rows_turned, rows_gone}

-- a part that gave a value did not stop on the way
pub went : {B E R : Type 0} {b : B} {Stops : E → Type 0} → ((stop : E) × Stops stop × (Ok b ≡ Err stop)) ⊎ R → R
went (inl stopped) = absurd (let e = stopped.2 in cc)
went (inr on) = on

pub same_value : {B E : Type 0} {a b : B} → ◌≡◌ {A = Result B E} (Ok a) (Ok b) → a ≡ b
same_value e = cc

either : (b : Bool) (x : Value) → cond b x x ≡ x
either true x = refl
either false x = refl

pub cast_null : cast Integer Null ≡ Null
unfolding unary
cast_null = either _ Null

pub cast_int : (n : ℤ) → cast Integer (Int n) ≡ Int n
unfolding unary
cast_int n = either _ (Int n)

-- what an UPDATE shows of a row: its rowid twice, and its columns
abbrev shown : List Term → Row → Row → Row
shown columns params row = eval_all (col 1 0 ∷ col 1 0 ∷ columns) (params ∷ row ∷ [])

-- the row that an UPDATE puts in its place
abbrev pub made : Table → List Term → Row → Row → Row
made table columns params row = cast_row table (drop 1 (shown columns params row))

-- the rows of a table that pass are turned, and the other tables are as they were
pub record Turns (schema : Schema) (table : Table) (p : Row → Bool) (f : Row → Row) (db : Trees) (after : Database) (count : ℕ) : Type 0 where
  pub keeps_schema : after.schema ≡ schema
  pub rows : after.trees table.tree ≡ map (turned p f) (db table.tree)
  pub others : AllByRecursion (λ t. t.tree ≢ table.tree → after.trees t.tree ≡ db t.tree) schema.tables
  pub counted : count ≡ length (filter p (db table.tree))

pub uncounted_is : (X Y : Type 0) (b c : Bool) → b ≡ false → MatchBool (cond b c false) X Y → Y
uncounted_is X Y true c e h = absurd (cc)
uncounted_is X Y false c e h = h

-- a row is put into a table, and the other tables are as they were
pub record Puts (schema : Schema) (table : Table) (row : Row) (db : Trees) (after : Database) : Type 0 where
  pub keeps_schema : after.schema ≡ schema
  pub rows : after.trees table.tree ≡ put_row (with_rowid Chosen (db table.tree) row) (db table.tree)
  pub others : AllByRecursion (λ t. t.tree ≢ table.tree → after.trees t.tree ≡ db t.tree) schema.tables

-- a table has no row, and the other tables are as they were
pub record Empties (schema : Schema) (table : Table) (db : Trees) (after : Database) : Type 0 where
  pub keeps_schema : after.schema ≡ schema
  pub rows : after.trees table.tree ≡ []
  pub others : AllByRecursion (λ t. t.tree ≢ table.tree → after.trees t.tree ≡ db t.tree) schema.tables

module _ (limit : Option ℕ) (mode : Mode) (schema : Schema) (table : Table) (params : Row) (db : Trees) where
  abbrev task : Task
  task = record { limit = limit; keys = mode.keys; schema = schema; table = table; params = params }

  abbrev at_trees : Database
  at_trees = record { schema = schema; trees = db }

  abbrev NoneActs : Type 0
  NoneActs = (olds news : List Row) → works schema mode.keys 0 table.tree olds news ≡ []

  module _ (place : ℕ) (filter_terms columns : List Term) (tally : Tally) (after : Database) where
    abbrev query : Query
    query = selects table.tree filter_terms (col 1 0 ∷ col 1 0 ∷ columns) [] no_limit

    abbrev p : Row → Bool
    p = passes filter_terms params

    abbrev f : Row → Row
    f = made table columns params

    ids_are : (to : List Row) → ids_of (map (shown columns params) to) ≡ ids_of to
    ids_are to = map-map (λ r. id_in (rowid r)) (shown columns params) to

    news_are : (left to : List Row) → numbered Given left (map (λ s. cast_row table (drop 1 s)) (map (shown columns params) to)) ≡ map f to
    news_are left to = places.given left _ ∙ map-map (λ s. cast_row table (drop 1 s)) (shown columns params) to

    keeps_rowids : (rows : List Row) → AllByRecursion IsKeyed rows → AllByRecursion (λ r. rowid (f r) ≡ rowid r) rows
    keeps_rowids [] all = tt
    keeps_rowids (r ∷ rows) all = (ap (cast Integer) all.0 ∙ cast_int (id_in (rowid r)) ∙ sym all.0, keeps_rowids rows all.1)

    applied : (to : List Row) (next : Trees) → NoneActs → IsTable (db table.tree) → AllByRecursion IsKeyed (db table.tree) → IsPermutation (filter p (db table.tree)) to
        → Writes schema mode.keys db (edit_of db table (ids_of (map (shown columns params) to)) Given 1 (map (shown columns params) to)) (Ok next)
        → (next table.tree ≡ map (turned p f) (db table.tree)) × AllByRecursion (λ t. t.tree ≢ table.tree → next t.tree ≡ db t.tree) schema.tables
    applied to next none sorted keyed same writes =
        let edit = edit_of db table (ids_of (map (shown columns params) to)) Given 1 (map (shown columns params) to) in
        let app : Applies schema mode.keys db edit next = one_step schema mode.keys db next edit (none (taken_by db edit) edit.news) writes in
        let left = without_all (db table.tree) (ids_of (map (shown columns params) to)) in
        let fresh : are_fresh (without_all (db table.tree) (ids_of to)) (map f to) ≡ true =
        ap₂ are_fresh (ap (without_all (db table.tree)) (sym (ids_are to))) (sym (news_are left to)) ∙ app.fresh in
        let put : edited db edit ≡ put_all (without_all (db table.tree) (ids_of to)) (map f to) = ap₂ put_all (ap (without_all (db table.tree)) (ids_are to)) (news_are left to) in
        (app.rows ∙ put ∙ rows_turned p f (db table.tree) to sorted keyed (keeps_rowids (db table.tree) keyed) same fresh, app.tables)

    rows_are : (rows : List Row) → overlay db [] table.tree ≡ db table.tree → Answers at_trees (record { lets = []; body = query }) params rows
        → (to : List Row) × IsPermutation (filter p (db table.tree)) to × (rows ≡ map (shown columns params) to)
    rows_are rows plain answers =
        let back = given p (shows query params) (db table.tree) table.tree filter_terms (col 1 0 ∷ col 1 0 ∷ columns) [] no_limit params [] at_trees rows plain refl answers in
        (back.to, back.same, back.shown)

    turns : OnRows task mode None (updates place table.tree filter_terms columns) db (Ok (tally, after)) → overlay db [] table.tree ≡ db table.tree → NoneActs → IsTable (db table.tree)
        → AllByRecursion IsKeyed (db table.tree) → Turns schema table p f db after (unwrap_or tally.rows 0)
    turns h plain none sorted keyed =
        let w = went h in
        let asked = went w.1 in
        let found = rows_are asked.0 plain asked.1 in
        let wrote = went asked.2 in
        let done = same_value (went (went w.2).2).2 in
        let edit = edit_of db table (ids_of asked.0) Given 1 asked.0 in
        let is : w.0 ≡ record { trees = wrote.0; rows = edit.news; last = None } = same_value wrote.2 in
        let it = applied found.0 wrote.0 none sorted keyed found.1 (subst (λ rows. Writes schema mode.keys db (edit_of db table (ids_of rows) Given 1 rows) (Ok wrote.0)) found.2 wrote.1) in
        let trees : after.trees ≡ wrote.0 = ap (λ (x : Tally × Database). x.1.trees) done ∙ ap (λ (x : Written). x.trees) is in
        let count : unwrap_or tally.rows 0 ≡ length edit.news = ap (λ (x : Tally × Database). unwrap_or x.0.rows 0) done ∙ ap (λ (x : Written). length x.rows) is in
        let news : length edit.news ≡ length found.0 =
        ap (λ rows. length (numbered Given (without_all (db table.tree) (ids_of asked.0)) (map (λ s. cast_row table (drop 1 s)) rows))) found.2 ∙ ap length (news_are (without_all (db table.tree) (ids_of asked.0)) found.0) ∙ length-map _ _ in
        record {
          keeps_schema = ap (λ (x : Tally × Database). x.1.schema) done;
          rows = ap (λ (t : Trees). t table.tree) trees ∙ it.0;
          others = subst (λ (x : Trees). AllByRecursion (λ t. t.tree ≢ table.tree → x t.tree ≡ db t.tree) schema.tables) (sym trees) it.1;
          counted = count ∙ news ∙ length_permutation _ _ found.1;
        }

    pub does_turn : slice_get schema.tables place ≡ Some table → (text : List ℕ) → Does limit mode params at_trees text None (updates place table.tree filter_terms columns) (Ok (tally, after))
        → overlay db [] table.tree ≡ db table.tree → NoneActs → IsTable (db table.tree) → AllByRecursion IsKeyed (db table.tree) → Turns schema table p f db after (unwrap_or tally.rows 0)
    does_turn there text h = turns (rw there at h)

  module _ (place : ℕ) (terms : List Term) (width : ℕ) (tally : Tally) (after : Database) where
    abbrev values : Row
    values = eval_all terms (params ∷ [])

    puts_in : OnRows task mode None (inserts place terms width) db (Ok (tally, after)) → table.is_counted ≡ false → stamped table params ≡ params → value_rows params width (length terms / width) terms ≡ values ∷ [] → NoneActs
        → Puts schema table (cast_row table values) db after
    puts_in h uncounted unstamped one none =
        let w = went h in
        let asked = went w.1 in
        let counted = went asked.2 in
        let wrote = went counted.2 in
        let end = went wrote.2 in
        let done = same_value (went (went w.2).2).2 in
        let rowids = rowids_for table (count_of counted.0) in
        let chosen : rowids ≡ Chosen = ap (λ b. cond b (Above (count_of counted.0)) Chosen) uncounted in
        let rows : asked.0 ≡ values ∷ [] = asked.1.1 ∙ ap (λ given. value_rows given width (length terms / width) terms) unstamped ∙ one in
        let edit = edit_of db table [] rowids 0 asked.0 in
        let app : Applies schema mode.keys db edit wrote.0 = one_step schema mode.keys db wrote.0 edit (none (taken_by db edit) edit.news) wrote.1 in
        let next : end.0 ≡ wrote.0 = same_value (uncounted_is _ _ _ _ uncounted end.1) in
        let is : w.0.trees ≡ end.0 = ap (λ (x : Written). x.trees) (same_value end.2) in
        let trees : after.trees ≡ wrote.0 = ap (λ (x : Tally × Database). x.1.trees) done ∙ is ∙ next in
        let put : edited db edit ≡ put_row (with_rowid Chosen (db table.tree) (cast_row table values)) (db table.tree) = ap₂ (λ r all. edited db (edit_of db table [] r 0 all)) chosen rows in
        record {
          keeps_schema = ap (λ (x : Tally × Database). x.1.schema) done;
          rows = ap (λ (t : Trees). t table.tree) trees ∙ app.rows ∙ put;
          others = subst (λ (x : Trees). AllByRecursion (λ t. t.tree ≢ table.tree → x t.tree ≡ db t.tree) schema.tables) (sym trees) app.tables;
        }

    pub does_put : slice_get schema.tables place ≡ Some table → (text : List ℕ) → Does limit mode params at_trees text None (inserts place terms width) (Ok (tally, after))
        → table.is_counted ≡ false → stamped table params ≡ params → value_rows params width (length terms / width) terms ≡ values ∷ [] → NoneActs → Puts schema table (cast_row table values) db after
    does_put there text h = puts_in (rw there at h)

  -- ---- DELETE of all rows

  module _ (place : ℕ) (tally : Tally) (after : Database) where
    abbrev all_rows : Query
    all_rows = selects table.tree [] (col 1 0 ∷ []) [] no_limit

    every : (rows : List Row) → filter (passes [] params) rows ≡ rows
    every [] = refl
    every (r ∷ rows) = ap (λ l. r ∷ l) (every rows)

    empties : OnRows task mode None (deletes place table.tree) db (Ok (tally, after)) → overlay db [] table.tree ≡ db table.tree → NoneActs → AllByRecursion IsKeyed (db table.tree)
        → Empties schema table db after
    empties h plain none keyed =
        let w = went h in
        let asked = went w.1 in
        let back = given (passes [] params) (shows all_rows params) (db table.tree) table.tree [] (col 1 0 ∷ []) [] no_limit params [] at_trees asked.0 plain refl asked.1 in
        let wrote = went asked.2 in
        let done = same_value (went (went w.2).2).2 in
        let edit = edit_of db table (ids_of asked.0) Given 0 [] in
        let app : Applies schema mode.keys db edit wrote.0 = one_step schema mode.keys db wrote.0 edit (none (taken_by db edit) edit.news) wrote.1 in
        let is : w.0.trees ≡ wrote.0 = ap (λ (x : Written). x.trees) (same_value wrote.2) in
        let trees : after.trees ≡ wrote.0 = ap (λ (x : Tally × Database). x.1.trees) done ∙ is in
        let ids : ids_of asked.0 ≡ ids_of back.to = ap ids_of back.shown ∙ map-map (λ r. id_in (rowid r)) (λ r. column r 0 ∷ []) back.to in
        let same : IsPermutation (db table.tree) back.to = subst (λ those. IsPermutation those back.to) (every (db table.tree)) back.same in
        record {
          keeps_schema = ap (λ (x : Tally × Database). x.1.schema) done;
          rows = ap (λ (t : Trees). t table.tree) trees ∙ app.rows ∙ ap (without_all (db table.tree)) ids ∙ rows_gone (db table.tree) back.to keyed same;
          others = subst (λ (x : Trees). AllByRecursion (λ t. t.tree ≢ table.tree → x t.tree ≡ db t.tree) schema.tables) (sym trees) app.tables;
        }

    pub does_empty : slice_get schema.tables place ≡ Some table → (text : List ℕ) → Does limit mode params at_trees text None (deletes place table.tree) (Ok (tally, after))
        → overlay db [] table.tree ≡ db table.tree → NoneActs → AllByRecursion IsKeyed (db table.tree) → Empties schema table db after
    does_empty there text h = empties (rw there at h)
