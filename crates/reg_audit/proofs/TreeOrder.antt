-- A tree's rows stand in the order of their rowids, so a text that reads them in that order reads the tree.
use Rattle.std.proofs.Common.{◌≡◌, ◌<◌, ◌+◌, ℕ, pos, true, List, [], ◌∷◌, map, refl, sym, ap, subst, ◌∙◌, arith}
use Rattle.std.specs.List.{AllByRecursion}
use Rattle.std.specs.List.Sorted.{IsPermutation, IsSorted}
use Rattle.std.specs.Ordering.{nat_cmp, is_lt}
use Rattle.std.specs.declared.cmp.Ordering.TheVariants.{Less}
use Rattle.std.proofs.lemmas.Bool.Decides.{nat_tests}
use Rattle.std.proofs.lemmas.List.Elements.{All-from_recursion, recursion_from_All}
use Rattle.std.proofs.lemmas.List.Sorted.{IsPermutation-sym, All-permutation}
use Rattle.sqlite_value.specs.Order.{Row, column, value_cmp}
use Rattle.sqlite_value.specs.declared.keys.Key.{Key}
use Rattle.sqlite_value.proofs.OrderLemmas.{value_cmp-Int}
use Rattle.sqlite_trees.specs.Tree.{rowid, IsTable}
use Rattle.sqlite_trees.specs.Objects.{number_in}
use Rattle.sqlite_sql.specs.Program.{overlay}
use Rattle.sqlite_sql.specs.Query.{key_cmp}
use Rattle.sqlite_sql.specs.Term.{Term, col, eval_all}
use Rattle.sqlite.specs.Effect.{Database, Reads}
use Rattle.sqlite.specs.Listing.{understood}
use Rattle.reg_store_tables.specs.ReadStatements.{command_of}
use Rattle.reg_store_tables.specs.Rows.{number}
use Rattle.reg_store_tables.specs.Schema.{register_schema}
use Rattle.reg_store_tables.proofs.PublicLaws.{as_numbers, selects, as_command, no_limit, Given, keyed_given, all_of, all_kept, ascending_key, ascends, Rises, sorted_same}

themselves : (rows : List Row) → map (λ (row : Row). row) rows ≡ rows
themselves [] = refl
themselves (row ∷ rows) = ap (λ (l : List Row). row ∷ l) (themselves rows)

abbrev pub rowid_number : Row → ℕ
rowid_number row = number_in (column row 0)

-- the rowid is a number
abbrev pub HasNumber : Row → Type 0
HasNumber row = column row 0 ≡ number (rowid_number row)

-- ---- rowids that rise, as numbers

less_number : (a b : ℕ) → value_cmp (number a) (number b) ≡ Less → a < b
less_number a b less =
    let tested : is_lt (nat_cmp a b) ≡ true = ap is_lt (sym (value_cmp-Int (pos a) (pos b) ∙ as_numbers a b) ∙ less) in
    grind (arith, nat_tests, tested)

above : (row : Row) (rows : List Row) → HasNumber row → AllByRecursion HasNumber rows → AllByRecursion (λ b. value_cmp (rowid row) (rowid b) ≡ Less) rows → AllByRecursion (λ b. rowid_number row < rowid_number b) rows
above row [] here all less = tt
above row (other ∷ rows) here all less =
    let both : value_cmp (number (rowid_number row)) (number (rowid_number other)) ≡ Less = (λ i. value_cmp (sym here i) (sym all.0 i)) ∙ less.0 in
    (less_number (rowid_number row) (rowid_number other) both, above row rows here all.1 less.1)

table_rises : (rows : List Row) → IsTable rows → AllByRecursion HasNumber rows → Rises rowid_number rows
table_rises [] table all = tt
table_rises (row ∷ rows) table all = (above row rows all.0 all.1 table.0, table_rises rows table.1 all.1)

in_order : (rows : List Row) → AllByRecursion HasNumber rows → IsSorted (λ a b. key_cmp 0 (ascending_key ∷ []) (column a 0 ∷ []) (column b 0 ∷ [])) rows
    → IsSorted (λ a b. key_cmp 0 (ascending_key ∷ []) (number (rowid_number a) ∷ []) (number (rowid_number b) ∷ [])) rows
in_order rows all sorted k d low high =
    let later = All-from_recursion HasNumber rows all (k + 1) d high in
    let here = All-from_recursion HasNumber rows all k d (omega (arith, high)) in
    (λ i. is_lt (key_cmp 0 (ascending_key ∷ []) (sym later i ∷ []) (sym here i ∷ []))) ∙ sorted k d low high

-- ---- a text that reads a table in the order of its rowids

abbrev pub by_rowid : List (Term × Key)
by_rowid = (col 1 0, ascending_key) ∷ []

-- the columns of a row that a text shows
abbrev pub seen : List Term → Row → Row
seen project row = eval_all project ([] ∷ row ∷ [])

module _ (tree : ℕ) (project : List Term) (text : List ℕ) (names : List (List ℕ)) (means : command_of (understood register_schema text) ≡ as_command (selects tree [] project by_rowid no_limit) names)
    (db : Database) (plain : overlay db.trees [] tree ≡ db.trees tree) (rows : List Row) (reads : Reads (command_of (understood register_schema text)) db [] rows) where
  given : Given (λ _. true) (λ (row : Row). (column row 0 ∷ [], seen project row)) (db.trees tree) (selects tree [] project by_rowid no_limit) [] rows
  given =
      keyed_given (λ _. Unit {0}) (λ (row : Row). row) (λ _. true) (λ (row : Row). (column row 0 ∷ [], seen project row)) (db.trees tree) (all_of (λ (_ : Row). Unit {0}) (λ _. tt) (db.trees tree)) tree [] project by_rowid no_limit [] text names means
      db plain rows reads (sym (themselves (db.trees tree))) (λ row any. refl) (λ row. refl)

  same : IsPermutation (db.trees tree) given.to
  same = subst (λ l. IsPermutation l given.to) (all_kept (db.trees tree)) given.same

  -- where each rowid is a number, the rows are those of the tree
  pub reads_tree : AllByRecursion HasNumber (db.trees tree) → IsTable (db.trees tree) → rows ≡ map (seen project) (db.trees tree)
  reads_tree all table =
      let shuffled : AllByRecursion HasNumber given.to = recursion_from_All HasNumber given.to (All-permutation HasNumber (db.trees tree) given.to same (All-from_recursion HasNumber (db.trees tree) all)) in
      let to : given.to ≡ db.trees tree =
      sorted_same rowid_number (db.trees tree) given.to (table_rises (db.trees tree) table all) same (ascends rowid_number given.to (in_order given.to shuffled given.sorted)) in
      given.shown ∙ ap (map (seen project)) to

  -- and each rowid is a number where the text shows it first, and shows a number
  pub numbers_of : ((row : Row) → column (seen project row) 0 ≡ column row 0) → AllByRecursion HasNumber rows → AllByRecursion HasNumber (db.trees tree)
  numbers_of first all =
      let shown : AllByRecursion HasNumber (map (seen project) given.to) = subst (AllByRecursion HasNumber) given.shown all in
      let back = IsPermutation-sym (db.trees tree) given.to same in
      recursion_from_All HasNumber (db.trees tree) (All-permutation HasNumber given.to (db.trees tree) back (All-from_recursion HasNumber given.to (unseen given.to shown)))
    where
      unseen : (to : List Row) → AllByRecursion HasNumber (map (seen project) to) → AllByRecursion HasNumber to
      unseen [] every = tt
      unseen (row ∷ to) every = (subst (λ v. v ≡ number (number_in v)) (first row) every.0, unseen to every.1)
