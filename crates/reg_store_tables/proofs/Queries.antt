-- What a query on one table shows, of rows that records stand in.
use Rattle.std.proofs.Common.{◌≡◌, ◌+◌, ℕ, pos, negsuc, Bool, true, false, cond, List, [], ◌∷◌, map, length, None, slice_get, refl, sym, ap, subst, ◌∙◌, arith, inl, inr}
use Rattle.std.specs.List.{filter, find, flat_map, list_all, AllByRecursion}
use Rattle.std.specs.List.Sorted.{IsPermutation, IsSorted}
use Rattle.std.specs.declared.cmp.Ordering.{Ordering}
use Rattle.std.proofs.lemmas.Bool.{cases_Bool}
use Rattle.std.proofs.lemmas.List.{length-map, get_or-map}
use Rattle.std.proofs.lemmas.List.Sorted.{IsPermutation-sym, length_permutation}
use Rattle.sqlite_value.specs.Order.{Row}
use Rattle.sqlite_value.specs.declared.value.Value.TheVariants.{Null, Int}
use Rattle.sqlite_value.specs.declared.keys.Key.{Key}
use Rattle.sqlite_trees.proofs.ListLemmas.{pull_back, map-map}
use Rattle.sqlite_value.specs.declared.keys.Collation.TheVariants.{Binary}
use Rattle.sqlite_sql.specs.declared.ops.BinaryOp.TheVariants.{Compare}
use Rattle.sqlite_sql.specs.declared.ops.CompareOp.TheVariants.{Eq}
use Rattle.sqlite_sql.specs.Term.{Term, lit, col, op2, holds}
use Rattle.sqlite_sql.specs.Query.{Query, inner, end, Output, output, output_cmp, key_cmp, page, IsAnswerAs}
use Rattle.sqlite_sql.specs.Program.{overlay}
use Rattle.sqlite_schema.specs.declared.command.Command.{Command}
use Rattle.sqlite_schema.specs.declared.command.Command.TheVariants.{Select}
use Rattle.sqlite.specs.Effect.{Database, Reads}
use Rattle.sqlite.proofs.Callers.{one_permutation}
use Rattle.sqlite.specs.Listing.{understood}
use Rattle.reg_store_tables.specs.Schema.{register_schema}
use Rattle.reg_store_tables.specs.ReadStatements.{command_of}
use Rattle.reg_store_tables.specs.ShownRows.{IsRowOf}
use Rattle.reg_store_tables.specs.Rows.{number, behind_rowids, counted_rows}

-- a column is the first parameter
abbrev pub column_is : ℕ → List Term
column_is place = op2 (Compare Eq Binary) (col 1 place) (col 0 0) ∷ []

-- a query on one table
abbrev pub selects : ℕ → List Term → List Term → List (Term × Key) → Term → Query
selects tree filter project order limit = record {
  from = inner tree end;
  filter = filter;
  group = None;
  project = project;
  distinct = false;
  collations = [];
  order = order;
  limit = limit;
  offset = lit (Int (pos 0));
}

abbrev pub as_command : Query → List (List ℕ) → Command
as_command q names = Select (record { lets = []; body = q }) names

abbrev pub no_limit : Term
no_limit = lit (Int (negsuc 0))

-- the row passes WHERE
abbrev pub passes : List Term → Row → Row → Bool
passes terms params row = list_all (holds (params ∷ row ∷ [])) terms

abbrev pub shows : Query → Row → Row → Output
shows q params row = output q (params ∷ row ∷ [])

pub picked : {A B : Type 0} (p : A → Bool) (f : A → B) (xs : List A) → flat_map (λ x. cond (p x) (f x ∷ []) []) xs ≡ map f (filter p xs)
picked p f [] = refl
picked p f (x ∷ xs) = elim (cases_Bool (p x)) [
  | inl passed ↦ rw passed (ap (λ l. f x ∷ l) (picked p f xs))
  | inr failed ↦ rw failed (picked p f xs)
]

-- the rows of an answer are those of some records, in some order
pub record Given {A : Type 0} (keep : A → Bool) (out : A → Output) (xs : List A) (q : Query) (params : Row) (rows : List Row) : Type 0 where
  pub to : List A
  pub same : IsPermutation (filter keep xs) to
  pub sorted : IsSorted (λ a b. key_cmp 0 (map (λ k. k.1) q.order) (out a).0 (out b).0) to
  pub shown : rows ≡ page q params (map (λ a. (out a).1) to)

pub all_kept : {A : Type 0} (xs : List A) → filter (λ _. true) xs ≡ xs
all_kept [] = refl
all_kept (x ∷ xs) = ap (λ l. x ∷ l) (all_kept xs)

pub unmapped : {X Y : Type 0} (cmp : Y → Y → Ordering) (f : X → Y) (xs : List X) → IsSorted cmp (map f xs) → IsSorted (λ a b. cmp (f a) (f b)) xs
unmapped cmp f xs sorted k d low high =
    rw (← get_or-map f xs (k + 1) d (f d) high, ← get_or-map f xs k d (f d) (omega arith)) (sorted k (f d) low (rw length-map high))

module _ {A : Type 0} (keep : A → Bool) (out : A → Output) (xs : List A) (tree : ℕ) (terms project : List Term) (order : List (Term × Key)) (limit : Term) (params : Row) where
  abbrev query : Query
  query = selects tree terms project order limit

  pub given : (names : List (List ℕ)) (db : Database) (rows : List Row) → overlay db.trees [] tree ≡ db.trees tree
      → map (shows query params) (filter (passes terms params) (db.trees tree)) ≡ map out (filter keep xs)
      → Reads (as_command query names) db params rows → Given keep out xs query params rows
  given names db rows plain kept_are reads =
      let a : IsAnswerAs Null query (overlay db.trees []) params rows = reads.answer Null in
      let found : a.staged ≡ map (λ r. params ∷ r ∷ []) (filter (passes terms params) (db.trees tree)) =
      a.grouped ∙ picked (passes terms params) (λ r. params ∷ r ∷ []) (overlay db.trees [] tree) ∙ ap (λ l. map (λ r. params ∷ r ∷ []) (filter (passes terms params) l)) plain in
      let kept : a.kept ≡ map out (filter keep xs) = a.distinct ∙ ap (map (output query)) found ∙ map-map (output query) (λ r. params ∷ r ∷ []) _ ∙ kept_are in
      let back = pull_back out a.kept a.ordered a.same (filter keep xs) kept in
      record {
        to = back.0;
        same = back.1;
        sorted = unmapped (output_cmp query) out back.0 (subst (IsSorted (output_cmp query)) back.2 a.sorted);
        shown = a.shown ∙ ap (λ l. page query params (map (λ (o : Output). o.1) l)) back.2 ∙ ap (page query params) (map-map (λ (o : Output). o.1) out back.0);
      }

-- ---- which rows pass, of rows that records stand in

-- of a table whose key is the rowid
pub kept_keyed : {A : Type 0} (P : A → Type 0) (stored : A → Row) (test : Row → Bool) (view : Row → Output) (keep : A → Bool) (out : A → Output)
    → ((x : A) → P x → test (stored x) ≡ keep x) → ((x : A) → view (stored x) ≡ out x) → (xs : List A) → AllByRecursion P xs
    → map view (filter test (map stored xs)) ≡ map out (filter keep xs)
kept_keyed P stored test view keep out tests views [] all = refl
kept_keyed P stored test view keep out tests views (x ∷ xs) all =
    let rest = kept_keyed P stored test view keep out tests views xs all.1 in
    rw (tests x all.0) (elim (cases_Bool (keep x)) [
      | inl passed ↦ rw (passed, views x) (ap (λ l. out x ∷ l) rest)
      | inr failed ↦ rw failed rest
    ])

-- of a table whose rowids count the rows
pub kept_behind : {A : Type 0} (P : A → Type 0) (stored : A → Row) (test : Row → Bool) (view : Row → Output) (keep : A → Bool) (out : A → Output)
    → ((id : ℕ) (x : A) → P x → test (number id ∷ stored x) ≡ keep x) → ((id : ℕ) (x : A) → view (number id ∷ stored x) ≡ out x) → (from : ℕ) (xs : List A) → AllByRecursion P xs
    → map view (filter test (behind_rowids from (map stored xs))) ≡ map out (filter keep xs)
kept_behind P stored test view keep out tests views from [] all = refl
kept_behind P stored test view keep out tests views from (x ∷ xs) all =
    let rest = kept_behind P stored test view keep out tests views (from + 1) xs all.1 in
    rw (tests from x all.0) (elim (cases_Bool (keep x)) [
      | inl passed ↦ rw (passed, views from x) (ap (λ l. out x ∷ l) rest)
      | inr failed ↦ rw failed rest
    ])

pub all_of : {A : Type 0} (P : A → Type 0) → ((x : A) → P x) → (xs : List A) → AllByRecursion P xs
all_of P each [] = tt
all_of P each (x ∷ xs) = (each x, all_of P each xs)

-- ---- a look-up by a key that at most one row has

find_first : {A : Type 0} (keep : A → Bool) (xs : List A) → find keep xs ≡ slice_get (filter keep xs) 0
find_first keep [] = refl
find_first keep (x ∷ xs) = elim (cases_Bool (keep x)) [
  | inl passed ↦ rw passed refl
  | inr failed ↦ rw failed (find_first keep xs)
]

-- what holds of each record holds of those that are kept
pub kept_have : {A : Type 0} (P : A → Type 0) (keep : A → Bool) (xs : List A) → AllByRecursion P xs → AllByRecursion P (filter keep xs)
kept_have P keep [] all = tt
kept_have P keep (x ∷ xs) all = elim (cases_Bool (keep x)) [
  | inl passed ↦ rw passed (all.0, kept_have P keep xs all.1)
  | inr failed ↦ rw failed (kept_have P keep xs all.1)
]

nothing_left : {A : Type 0} (xs : List A) → length xs ≡ 0 → xs ≡ []
nothing_left [] none = refl
nothing_left (x ∷ xs) none = absurd (omega arith)

only_to : {A B : Type 0} (f : A → B) (to : List A) (y : B) → map f to ≡ y ∷ [] → (x : A) × (to ≡ x ∷ []) × (y ≡ f x)
only_to f [] y is = absurd (cc)
only_to f (x ∷ []) y is = (x, refl, cc)
only_to f (x ∷ z ∷ more) y is = absurd (cc)

none_to : {A B : Type 0} (f : A → B) (to : List A) → [] ≡ map f to → to ≡ []
none_to f [] is = refl
none_to f (x ∷ to) is = absurd (cc)

module _ {A : Type 0} (keep : A → Bool) (out : A → Output) (xs : List A) (tree : ℕ) (terms project : List Term) (order : List (Term × Key)) (params : Row) (rows : List Row)
    (g : Given keep out xs (selects tree terms project order no_limit) params rows) where
  -- what holds of each record holds of the one that is found
  pub row_of : (P : A → Type 0) → AllByRecursion P xs → IsRowOf P (λ a. (out a).1) rows (find keep xs)
  row_of P all = record {
    none = λ none.
        let to : g.to ≡ [] = none_to (λ a. (out a).1) g.to (sym none ∙ g.shown) in
        let size : length (filter keep xs) ≡ 0 = sym (length_permutation (filter keep xs) g.to g.same) ∙ ap length to in
        sym (find_first keep xs ∙ ap (λ l. slice_get l 0) (nothing_left (filter keep xs) size));
    one = λ row one.
        let only = only_to (λ a. (out a).1) g.to row (sym g.shown ∙ one) in
        let same : IsPermutation (only.0 ∷ []) (filter keep xs) = subst (λ l. IsPermutation l (filter keep xs)) only.1 (IsPermutation-sym (filter keep xs) g.to g.same) in
        let kept : filter keep xs ≡ only.0 ∷ [] = one_permutation only.0 (filter keep xs) same in
        record {
          it = only.0;
          first = sym (find_first keep xs ∙ ap (λ l. slice_get l 0) kept);
          holds = (subst (AllByRecursion P) kept (kept_have P keep xs all)).0;
          shown = only.2;
        };
  }

-- ---- the answer of a text over a table of the register

module _ {A : Type 0} (P : A → Type 0) (stored : A → Row) (keep : A → Bool) (out : A → Output) (xs : List A) (all : AllByRecursion P xs)
    (tree : ℕ) (terms project : List Term) (order : List (Term × Key)) (limit : Term) (params : Row) (text : List ℕ) (names : List (List ℕ))
    (means : command_of (understood register_schema text) ≡ as_command (selects tree terms project order limit) names) (db : Database) (plain : overlay db.trees [] tree ≡ db.trees tree) (rows : List Row)
    (reads : Reads (command_of (understood register_schema text)) db params rows) where
  abbrev asked : Query
  asked = selects tree terms project order limit

  pub keyed_given : db.trees tree ≡ map stored xs → ((x : A) → P x → passes terms params (stored x) ≡ keep x) → ((x : A) → shows asked params (stored x) ≡ out x) → Given keep out xs asked params rows
  keyed_given table tests views =
      given keep out xs tree terms project order limit params names db rows plain
      (ap (λ t. map (shows asked params) (filter (passes terms params) t)) table ∙ kept_keyed P stored (passes terms params) (shows asked params) keep out tests views xs all)
      (subst (λ c. Reads c db params rows) means reads)

  pub counted_given : db.trees tree ≡ counted_rows (map stored xs) → ((id : ℕ) (x : A) → P x → passes terms params (number id ∷ stored x) ≡ keep x) → ((id : ℕ) (x : A) → shows asked params (number id ∷ stored x) ≡ out x)
      → Given keep out xs asked params rows
  counted_given table tests views =
      given keep out xs tree terms project order limit params names db rows plain
      (ap (λ t. map (shows asked params) (filter (passes terms params) t)) table ∙ kept_behind P stored (passes terms params) (shows asked params) keep out tests views 1 xs all)
      (subst (λ c. Reads c db params rows) means reads)
