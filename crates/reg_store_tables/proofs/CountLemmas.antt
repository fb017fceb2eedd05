-- What the statements on the kept counts show.
use Rattle.std.proofs.Common.{◌≡◌, ◌≤◌, ◌<◌, ◌&&◌, ℕ, zero, suc, pos, true, false, Bool, None, Some, List, [], ◌∷◌, map, length, codes, refl, sym, ap, subst, ◌∙◌, arith, inl, inr}
use Rattle.std.specs.Prelude.{min, bytes_eq, slice_index_or}
use Rattle.std.specs.List.{filter, AllZip}
use Rattle.std.specs.List.Sorted.{IsPermutation}
use Rattle.std.proofs.lemmas.Bool.{cases_Bool}
use Rattle.std.proofs.lemmas.Bool.Decides.{nat_tests}
use Rattle.std.proofs.lemmas.List.{length-map}
use Rattle.std.proofs.lemmas.List.Sorted.{length_permutation}
use Rattle.sqlite_value.specs.Order.{Row, column}
use Rattle.sqlite_value.specs.declared.keys.Collation.TheVariants.{Binary}
use Rattle.sqlite_value.specs.declared.value.Value.{Value}
use Rattle.sqlite_value.specs.declared.value.Value.TheVariants.{Null, Int, Text}
use Rattle.sqlite_trees.specs.Tree.{Trees}
use Rattle.sqlite_sql.specs.Aggregate.{count}
use Rattle.sqlite_sql.specs.Group.{Aggregate, Grouping, IsSummary, value_over}
use Rattle.sqlite_sql.specs.declared.aggregate.AggregateOp.TheVariants.{CountRows}
use Rattle.sqlite_sql.specs.Term.{Term, Env, col, lit, op2}
use Rattle.sqlite_sql.specs.Query.{Query, inner, end, Output, output, page, matches_as, IsAnswerAs}
use Rattle.sqlite_sql.specs.Program.{QueryOverflows, overlay}
use Rattle.sqlite_sql.specs.declared.ops.BinaryOp.TheVariants.{Compare}
use Rattle.sqlite_sql.specs.declared.ops.CompareOp.TheVariants.{Eq, Lt}
use Rattle.sqlite.specs.Effect.{Database, Reads}
use Rattle.sqlite.specs.Listing.{understood}
use Rattle.sqlite.proofs.Callers.{one_permutation}
use Rattle.sqlite_resolve.specs.Compile.{first}
use Rattle.sqlite_tied.specs.Compute.{everything}
use Rattle.reg_core.specs.Records.{Records}
use Rattle.reg_core.specs.declared.command.Counts.{Counts}
use Rattle.reg_store_tables.specs.Schema.{register_schema}
use Rattle.reg_store_tables.specs.Rows.{number, counted_rows}
use Rattle.reg_store_tables.specs.DerivedRows.{Letter, good, revoked, expired, is_good_letter, ends_before, letter_text, Standing, DerivedRows, stored_standing, stored_counts}
use Rattle.reg_store_tables.specs.Shows.{AreRecordsAndDerived}
use Rattle.reg_store_tables.specs.ReadStatements.{command_of}
use Rattle.reg_store_tables.specs.ShownRows.{shown_counts}
use Rattle.reg_store_tables.specs.declared.sql.TheConstants.{COUNTS, ENDED_BEFORE}
use Rattle.reg_store_tables.proofs.Compares.{and_true, compares, lt_number, eq_text}
use Rattle.reg_store_tables.proofs.Queries.{selects, no_limit, as_command, passes, picked, kept_behind, all_of, Given, keyed_given}
use Rattle.reg_store_tables.proofs.Selecting.{select_never}
use Rattle.reg_store_tables.proofs.FailingLemmas.{IsSelect, asked_of, select}

-- ---- how many rows pass

abbrev count_rows : Aggregate
count_rows = record { op = CountRows; distinct = false; collation = Binary; argument = lit Null }

abbrev in_one : Grouping
in_one = record { keys = []; collations = []; aggregates = count_rows ∷ []; having = [] }

abbrev pub counts_of : ℕ → List Term → Query
counts_of tree terms = record {
  from = inner tree end;
  filter = terms;
  group = Some in_one;
  project = col 1 0 ∷ [];
  distinct = false;
  collations = [];
  order = [];
  limit = no_limit;
  offset = lit (Int (pos 0));
}

one_value : (values : Row) (n : ℕ) → AllZip (λ (a : Aggregate) (v : Value). Some (count n) ≡ Some v) (count_rows ∷ []) values → values ≡ count n ∷ []
one_value [] n h = absurd h
one_value (v ∷ []) n h = let e = h.0 in cc
one_value (v ∷ w ∷ more) n h = absurd h.1

one_summary : (order : List Env) (rows : List Row) → AllZip (IsSummary in_one) (order ∷ []) rows → (row : Row) × (rows ≡ row ∷ []) × IsSummary in_one order row
one_summary order [] h = absurd h
one_summary order (row ∷ []) h = (row, refl, h.0)
one_summary order (row ∷ other ∷ more) h = absurd h.1

abbrev staged_by : Row → List Row → List Env
staged_by params rows = filter (λ (env : Env). true) (map (λ (r : Row). params ∷ r ∷ []) rows)

pub counted : (tree : ℕ) (terms : List Term) (names : List (List ℕ)) (db : Database) (params : Row) (rows : List Row) → overlay db.trees [] tree ≡ db.trees tree → Reads (as_command (counts_of tree terms) names) db params rows
    → rows ≡ (count (length (filter (passes terms params) (db.trees tree))) ∷ []) ∷ []
counted tree terms names db params rows plain reads =
    let q = counts_of tree terms in
    let a : IsAnswerAs Null q (overlay db.trees []) params rows = reads.answer Null in
    let order = a.grouped.grouping.0 in
    let found : matches_as Null (overlay db.trees []) terms (inner tree end) (params ∷ []) ≡ map (λ (r : Row). params ∷ r ∷ []) (filter (passes terms params) (db.trees tree)) =
    picked (passes terms params) (λ (r : Row). params ∷ r ∷ []) (overlay db.trees [] tree) ∙ ap (λ l. map (λ (r : Row). params ∷ r ∷ []) (filter (passes terms params) l)) plain in
    let as_many : length order ≡ length (matches_as Null (overlay db.trees []) terms (inner tree end) (params ∷ [])) = length_permutation (matches_as Null (overlay db.trees []) terms (inner tree end) (params ∷ [])) order a.grouped.grouping.1 in
    let mapped : length (map (λ (r : Row). params ∷ r ∷ []) (filter (passes terms params) (db.trees tree))) ≡ length (filter (passes terms params) (db.trees tree)) = rw length-map refl in
    let size : length order ≡ length (filter (passes terms params) (db.trees tree)) = as_many ∙ ap length found ∙ mapped in
    let one = one_summary order a.grouped.rows (subst (λ g. AllZip (IsSummary in_one) g a.grouped.rows) a.grouped.grouping.2 a.grouped.summaries) in
    let values : one.2.0 ≡ count (length (map (λ (env : Env). Null) order)) ∷ [] = one_value one.2.0 (length (map (λ (env : Env). Null) order)) one.2.1 in
    let order_size : length (map (λ (env : Env). Null) order) ≡ length order = rw length-map refl in
    let row : one.0 ≡ count (length (filter (passes terms params) (db.trees tree))) ∷ [] = one.2.2 ∙ values ∙ ap (λ n. count n ∷ []) (order_size ∙ size) in
    let staged : a.staged ≡ (params ∷ one.0 ∷ []) ∷ [] = a.grouped.having ∙ ap (staged_by params) one.1 in
    let kept : a.kept ≡ ([], column one.0 0 ∷ []) ∷ [] = a.distinct ∙ ap (map (output q)) staged in
    let ordered : a.ordered ≡ ([], column one.0 0 ∷ []) ∷ [] = one_permutation ([], column one.0 0 ∷ []) a.ordered (subst (λ k. IsPermutation k a.ordered) kept a.same) in
    a.shown ∙ ap (map (λ (o : Output). o.1)) ordered ∙ ap (λ (r : Row). (column r 0 ∷ []) ∷ []) row

-- ---- the good certificates that end before a moment

abbrev ended_terms : List Term
ended_terms = op2 (Compare Eq Binary) (col 1 3) (lit (Text (codes "G"))) ∷ op2 (Compare Lt Binary) (col 1 2) (col 0 0) ∷ []

-- a count of rows is always a number
count_known : (group : List Env) (a : Aggregate) → count_rows ≡ a → value_over group a ≡ None → ⊥
count_known group a is none = let no : Some (count (length (map (λ (env : Env). Null) group))) ≡ None = subst (λ (x : Aggregate). value_over group x ≡ None) (sym is) none in absurd (cc)

one_aggregate : (k : ℕ) (a : Aggregate) → k < 1 → slice_index_or (count_rows ∷ []) k a ≡ a → count_rows ≡ a
one_aggregate zero a within is = is
one_aggregate (suc k) a within is = absurd (omega (arith, within))

pub never_overflows : (tree : ℕ) (terms : List Term) (params : Row) (db : Trees) → QueryOverflows (counts_of tree terms) db params → ⊥
never_overflows tree terms params db (inl overflows) =
    let over = overflows.2 in
    let any = over.4 in
    count_known over.1 any.1 (one_aggregate any.0 any.1 any.2 any.3) any.4
never_overflows tree terms params db (inr any) = any.4

pub ended_text : IsSelect ENDED_BEFORE.now (counts_of 12 ended_terms) (codes "count(*)" ∷ []) (λ (now : ℕ). number now ∷ [])
unfolding understood everything register_schema first
ended_text = record {
  means = refl;
  reading = record { plain = (refl, refl); unlisted = refl; never = select_never ENDED_BEFORE.now _ _ refl refl refl };
  asked = λ now. asked_of ENDED_BEFORE.now (counts_of 12 ended_terms) (codes "count(*)" ∷ []) (number now ∷ []) (never_overflows 12 ended_terms (number now ∷ [])) (omega arith, refl) refl refl;
}

pub is_g : (letter : Letter) → bytes_eq (letter_text letter) (codes "G") ≡ is_good_letter letter
is_g good = refl
is_g revoked = refl
is_g expired = refl

ended_test : (row : Standing) (now : ℕ) → (compares Eq (Text (letter_text row.letter)) (Text (codes "G")) && (compares Lt (number row.not_after) (number now) && true)) ≡ ends_before now row
ended_test row now =
    let first = eq_text (letter_text row.letter) (codes "G") ∙ is_g row.letter in
    let second = and_true (compares Lt (number row.not_after) (number now)) ∙ lt_number row.not_after now in
    λ i. first i && second i

pub at_most_all : {A : Type 0} (p : A → Bool) (xs : List A) → length (filter p xs) ≤ length xs
at_most_all p [] = omega arith
at_most_all p (x ∷ xs) = let rest = at_most_all p xs in elim (cases_Bool (p x)) [
  | inl passed ↦ rw passed (omega arith)
  | inr failed ↦ rw failed (omega arith)
]

pub min_is : (n most : ℕ) → n ≤ most → min n most ≡ n
min_is n most le = grind (arith, nat_tests)

abbrev blank : Row → Output
blank row = ([], [])

abbrev blank_standing : Standing → Output
blank_standing row = ([], [])

-- a text that counts the letters that pass a test
module _ (text : List ℕ) (terms : List Term) (params : Row) (keep : Standing → Bool) (tests : (id : ℕ) (row : Standing) → passes terms params (number id ∷ stored_standing row) ≡ keep row)
    (means : command_of (understood register_schema text) ≡ as_command (counts_of 12 terms) (codes "count(*)" ∷ [])) (db : Database) (records : Records) (kept : DerivedRows) (both : AreRecordsAndDerived db records kept) (rows : List Row)
    (reads : Reads (command_of (understood register_schema text)) db params rows) where
  pub letters_counted : length kept.letters ≤ 1000000 → rows ≡ (number (length (filter keep kept.letters)) ∷ []) ∷ []
  letters_counted few =
      let shown = counted 12 terms (codes "count(*)" ∷ []) db params rows refl (subst (λ c. Reads c db params rows) means reads) in
      let same = kept_behind (λ _. Unit {0}) stored_standing (passes terms params) blank keep blank_standing (λ id row any. tests id row) (λ id row. refl) 1 kept.letters (all_of (λ _. Unit {0}) (λ _. tt) kept.letters) in
      let left : length (map blank (filter (passes terms params) (counted_rows (map stored_standing kept.letters)))) ≡ length (filter (passes terms params) (counted_rows (map stored_standing kept.letters))) = rw length-map refl in
      let right : length (map blank_standing (filter keep kept.letters)) ≡ length (filter keep kept.letters) = rw length-map refl in
      let size : length (filter (passes terms params) (db.trees 12)) ≡ length (filter keep kept.letters) =
      ap (λ t. length (filter (passes terms params) t)) both.kept.letters ∙ sym left ∙ ap length same ∙ right in
      let most = at_most_all keep kept.letters in
      shown ∙ ap (λ n. (count n ∷ []) ∷ []) size ∙ ap (λ n. (number n ∷ []) ∷ []) (min_is (length (filter keep kept.letters)) 9223372036854775807 (omega arith))

pub ended_shown : (db : Database) (records : Records) (kept : DerivedRows) → AreRecordsAndDerived db records kept → (now : ℕ) (rows : List Row) → Reads (command_of (understood register_schema ENDED_BEFORE.now)) db (number now ∷ []) rows
    → length kept.letters ≤ 1000000 → rows ≡ (number (length (filter (ends_before now) kept.letters)) ∷ []) ∷ []
ended_shown db records kept both now rows =
    letters_counted ENDED_BEFORE.now ended_terms (number now ∷ []) (ends_before now) (λ id row. ended_test row now) ended_text.means db records kept both rows

-- ---- the kept counts

pub counts_text : IsSelect COUNTS.now (selects 14 [] (col 1 2 ∷ col 1 3 ∷ col 1 4 ∷ []) [] no_limit) (codes "n_good" ∷ codes "n_revoked" ∷ codes "n_expired" ∷ []) (λ (_ : Unit {0}). [])
unfolding understood everything register_schema first
counts_text =
    select COUNTS.now 14 [] (col 1 2 ∷ col 1 3 ∷ col 1 4 ∷ []) [] no_limit (codes "n_good" ∷ codes "n_revoked" ∷ codes "n_expired" ∷ []) (λ (_ : Unit {0}). []) refl (refl, refl) refl (select_never COUNTS.now _ _ refl refl refl) (λ it. (omega arith, refl)) (λ it. refl)

abbrev counts_out : Counts → Output
counts_out counts = ([], shown_counts counts)

module _ (db : Database) (records : Records) (kept : DerivedRows) (both : AreRecordsAndDerived db records kept) (rows : List Row) (reads : Reads (command_of (understood register_schema COUNTS.now)) db [] rows) where
  counts_given : Given (λ _. true) counts_out (kept.counts ∷ []) (selects 14 [] (col 1 2 ∷ col 1 3 ∷ col 1 4 ∷ []) [] no_limit) [] rows
  counts_given =
      keyed_given (λ _. Unit {0}) stored_counts (λ _. true) counts_out (kept.counts ∷ []) (tt, tt) 14 [] (col 1 2 ∷ col 1 3 ∷ col 1 4 ∷ []) [] no_limit [] COUNTS.now (codes "n_good" ∷ codes "n_revoked" ∷ codes "n_expired" ∷ []) counts_text.means db refl rows reads
      both.kept.counts (λ counts any. refl) (λ counts. refl)

  -- the one row is there
  pub counts_rows : rows ≡ shown_counts kept.counts ∷ []
  counts_rows = counts_given.shown ∙ ap (λ to. page (selects 14 [] (col 1 2 ∷ col 1 3 ∷ col 1 4 ∷ []) [] no_limit) [] (map (λ a. (counts_out a).1) to)) (one_permutation kept.counts counts_given.to counts_given.same)
