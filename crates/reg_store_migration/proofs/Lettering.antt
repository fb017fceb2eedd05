-- The letters of all certificates, put in by one statement.
use Rattle.std.proofs.Common.{◌≡◌, ◌≢◌, ◌+◌, ◌==◌, ℕ, suc, min, pos, Bool, true, false, cond, List, [], ◌∷◌, ◌++◌, map, length, filter, find, flat_map, slice_get, unwrap_or, Option, None, Some, Ok, append_assoc, append-nil, refl, sym, ap, subst, ◌∙◌, inl, inr, arith}
use Rattle.std.specs.Prelude.{nat_lt}
use Rattle.std.specs.List.{AllByRecursion, list_all}
use Rattle.std.specs.List.Sorted.{IsPermutation, IsSorted}
use Rattle.std.proofs.lemmas.Bool.{cases_Bool}
use Rattle.std.proofs.lemmas.Bool.Decides.{nat_tests}
use Rattle.std.proofs.lemmas.List.{length-map}
use Rattle.std.proofs.lemmas.List.Elements.{All-from_recursion, recursion_from_All}
use Rattle.std.proofs.lemmas.List.Sorted.{All-permutation, IsPermutation-map}
use Rattle.sqlite_value.specs.declared.value.Value.TheVariants.{Null, Int, Text}
use Rattle.sqlite_value.specs.declared.keys.Collation.{Collation}
use Rattle.sqlite_value.specs.declared.keys.Collation.TheVariants.{Binary}
use Rattle.sqlite_value.specs.declared.keys.Key.{Key}
use Rattle.sqlite_value.specs.Order.{Row}
use Rattle.sqlite_trees.specs.Tree.{Trees, put_row}
use Rattle.sqlite_trees.proofs.ListLemmas.{map-map, pull_back}
use Rattle.sqlite_sql.specs.declared.ops.BinaryOp.TheVariants.{Compare}
use Rattle.sqlite_sql.specs.declared.ops.CompareOp.TheVariants.{Eq, Lt}
use Rattle.sqlite_sql.specs.Ops.{is_true}
use Rattle.sqlite_sql.specs.Term.{Term, Env, lit, col, op2, case, eval, holds}
use Rattle.sqlite_sql.specs.Program.{overlay}
use Rattle.sqlite_sql.specs.Query.{Query, Join, inner, counted, end, Output, output, output_cmp, page, matches_as, IsAnswerAs}
use Rattle.sqlite_schema.specs.declared.program.Program.{Program}
use Rattle.sqlite_schema.specs.declared.command.Command.{Command}
use Rattle.sqlite_schema.specs.declared.command.Command.TheVariants.{Insert}
use Rattle.sqlite_schema.specs.declared.command.Source.TheVariants as source
use Rattle.sqlite_schema.specs.declared.schema.Table.{Table}
use Rattle.sqlite_schema.specs.declared.schema.Schema.{Schema}
use Rattle.sqlite_rules.specs.declared.error.Rowids.TheVariants.{Chosen, Above}
use Rattle.sqlite_rules.specs.Action.{works}
use Rattle.sqlite_rules.specs.Cast.{cast_row}
use Rattle.sqlite_rules.specs.Edit.{with_rowid, numbered, put_all, edit_of, edited, taken_by, Applies}
use Rattle.sqlite_tied.specs.Compute.{everything}
use Rattle.sqlite.specs.Effect.{Database, Answers}
use Rattle.sqlite.specs.Does.{Tally, Does, OnRows}
use Rattle.sqlite.specs.Given.{IsPlain}
use Rattle.sqlite.specs.Rows.{Task, Written, stamped, count_of, rowids_for}
use Rattle.sqlite.specs.declared.run.Mode.{Mode}
use Rattle.sqlite.specs.Listing.{understood}
use Rattle.sqlite.specs.State.{State, mode_of, Writes as WritesState}
use Rattle.sqlite.proofs.Callers.{one_step, runs_as, statement_of}
use Rattle.reg_core.specs.Records.{Records, certificate_in, revocation_in}
use Rattle.reg_core.specs.Serial.{IsSerial}
use Rattle.reg_core.specs.Status.{status_by}
use Rattle.reg_core.specs.declared.command.Status.TheVariants.{Good, Expired}
use Rattle.reg_core.specs.declared.rows.CertRow.{CertRow}
use Rattle.reg_core.specs.declared.rows.RevocationRow.{RevocationRow}
use Rattle.reg_core_laws.proofs.PublicLaws.{all_map}
use Rattle.reg_store_tables.specs.DerivedRows.{Letter, good, revoked, expired, letter_text, Standing, stored_standing}
use Rattle.reg_store_tables.specs.Kept.{letter_of, standing_of}
use Rattle.reg_store_tables.specs.ReadStatements.{command_of}
use Rattle.reg_store_tables.specs.Rows.{number, serial_value, behind_rowids, counted_rows, stored_certificate, stored_revocation}
use Rattle.reg_store_tables.specs.Schema.{register_schema, standing}
use Rattle.reg_store_tables.specs.Shows.{IsShownBy}
use Rattle.reg_store_tables.proofs.PublicLaws.{and_true, compares, lt_number, eq_serial, Given, picked, kept_behind, no_limit, unmapped, all_kept, ascending_key, went, same_value, cast_int, cast_null, uncounted_is, found_each, counted_put, both_after, none_acts, spares}
use Rattle.reg_store_tables.specs.Stays.{Ran}
use Rattle.reg_store_migration.specs.Rebuilds.{FillsLetters}
use Rattle.reg_store_migration.specs.Refilled.{with_letters}
use Rattle.reg_store_migration.specs.declared.sql.TheConstants.{FILL_LETTERS}

-- ---- the rows of one table, whatever the collations

each_once : {X Y : Type 0} (f : X → List Y) (g : X → Y) → ((x : X) → f x ≡ g x ∷ []) → (xs : List X) → flat_map f xs ≡ map g xs
each_once f g once [] = refl
each_once f g once (x ∷ xs) = ap (λ l. l ++ flat_map f xs) (once x) ∙ ap (λ l. g x ∷ l) (each_once f g once xs)

module _ {A : Type 0} (out : A → Output) (xs : List A) (tree : ℕ) (more : Join) (project : List Term) (collations : List Collation) (order : List (Term × Key)) (params : Row) where
  abbrev query : Query
  query = record {
    from = inner tree more;
    filter = [];
    group = None;
    project = project;
    distinct = false;
    collations = collations;
    order = order;
    limit = no_limit;
    offset = lit (Int (pos 0));
  }

  -- where each row of the table is matched once
  given_by : (db : Database) (rows : List Row) (env_of : Row → Env) → ((r : Row) → matches_as Null (overlay db.trees []) [] more (params ∷ r ∷ []) ≡ env_of r ∷ []) → overlay db.trees [] tree ≡ db.trees tree
      → map (λ r. output query (env_of r)) (db.trees tree) ≡ map out xs → Answers db (record { lets = []; body = query }) params rows → Given (λ _. true) out xs query params rows
  given_by db rows env_of once plain shown_are answers =
      let a : IsAnswerAs Null query (overlay db.trees []) params rows = answers.answer Null in
      let found : a.staged ≡ map env_of (db.trees tree) = a.grouped ∙ each_once (λ r. matches_as Null (overlay db.trees []) [] more (params ∷ r ∷ [])) env_of once (overlay db.trees [] tree) ∙ ap (map env_of) plain in
      let kept : a.kept ≡ map out (filter (λ _. true) xs) =
      a.distinct ∙ ap (map (output query)) found ∙ map-map (output query) env_of (db.trees tree) ∙ shown_are ∙ ap (map out) (sym (all_kept xs)) in
      let back = pull_back out a.kept a.ordered a.same (filter (λ _. true) xs) kept in
      record {
        to = back.0;
        same = back.1;
        sorted = unmapped (output_cmp query) out back.0 (subst (IsSorted (output_cmp query)) back.2 a.sorted);
        shown = a.shown ∙ ap (λ l. page query params (map (λ (o : Output). o.1) l)) back.2 ∙ ap (page query params) (map-map (λ (o : Output). o.1) out back.0);
      }

-- ---- an INSERT of the rows that a query answers

abbrev fills : ℕ → Query → Command
fills place q = Insert place (source.Query (record { lets = []; body = q }))

-- the rows are put into a table one after another, and the other tables are as they were
record Fills (schema : Schema) (table : Table) (q : Query) (params : Row) (db : Trees) (after : Database) (count : ℕ) : Type 0 where
  given : List Row
  answers : Answers (record { schema = schema; trees = db }) (record { lets = []; body = q }) params given
  keeps_schema : after.schema ≡ schema
  rows : after.trees table.tree ≡ put_all (db table.tree) (numbered Chosen (db table.tree) (map (cast_row table) given))
  others : AllByRecursion (λ t. t.tree ≢ table.tree → after.trees t.tree ≡ db t.tree) schema.tables
  counted : count ≡ length given

length-numbered : (table news : List Row) → length (numbered Chosen table news) ≡ length news
length-numbered table [] = refl
length-numbered table (r ∷ news) = let rest = length-numbered (put_row (with_rowid Chosen table r) table) news in omega arith

module _ (limit : Option ℕ) (mode : Mode) (schema : Schema) (table : Table) (params : Row) (db : Trees) (place : ℕ) (q : Query) (tally : Tally) (after : Database) where
  abbrev task : Task
  task = record { limit = limit; keys = mode.keys; schema = schema; table = table; params = params }

  abbrev at_trees : Database
  at_trees = record { schema = schema; trees = db }

  abbrev program : Program
  program = record { lets = []; body = q }

  fills_in : OnRows task mode None (fills place q) db (Ok (tally, after)) → table.is_counted ≡ false → stamped table params ≡ params → ((olds news : List Row) → works schema mode.keys 0 table.tree olds news ≡ [])
      → Fills schema table q params db after (unwrap_or tally.rows 0)
  fills_in h uncounted unstamped none =
      let w = went h in
      let asked = went w.1 in
      let counted = went asked.2 in
      let wrote = went counted.2 in
      let end = went wrote.2 in
      let done = same_value (went (went w.2).2).2 in
      let rowids = rowids_for table (count_of counted.0) in
      let chosen : rowids ≡ Chosen = ap (λ b. cond b (Above (count_of counted.0)) Chosen) uncounted in
      let edit = edit_of db table [] rowids 0 asked.0 in
      let app : Applies schema mode.keys db edit wrote.0 = one_step schema mode.keys db wrote.0 edit (none (taken_by db edit) edit.news) wrote.1 in
      let next : end.0 ≡ wrote.0 = same_value (uncounted_is _ _ _ _ uncounted end.1) in
      let is : w.0 ≡ _ = same_value end.2 in
      let trees : after.trees ≡ wrote.0 = ap (λ (x : Tally × Database). x.1.trees) done ∙ ap (λ (x : Written). x.trees) is ∙ next in
      let put : edited db edit ≡ put_all (db table.tree) (numbered Chosen (db table.tree) (map (cast_row table) asked.0)) = ap (λ r. edited db (edit_of db table [] r 0 asked.0)) chosen in
      let count : unwrap_or tally.rows 0 ≡ length edit.news = ap (λ (x : Tally × Database). unwrap_or x.0.rows 0) done ∙ ap (λ (x : Written). length x.rows) is in
      let news : length edit.news ≡ length asked.0 = ap (λ r. length (edit_of db table [] r 0 asked.0).news) chosen ∙ length-numbered (db table.tree) (map (cast_row table) asked.0) ∙ length-map _ _ in
      record {
        given = asked.0;
        answers = subst (λ p. Answers at_trees program p asked.0) unstamped asked.1;
        keeps_schema = ap (λ (x : Tally × Database). x.1.schema) done;
        rows = ap (λ (t : Trees). t table.tree) trees ∙ app.rows ∙ put;
        others = subst (λ (x : Trees). AllByRecursion (λ t. t.tree ≢ table.tree → x t.tree ≡ db t.tree) schema.tables) (sym trees) app.tables;
        counted = count ∙ news;
      }

  does_fill : slice_get schema.tables place ≡ Some table → (text : List ℕ) → Does limit mode params at_trees text None (fills place q) (Ok (tally, after)) → table.is_counted ≡ false → stamped table params ≡ params
      → ((olds news : List Row) → works schema mode.keys 0 table.tree olds news ≡ []) → Fills schema table q params db after (unwrap_or tally.rows 0)
  does_fill there text h = fills_in (rw there at h)

-- ---- rows that are put behind others

counted_put_all : (xs cols : List Row) → put_all (counted_rows xs) (numbered Chosen (counted_rows xs) (map (λ c. Null ∷ c) cols)) ≡ counted_rows (xs ++ cols)
counted_put_all xs [] = ap counted_rows (sym (append-nil xs))
counted_put_all xs (c ∷ cols) =
    let put : put_row (with_rowid Chosen (counted_rows xs) (Null ∷ c)) (counted_rows xs) ≡ counted_rows (xs ++ c ∷ []) = counted_put c xs in
    ap (λ t. put_all t (numbered Chosen t (map (λ c. Null ∷ c) cols))) put ∙ counted_put_all (xs ++ c ∷ []) cols ∙ ap counted_rows (append_assoc xs (c ∷ []) cols)

-- ---- the statement

abbrev letter_lit : Letter → Term
letter_lit letter = lit (Text (letter_text letter))

-- the revocation of the certificate's serial number
abbrev its_revocation : List Term
its_revocation = op2 (Compare Eq Binary) (col 2 1) (col 1 1) ∷ []

abbrev has_revocation : Join
has_revocation = counted 1 (inner 8 end) its_revocation end

abbrev letter_term : Term
letter_term = case (col 2 0) (letter_lit revoked) (case (op2 (Compare Lt Binary) (col 1 4) (col 0 0)) (letter_lit expired) (letter_lit good))

abbrev letter_columns : List Term
letter_columns = lit Null ∷ col 1 1 ∷ col 1 4 ∷ letter_term ∷ []

abbrev by_serial : List (Term × Key)
by_serial = (col 1 1, ascending_key) ∷ []

abbrev binaries : List Collation
binaries = Binary ∷ Binary ∷ Binary ∷ Binary ∷ []

abbrev letter_out : Records → CertRow → Output
letter_out records row = (serial_value row.serial ∷ [], Null ∷ stored_standing (standing_of records row))

abbrev letters_query : Query
letters_query = record {
  from = inner 4 has_revocation;
  filter = [];
  group = None;
  project = letter_columns;
  distinct = false;
  collations = binaries;
  order = by_serial;
  limit = no_limit;
  offset = lit (Int (pos 0));
}

pub fill_means : command_of (understood register_schema FILL_LETTERS.now) ≡ fills 7 letters_query
unfolding understood everything register_schema
fill_means = refl

pub fill_plain : IsPlain (understood register_schema FILL_LETTERS.now)
unfolding understood everything register_schema
fill_plain = (refl, refl)

-- ---- the letter of one certificate

-- one where there is something, and else none
abbrev one_if_some : {A : Type 0} → Option A → ℕ
one_if_some None = 0
one_if_some (Some x) = 1

min_one : (n : ℕ) → min 1 (suc n) ≡ 1
min_one n = grind (arith, nat_tests)

found_count : {A : Type 0} (p : A → Bool) (xs : List A) → min 1 (length (filter p xs)) ≡ one_if_some (find p xs)
found_count p [] = refl
found_count p (x ∷ xs) = elim (cases_Bool (p x)) [
  | inl passed ↦ rw passed (min_one (length (filter p xs)))
  | inr failed ↦ rw failed (found_count p xs)
]

by_end : (row : CertRow) (last : ℕ) → cond (compares Lt (number row.not_after) (number last)) (Text (letter_text expired)) (Text (letter_text good)) ≡ Text (letter_text (letter_of (status_by last (Some row) None)))
by_end row last = ap (λ b. cond b (Text (letter_text expired)) (Text (letter_text good))) (lt_number row.not_after last) ∙ ended (nat_lt row.not_after last)
  where
    ended : (b : Bool) → cond b (Text (letter_text expired)) (Text (letter_text good)) ≡ Text (letter_text (letter_of (cond b Expired Good)))
    ended true = refl
    ended false = refl

letter_is : (row : CertRow) (last : ℕ) (revocation : Option RevocationRow)
    → cond (is_true (Int (pos (one_if_some revocation)))) (Text (letter_text revoked)) (cond (compares Lt (number row.not_after) (number last)) (Text (letter_text expired)) (Text (letter_text good)))
    ≡ Text (letter_text (letter_of (status_by last (Some row) revocation)))
letter_is row last (Some revocation) = refl
letter_is row last None = by_end row last

-- a certificate that is found by its serial number
abbrev IsFound : Records → CertRow → Type 0
IsFound records row = IsSerial row.serial × (certificate_in records.certificates row.serial ≡ Some row)

module _ (db : Database) (records : Records) (both : IsShownBy db records) where
  abbrev params : Row
  params = number records.last ∷ []

  abbrev revoked_count : Row → ℕ
  revoked_count r = length (matches_as Null (overlay db.trees []) its_revocation (inner 8 end) (params ∷ r ∷ []))

  abbrev env_of : Row → Env
  env_of r = params ∷ r ∷ (Int (pos (min 1 (revoked_count r))) ∷ []) ∷ []

  abbrev blank : Row → Output
  blank r = ([], [])

  abbrev blank_revocation : RevocationRow → Output
  blank_revocation r = ([], [])

  abbrev is_its : Row → Row → Bool
  is_its r q = list_all (holds (params ∷ r ∷ q ∷ [])) its_revocation

  revoked_once : (id : ℕ) (row : CertRow) → IsSerial row.serial → min 1 (revoked_count (number id ∷ stored_certificate row)) ≡ one_if_some (revocation_in records.revocations row.serial)
  revoked_once id row its =
      let r = number id ∷ stored_certificate row in
      let found : matches_as Null (overlay db.trees []) its_revocation (inner 8 end) (params ∷ r ∷ []) ≡ map (λ q. params ∷ r ∷ q ∷ []) (filter (is_its r) (db.trees 8)) = picked (is_its r) (λ q. params ∷ r ∷ q ∷ []) (db.trees 8) in
      let same : map blank (filter (is_its r) (db.trees 8)) ≡ map blank_revocation (filter (λ (v : RevocationRow). v.serial == row.serial) records.revocations) =
      ap (λ t. map blank (filter (is_its r) t)) both.rows.revocations
      ∙ kept_behind (λ (v : RevocationRow). IsSerial v.serial) stored_revocation (is_its r) blank (λ v. v.serial == row.serial) blank_revocation
      (λ n v good_serial. and_true (compares Eq (serial_value v.serial) (serial_value row.serial)) ∙ eq_serial v.serial row.serial good_serial its) (λ n v. refl) 1 records.revocations both.rows.revocation_serials in
      let left : length (map blank (filter (is_its r) (db.trees 8))) ≡ length (filter (is_its r) (db.trees 8)) = rw length-map refl in
      let right : length (map blank_revocation (filter (λ (v : RevocationRow). v.serial == row.serial) records.revocations)) ≡ length (filter (λ (v : RevocationRow). v.serial == row.serial) records.revocations) = rw length-map refl in
      let shown : length (map (λ q. params ∷ r ∷ q ∷ []) (filter (is_its r) (db.trees 8))) ≡ length (filter (is_its r) (db.trees 8)) = rw length-map refl in
      ap (min 1) (ap length found ∙ shown ∙ sym left ∙ ap length same ∙ right) ∙ found_count (λ (v : RevocationRow). v.serial == row.serial) records.revocations

  lettered_row : (id : ℕ) (row : CertRow) → IsFound records row → output letters_query (env_of (number id ∷ stored_certificate row)) ≡ letter_out records row
  lettered_row id row found =
      let letter : eval letter_term (env_of (number id ∷ stored_certificate row)) ≡ Text (letter_text (standing_of records row).letter) =
      ap (λ n. cond (is_true (Int (pos n))) (Text (letter_text revoked)) (cond (compares Lt (number row.not_after) (number records.last)) (Text (letter_text expired)) (Text (letter_text good)))) (revoked_once id row found.0)
      ∙ letter_is row records.last (revocation_in records.revocations row.serial)
      ∙ ap (λ known. Text (letter_text (letter_of (status_by records.last known (revocation_in records.revocations row.serial))))) (sym found.1) in
      λ i. (serial_value row.serial ∷ [], Null ∷ serial_value row.serial ∷ number row.not_after ∷ letter i ∷ [])

  lettered_rows : (from : ℕ) (rows : List CertRow) → AllByRecursion (IsFound records) rows → map (λ r. output letters_query (env_of r)) (behind_rowids from (map stored_certificate rows)) ≡ map (letter_out records) rows
  lettered_rows from [] all = refl
  lettered_rows from (row ∷ rows) all =
      let first = lettered_row from row all.0 in
      let rest = lettered_rows (from + 1) rows all.1 in
      λ i. first i ∷ rest i

cast_letters : (records : Records) (to : List CertRow) → map (cast_row standing) (map (λ (row : CertRow). (letter_out records row).1) to) ≡ map (λ c. Null ∷ c) (map stored_standing (map (standing_of records) to))
cast_letters records [] = refl
cast_letters records (row ∷ to) =
    let made : cast_row standing ((letter_out records row).1) ≡ Null ∷ stored_standing (standing_of records row) = simp (cast_int, cast_null) in
    let rest : map (cast_row standing) (map (λ (row : CertRow). (letter_out records row).1) to) ≡ map (λ c. Null ∷ c) (map stored_standing (map (standing_of records) to)) = cast_letters records to in
    λ i. made i ∷ rest i

both_all : {A : Type 0} (P Q : A → Type 0) (xs : List A) → AllByRecursion P xs → AllByRecursion Q xs → AllByRecursion (λ x. P x × Q x) xs
both_all P Q [] p q = tt
both_all P Q (x ∷ xs) p q = ((p.0, q.0), both_all P Q xs p.1 q.1)

pub fills_letters : (old new : State) (last count : ℕ) → Ran FILL_LETTERS.now (number last ∷ []) old new count → FillsLetters last old.now new.now
unfolding register_schema
fills_letters old new last count given_last records columns sound is none both =
    let ran = subst (λ n. Ran FILL_LETTERS.now (number n ∷ []) old new count) (sym is) given_last in
    let schema = both.shown.schema in
    let certificates = records.certificates in
    let text = FILL_LETTERS.now in
    let params : Row = number records.last ∷ [] in
    let w : WritesState old new None (fills 7 letters_query) (statement_of text (understood register_schema text)) params count = runs_as text params old new register_schema schema (fills 7 letters_query) fill_means fill_plain count ran.ran in
    let done = subst (λ s. Does old.step_limit (mode_of old) params (record old.now { schema = s }) (statement_of text (understood register_schema text)) None (fills 7 letters_query) (Ok (w.tally, new.now))) schema w.changed in
    let it : Fills register_schema standing letters_query params old.now.trees new.now (unwrap_or w.tally.rows 0) =
    does_fill old.step_limit (mode_of old) register_schema standing params old.now.trees 7 letters_query w.tally new.now refl (statement_of text (understood register_schema text)) done refl refl (none_acts 12) in
    let at_trees : Database = record { schema = register_schema; trees = old.now.trees } in
    let shown : IsShownBy at_trees records = record { schema = refl; rows = both.shown.rows } in
    let found : AllByRecursion (IsFound records) certificates =
    both_all (λ (row : CertRow). IsSerial row.serial) (λ (row : CertRow). certificate_in certificates row.serial ≡ Some row) certificates both.shown.rows.certificate_serials (found_each records sound) in
    let given : Given (λ (row : CertRow). true) (letter_out records) certificates letters_query params it.given =
    given_by (letter_out records) certificates 4 has_revocation letter_columns binaries by_serial params at_trees it.given (env_of at_trees records shown) (λ r. refl) refl
    (ap (map (λ r. output letters_query (env_of at_trees records shown r))) both.shown.rows.certificates ∙ lettered_rows at_trees records shown 1 certificates found)
    it.answers in
    let same : IsPermutation certificates given.to = subst (λ l. IsPermutation l given.to) (all_kept certificates) given.same in
    let letters = map (standing_of records) given.to in
    let empty : old.now.trees 12 ≡ counted_rows [] = both.kept.letters ∙ ap (λ l. counted_rows (map stored_standing l)) none in
    let rows : new.now.trees 12 ≡ counted_rows (map stored_standing letters) =
    it.rows ∙ ap (λ l. put_all (old.now.trees 12) (numbered Chosen (old.now.trees 12) (map (cast_row standing) l))) given.shown
    ∙ ap (λ l. put_all (old.now.trees 12) (numbered Chosen (old.now.trees 12) l)) (cast_letters records given.to)
    ∙ ap (λ t. put_all t (numbered Chosen t (map (λ c. Null ∷ c) (map stored_standing letters)))) empty ∙ counted_put_all [] (map stored_standing letters) in
    let serials : AllByRecursion (λ (row : CertRow). IsSerial row.serial) given.to =
    recursion_from_All (λ (row : CertRow). IsSerial row.serial) given.to
    (All-permutation (λ (row : CertRow). IsSerial row.serial) certificates given.to same (All-from_recursion (λ (row : CertRow). IsSerial row.serial) certificates both.shown.rows.certificate_serials)) in (
      letters,
      IsPermutation-map (standing_of records) certificates given.to same,
      both_after 12 old.now new.now records records columns (with_letters letters columns) both it.keeps_schema (spares 12 old.now.trees new.now.trees it.others)
          (refl, refl, refl, refl, refl, refl, refl, refl) both.shown.rows.policy ((rows, all_map (λ (row : Standing). IsSerial row.serial) (standing_of records) given.to serials), refl, refl, refl),
    )
