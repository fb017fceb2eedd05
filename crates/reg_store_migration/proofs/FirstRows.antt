-- What the first rows make of a register's tables.
use Rattle.std.proofs.Common.{◌≡◌, ◌==◌, ℕ, pos, true, List, [], ◌∷◌, map, refl, sym, ap, subst, ◌∙◌, arith}
use Rattle.std.specs.List.{AllByRecursion, list_any}
use Rattle.sqlite_value.specs.declared.value.Value.TheVariants.{Null, Int}
use Rattle.sqlite_value.specs.Order.{Row}
use Rattle.sqlite_trees.specs.Tree.{Trees, IsTable, put_row}
use Rattle.sqlite_sql.specs.Term.{Term, lit, col, eval_all}
use Rattle.sqlite_rules.specs.declared.error.Rowids.TheVariants.{Chosen}
use Rattle.sqlite_rules.specs.Edit.{with_rowid}
use Rattle.sqlite_rules.specs.Cast.{cast_row}
use Rattle.sqlite_tied.specs.Compute.{everything}
use Rattle.sqlite.specs.Effect.{Database}
use Rattle.sqlite.specs.Listing.{understood}
use Rattle.sqlite.specs.State.{State}
use Rattle.reg_core.specs.Issuer.{Issuer}
use Rattle.reg_core.specs.Policy.{Terms}
use Rattle.reg_core.specs.Records.{Records}
use Rattle.reg_core.specs.Schedule.{greatest_of, one_step}
use Rattle.reg_store_tables.specs.DerivedRows.{stored_counts, office_days, turned}
use Rattle.reg_store_tables.specs.Rows.{number, stored_office}
use Rattle.reg_store_tables.specs.Schema.{register_schema, office, kept, table_trees}
use Rattle.reg_store_tables.specs.Shows.{AreRows, AreDerivedRows, AreRecordsAndDerived}
use Rattle.reg_store_tables.proofs.PublicLaws.{passes, Turns, made, cast_int, cast_null, updates, inserts, IsWriting, at_known, turns_rows, puts_row, IsKeyed}
use Rattle.reg_store_tables.specs.Stays.{Ran}
use Rattle.reg_store_tables.specs.Staged.{IsStaged}
use Rattle.reg_store_migration.specs.Older.{stored_older, IsShownByOlder}
use Rattle.reg_store_migration.specs.Refilled.{no_derived_rows, no_counts}
use Rattle.reg_store_migration.specs.NumberedRows.{HasRows, with_rows, records_alone}
use Rattle.reg_store_migration.specs.Rebuilds.{PutsCounts, SetsVersion}
use Rattle.reg_store_migration.specs.declared.version.OlderVersion.{OlderVersion}
use Rattle.reg_store_migration.specs.declared.sql.TheConstants.{SET_VERSION, PUT_COUNTS}
use Rattle.reg_store_migration.proofs.Emptying.{with_other}

abbrev version_columns : List Term
version_columns = lit Null ∷ lit (Int (pos 3)) ∷ col 1 3 ∷ col 1 4 ∷ col 1 5 ∷ col 1 6 ∷ col 1 7 ∷ col 1 8 ∷ col 1 9 ∷ []

abbrev counts_terms : List Term
counts_terms = lit (Int (pos 1)) ∷ lit Null ∷ lit (Int (pos 0)) ∷ lit (Int (pos 0)) ∷ lit (Int (pos 0)) ∷ []

pub set_version_means : IsWriting SET_VERSION.now (updates 0 0 [] version_columns)
unfolding understood everything register_schema
set_version_means = record { plain = (refl, refl); is = refl }

pub put_counts_means : IsWriting PUT_COUNTS.now (inserts 8 counts_terms 5)
unfolding understood everything register_schema
put_counts_means = record { plain = (refl, refl); is = refl }

-- the rows of one of a register's tables
pub rows_at : (db : Database) (rows : Trees) → HasRows register_schema rows db → (n : ℕ) → list_any (λ t. t == n) table_trees ≡ true → db.trees n ≡ rows n
rows_at db rows has = at_known (λ n. db.trees n ≡ rows n) has.rows

pub sets_version : (old new : State) (count : ℕ) → Ran SET_VERSION.now [] old new count → SetsVersion old.now new.now
unfolding register_schema
sets_version old new count ran rows version days issuer policy last first was =
    let had : old.now.trees 0 ≡ stored_older version days issuer policy last ∷ [] = was.rows.0 ∙ first in
    let turns : Turns register_schema office (passes [] []) (made office version_columns []) old.now.trees new.now count =
    turns_rows SET_VERSION.now [] old new count ran was.schema 0 office refl [] version_columns set_version_means refl (subst IsTable (sym had) (tt, tt)) (subst (AllByRecursion IsKeyed) (sym had) (refl, tt)) in
    let is : new.now.trees 0 ≡ stored_office (pos days) issuer policy last ∷ [] = turns.rows ∙ ap (map (turned (passes [] []) (made office version_columns []))) had ∙ simp (cast_int, cast_null) in
    record { schema = turns.keeps_schema; rows = with_other register_schema.tables 0 _ rows old.now.trees new.now.trees is turns.others was.rows }

pub puts_counts : (old new : State) (count : ℕ) → Ran PUT_COUNTS.now [] old new count → PutsCounts old.now new.now
unfolding register_schema
puts_counts old new count ran rows none was =
    let had : old.now.trees 14 ≡ [] = rows_at old.now rows was 14 refl ∙ none in
    let puts = puts_row PUT_COUNTS.now [] old new count ran was.schema 8 kept refl counts_terms 5 put_counts_means refl refl refl in
    let row : Row = stored_counts no_counts in
    let is : new.now.trees 14 ≡ row ∷ [] =
    puts.rows ∙ ap (λ r. put_row (with_rowid Chosen (old.now.trees 14) r) (old.now.trees 14)) (let made : cast_row kept (eval_all counts_terms ([] ∷ [])) ≡ row = simp (cast_int, cast_null) in made)
    ∙ ap (λ t. put_row (with_rowid Chosen t row) t) had in
    record { schema = puts.keeps_schema; rows = with_other register_schema.tables 14 _ rows old.now.trees new.now.trees is puts.others was.rows }

-- ---- from the older tables to the program's

-- the rows once the version is set and the counts' row is put in
abbrev pub first_rows : Trees → ℕ → Issuer → Terms → ℕ → Trees
first_rows rows days issuer policy last = with_rows 14 (stored_counts no_counts ∷ []) (with_rows 0 (stored_office (pos days) issuer policy last ∷ []) (records_alone rows))

pub staged_first : (rows : Trees) (days : ℕ) (issuer : Issuer) (policy : Terms) (last : ℕ) (db : Database) → HasRows register_schema (first_rows rows days issuer policy last) db
    → IsStaged (first_rows rows days issuer policy last) [] db
staged_first rows days issuer policy last db has = record {
  schema = has.schema;
  others = λ n known apart. rows_at db (first_rows rows days issuer policy last) has n known;
  rows = rows_at db (first_rows rows days issuer policy last) has 17 refl;
}

greatest_one : (days : ℕ) → days ≡ greatest_of (one_step days)
greatest_one days = omega arith

-- the records are shown, and nothing is kept beside them
pub begun_both : (version : OlderVersion) (days : ℕ) (db after : Database) (records : Records) (older : IsShownByOlder version db records) → records.policy.schedule ≡ one_step days
    → IsStaged (first_rows db.trees older.days records.issuer records.policy records.last) ((0, days) ∷ []) after → AreRecordsAndDerived after records (no_derived_rows records.policy.schedule)
begun_both version days db after records older one staged =
    let rows : AreRows after.trees records = record {
      days = pos older.days;
      office = staged.others 0 refl refl;
      subscribers = staged.others 1 refl refl ∙ older.rows.subscribers;
      orders = staged.others 3 refl refl ∙ older.rows.orders;
      certificates = staged.others 4 refl refl ∙ older.rows.certificates;
      requests = staged.others 7 refl refl ∙ older.rows.requests;
      revocations = staged.others 8 refl refl ∙ older.rows.revocations;
      crls = staged.others 11 refl refl ∙ older.rows.crls;
      schedule = staged.rows ∙ sym (ap (map Rattle.reg_store_tables.specs.Rows.stored_step) one);
      policy = older.policy;
      subscribers_numbered = older.rows.subscribers_numbered;
      orders_numbered = older.rows.orders_numbered;
      requests_numbered = older.rows.requests_numbered;
      crls_numbered = older.rows.crls_numbered;
      certificate_serials = older.rows.certificate_serials;
      request_serials = older.rows.request_serials;
      revocation_serials = older.rows.revocation_serials;
    } in
    let kept : AreDerivedRows after.trees (no_derived_rows records.policy.schedule) = record {
      days = ap office_days (staged.others 0 refl refl) ∙ ap number (greatest_one older.days ∙ ap greatest_of (sym older.schedule));
      letters = staged.others 12 refl refl;
      counts = staged.others 14 refl refl;
      listed = staged.others 15 refl refl;
      letter_serials = tt;
      listed_serials = tt;
    } in
    record { shown = record { schema = staged.schema; rows = rows }; kept = kept }
