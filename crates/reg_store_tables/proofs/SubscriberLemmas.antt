-- What the look-ups of subscribers show.
use Rattle.std.proofs.Common.{◌≡◌, ◌≤◌, ℕ, true, List, [], ◌∷◌, length, codes, refl, ◌∙◌, arith}
use Rattle.std.specs.Prelude.{◌==◌, bytes_eq}
use Rattle.std.specs.List.{AllByRecursion}
use Rattle.std.proofs.lemmas.Slice.Eq.{bytes_eq-Decides}
use Rattle.sqlite_value.specs.Order.{Row}
use Rattle.sqlite_value.specs.declared.value.Value.TheVariants.{Text}
use Rattle.sqlite_sql.specs.Term.{Term, col}
use Rattle.sqlite_sql.specs.Query.{Output}
use Rattle.sqlite.specs.Effect.{Database, Reads}
use Rattle.sqlite.specs.Listing.{understood}
use Rattle.sqlite_resolve.specs.Compile.{first}
use Rattle.sqlite_tied.specs.Compute.{everything}
use Rattle.reg_core.specs.Records.{Records, subscriber_in, subscriber_named}
use Rattle.reg_core.specs.Sound.{KeysDiffer}
use Rattle.reg_core.specs.declared.rows.SubscriberRow.{SubscriberRow}
use Rattle.reg_store_tables.specs.Schema.{register_schema}
use Rattle.reg_store_tables.specs.Rows.{number, stored_subscriber}
use Rattle.reg_store_tables.specs.Shows.{IsShownBy}
use Rattle.reg_store_tables.specs.ReadStatements.{command_of, shown_subscriber}
use Rattle.reg_store_tables.specs.ShownRows.{IsRowOf}
use Rattle.reg_store_tables.specs.declared.sql.TheConstants.{SUBSCRIBER_BY_ID, SUBSCRIBER_BY_NAME}
use Rattle.reg_store_tables.proofs.Compares.{and_true, eq_number, eq_text}
use Rattle.reg_store_tables.proofs.Queries.{column_is, selects, no_limit, Given, keyed_given, all_of, row_of}
use Rattle.reg_store_tables.proofs.Selecting.{select_never}
use Rattle.reg_store_tables.proofs.FailingLemmas.{IsSelect, select}
use Rattle.reg_store_tables.proofs.Few.{at_most_one, given_few, numbers_differ, one_number}

abbrev columns : List Term
columns = col 1 0 ∷ col 1 2 ∷ []

abbrev names : List (List ℕ)
names = codes "id" ∷ codes "name" ∷ []

abbrev out : SubscriberRow → Output
out row = ([], shown_subscriber row)

pub by_id_text : IsSelect SUBSCRIBER_BY_ID.now (selects 1 (column_is 0) columns [] no_limit) names (λ (id : ℕ). number id ∷ [])
unfolding understood everything register_schema first
by_id_text =
    select SUBSCRIBER_BY_ID.now 1 (column_is 0) columns [] no_limit names (λ (id : ℕ). number id ∷ []) refl (refl, refl) refl (select_never SUBSCRIBER_BY_ID.now _ _ refl refl refl) (λ it. (omega arith, refl)) (λ it. refl)

module _ (db : Database) (records : Records) (shown : IsShownBy db records) (id : ℕ) (rows : List Row) (reads : Reads (command_of (understood register_schema SUBSCRIBER_BY_ID.now)) db (number id ∷ []) rows) where
  by_id_given : Given (λ row. row.id == id) out records.subscribers (selects 1 (column_is 0) columns [] no_limit) (number id ∷ []) rows
  by_id_given =
      keyed_given (λ _. Unit {0}) stored_subscriber (λ row. row.id == id) out records.subscribers (all_of (λ _. Unit {0}) (λ _. tt) records.subscribers) 1 (column_is 0) columns [] no_limit (number id ∷ []) SUBSCRIBER_BY_ID.now names by_id_text.means db refl rows reads
      shown.rows.subscribers (λ row read_row. and_true _ ∙ eq_number row.id id) (λ row. refl)

  pub by_id_few : length rows ≤ 1
  by_id_few = given_few (λ row. row.id == id) out records.subscribers 1 (column_is 0) columns [] (number id ∷ []) rows by_id_given
      (one_number (λ (row : SubscriberRow). row.id) id records.subscribers (numbers_differ (λ (row : SubscriberRow). row.id) 1 records.subscribers shown.rows.subscribers_numbered))

  pub by_id_row : (P : SubscriberRow → Type 0) → AllByRecursion P records.subscribers → IsRowOf P shown_subscriber rows (subscriber_in records.subscribers id)
  by_id_row P all = row_of (λ row. row.id == id) out records.subscribers 1 (column_is 0) columns [] (number id ∷ []) rows by_id_given P all

pub by_name_text : IsSelect SUBSCRIBER_BY_NAME.now (selects 1 (column_is 2) columns [] no_limit) names (λ (name : List ℕ). Text name ∷ [])
unfolding understood everything register_schema first
by_name_text =
    select SUBSCRIBER_BY_NAME.now 1 (column_is 2) columns [] no_limit names (λ (name : List ℕ). Text name ∷ []) refl (refl, refl) refl (select_never SUBSCRIBER_BY_NAME.now _ _ refl refl refl) (λ it. (omega arith, refl)) (λ it. refl)

same_name : (one other : List ℕ) → bytes_eq one other ≡ true → one ≡ other
same_name one other same = (bytes_eq-Decides one other).0 same

module _ (db : Database) (records : Records) (shown : IsShownBy db records) (name : List ℕ) (rows : List Row) (reads : Reads (command_of (understood register_schema SUBSCRIBER_BY_NAME.now)) db (Text name ∷ []) rows) where
  by_name_given : Given (λ row. bytes_eq row.name name) out records.subscribers (selects 1 (column_is 2) columns [] no_limit) (Text name ∷ []) rows
  by_name_given =
      keyed_given (λ _. Unit {0}) stored_subscriber (λ row. bytes_eq row.name name) out records.subscribers (all_of (λ _. Unit {0}) (λ _. tt) records.subscribers) 1 (column_is 2) columns [] no_limit (Text name ∷ []) SUBSCRIBER_BY_NAME.now names by_name_text.means db refl rows reads
      shown.rows.subscribers (λ row read_row. and_true _ ∙ eq_text row.name name) (λ row. refl)

  pub by_name_few : KeysDiffer (λ (row : SubscriberRow). row.name) records.subscribers → length rows ≤ 1
  by_name_few differ = given_few (λ row. bytes_eq row.name name) out records.subscribers 1 (column_is 2) columns [] (Text name ∷ []) rows by_name_given
      (at_most_one (λ (row : SubscriberRow). row.name) name (λ (row : SubscriberRow). bytes_eq row.name name) (λ row same. same_name row.name name same) records.subscribers differ)

  pub by_name_row : (P : SubscriberRow → Type 0) → AllByRecursion P records.subscribers → IsRowOf P shown_subscriber rows (subscriber_named records.subscribers name)
  by_name_row P all = row_of (λ row. bytes_eq row.name name) out records.subscribers 1 (column_is 2) columns [] (Text name ∷ []) rows by_name_given P all
