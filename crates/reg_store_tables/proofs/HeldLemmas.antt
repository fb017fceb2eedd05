-- What the statements on the last rows show.
use Rattle.std.proofs.Common.{◌≡◌, ◌≤◌, ℕ, zero, suc, true, List, [], ◌∷◌, Option, None, Some, unwrap_or, map, length, codes, refl, ap, subst, ◌∙◌, arith}
use Rattle.sqlite_value.specs.Order.{Row}
use Rattle.sqlite_value.specs.declared.keys.Key.{Key}
use Rattle.sqlite_sql.specs.Term.{Term, col}
use Rattle.sqlite_sql.specs.Query.{Query}
use Rattle.sqlite_sql.specs.Program.{overlay}
use Rattle.sqlite.specs.Effect.{Database, Reads}
use Rattle.sqlite.specs.Listing.{understood}
use Rattle.sqlite_resolve.specs.Compile.{first}
use Rattle.sqlite_tied.specs.Compute.{everything}
use Rattle.reg_core.specs.Records.{Records}
use Rattle.reg_core.specs.Sound.{NumberedFrom}
use Rattle.reg_store_tables.specs.Schema.{register_schema}
use Rattle.reg_store_tables.specs.Rows.{number, stored_subscriber, stored_order, stored_certificate, stored_request, stored_crl}
use Rattle.reg_store_tables.specs.Shows.{IsShownBy}
use Rattle.reg_store_tables.specs.ShownRows.{IsRowOf, shown_number}
use Rattle.reg_store_tables.specs.Tables.{rows_of, text_of_last}
use Rattle.reg_store_tables.specs.ReadStatements.{command_of}
use Rattle.reg_store_tables.specs.declared.sizes.Table.{Table}
use Rattle.reg_store_tables.specs.declared.sizes.Table.TheVariants.{Subscribers, Orders, Certs, Requests, Crls}
use Rattle.reg_store_tables.specs.declared.sql.TheConstants.{LAST_SUBSCRIBER, LAST_ORDER, LAST_CERT, LAST_REQUEST, LAST_CRL}
use Rattle.reg_store_tables.proofs.Queries.{selects, shows, Given, keyed_given, all_of}
use Rattle.reg_store_tables.proofs.Selecting.{select_never}
use Rattle.reg_store_tables.proofs.Sorting.{descending_key}
use Rattle.reg_store_tables.proofs.Greatest.{one_row, numbered_from, greatest_none, greatest_one}
use Rattle.reg_store_tables.proofs.Rowids.{with_rowids, behind, rowids_are, rowids_numbered, length-with_rowids}
use Rattle.reg_store_tables.proofs.FailingLemmas.{IsSelect, select}
use Rattle.reg_store_tables.proofs.Few.{taken_few}

abbrev tree_of : Table → ℕ
tree_of Subscribers = 1
tree_of Orders = 3
tree_of Certs = 4
tree_of Requests = 7
tree_of Crls = 11

abbrev names_of : Table → List (List ℕ)
names_of Subscribers = codes "id" ∷ []
names_of Orders = codes "id" ∷ []
names_of Certs = codes "rowid" ∷ []
names_of Requests = codes "id" ∷ []
names_of Crls = codes "number" ∷ []

abbrev by_number : List (Term × Key)
by_number = (col 1 0, descending_key) ∷ []

abbrev last_query : ℕ → Query
last_query tree = selects tree [] (col 1 0 ∷ []) by_number one_row

pub last_text : (table : Table) → IsSelect (text_of_last table) (last_query (tree_of table)) (names_of table) (λ (_ : Unit {0}). [])
unfolding understood everything register_schema first
last_text Subscribers = select LAST_SUBSCRIBER.now 1 [] (col 1 0 ∷ []) by_number one_row (names_of Subscribers) (λ _. []) refl (refl, refl) refl (select_never LAST_SUBSCRIBER.now _ _ refl refl refl) (λ it. (omega arith, refl)) (λ it. refl)
last_text Orders = select LAST_ORDER.now 3 [] (col 1 0 ∷ []) by_number one_row (names_of Orders) (λ _. []) refl (refl, refl) refl (select_never LAST_ORDER.now _ _ refl refl refl) (λ it. (omega arith, refl)) (λ it. refl)
last_text Certs = select LAST_CERT.now 4 [] (col 1 0 ∷ []) by_number one_row (names_of Certs) (λ _. []) refl (refl, refl) refl (select_never LAST_CERT.now _ _ refl refl refl) (λ it. (omega arith, refl)) (λ it. refl)
last_text Requests = select LAST_REQUEST.now 7 [] (col 1 0 ∷ []) by_number one_row (names_of Requests) (λ _. []) refl (refl, refl) refl (select_never LAST_REQUEST.now _ _ refl refl refl) (λ it. (omega arith, refl)) (λ it. refl)
last_text Crls = select LAST_CRL.now 11 [] (col 1 0 ∷ []) by_number one_row (names_of Crls) (λ _. []) refl (refl, refl) refl (select_never LAST_CRL.now _ _ refl refl refl) (λ it. (omega arith, refl)) (λ it. refl)

-- the number of the last row, where there is one
abbrev pub last_of : ℕ → Option ℕ
last_of zero = None
last_of (suc n) = Some (suc n)

pub last_is : (n : ℕ) → unwrap_or (last_of n) 0 ≡ n
last_is zero = refl
last_is (suc n) = refl

none_last : (n : ℕ) → n ≡ 0 → None ≡ last_of n
none_last zero is = refl
none_last (suc n) is = absurd (omega arith)

some_last : (n : ℕ) → 1 ≤ n → Some n ≡ last_of n
some_last zero some = absurd (omega arith)
some_last (suc n) some = refl

module _ (P : ℕ → Type 0) (each : (n : ℕ) → P n) (db : Database) where
  -- of a table whose key is the number
  module _ {A : Type 0} (n : A → ℕ) (xs : List A) (numbered : NumberedFrom n 1 xs) (tree : ℕ) (rows : List Row)
      (g : Given (λ _. true) (λ a. (number (n a) ∷ [], shown_number (n a))) xs (last_query tree) [] rows) where
    last_shown : IsRowOf P shown_number rows (last_of (length xs)) × (length rows ≤ 1)
    last_shown = (
      record {
        none = λ none. none_last (length xs) (greatest_none n (λ a. shown_number (n a)) xs numbered tree (col 1 0 ∷ []) [] rows g none);
        one = λ row one.
            let it = greatest_one n (λ a. shown_number (n a)) xs numbered tree (col 1 0 ∷ []) [] rows g (λ a. 1 ≤ n a) (numbered_from n 1 xs numbered) row one in
            let some : 1 ≤ length xs = omega (arith, it.holds, it.counts) in
            record { it = length xs; first = some_last (length xs) some; holds = each (length xs); shown = it.shown ∙ ap shown_number it.counts };
      },
      taken_few rows (map (λ a. shown_number (n a)) g.to) g.shown,
    )

  module _ {A : Type 0} (stored : A → Row) (n : A → ℕ) (xs : List A) (numbered : NumberedFrom n 1 xs) (table : Table) (plain : overlay db.trees [] (tree_of table) ≡ db.trees (tree_of table)) (is : db.trees (tree_of table) ≡ map stored xs)
      (rows : List Row)
      (reads : Reads (command_of (understood register_schema (text_of_last table))) db [] rows) where
    last_keyed : ((x : A) → shows (last_query (tree_of table)) [] (stored x) ≡ (number (n x) ∷ [], shown_number (n x))) → IsRowOf P shown_number rows (last_of (length xs)) × (length rows ≤ 1)
    last_keyed views =
        last_shown n xs numbered (tree_of table) rows
        (keyed_given (λ _. Unit {0}) stored (λ _. true) (λ a. (number (n a) ∷ [], shown_number (n a))) xs (all_of (λ _. Unit {0}) (λ _. tt) xs) (tree_of table) [] (col 1 0 ∷ []) by_number one_row [] (text_of_last table) (names_of table) (last_text table).means db
        plain rows reads is (λ x any. refl) views)

  -- the last row of a table
  pub last_row : (records : Records) → IsShownBy db records → (table : Table) (rows : List Row) → Reads (command_of (understood register_schema (text_of_last table))) db [] rows
      → IsRowOf P shown_number rows (last_of (rows_of records table)) × (length rows ≤ 1)
  last_row records shown Subscribers rows reads = last_keyed stored_subscriber (λ row. row.id) records.subscribers shown.rows.subscribers_numbered Subscribers refl shown.rows.subscribers rows reads (λ row. refl)
  last_row records shown Orders rows reads = last_keyed stored_order (λ row. row.id) records.orders shown.rows.orders_numbered Orders refl shown.rows.orders rows reads (λ row. refl)
  last_row records shown Certs rows reads =
      subst (λ n. IsRowOf P shown_number rows (last_of n) × (length rows ≤ 1)) (length-with_rowids 1 records.certificates)
      (last_keyed (behind stored_certificate) (λ row. row.0) (with_rowids 1 records.certificates) (rowids_numbered 1 records.certificates) Certs refl (shown.rows.certificates ∙ rowids_are stored_certificate 1 records.certificates) rows reads (λ row. refl))
  last_row records shown Requests rows reads = last_keyed stored_request (λ row. row.id) records.requests shown.rows.requests_numbered Requests refl shown.rows.requests rows reads (λ row. refl)
  last_row records shown Crls rows reads = last_keyed stored_crl (λ crl. crl.number) records.crls shown.rows.crls_numbered Crls refl shown.rows.crls rows reads (λ crl. refl)
