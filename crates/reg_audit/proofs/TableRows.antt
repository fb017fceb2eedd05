-- The rows of each table are those of records, from what was read of it.
use Rattle.std.proofs.Common.{◌≡◌, ◌&&◌, ℕ, true, false, not, Some, None, List, [], ◌∷◌, length, codes, refl, sym, ap, subst, ◌∙◌}
use Rattle.std.specs.List.{AllByRecursion}
use Rattle.sqlite_value.specs.Order.{Row, column}
use Rattle.sqlite_trees.specs.Tree.{IsTable}
use Rattle.sqlite_trees.specs.Objects.{number_in}
use Rattle.sqlite_schema.specs.declared.schema.Kind.TheVariants as kind
use Rattle.sqlite_sql.specs.Ops.{is_null}
use Rattle.sqlite_sql.specs.Program.{overlay}
use Rattle.sqlite_sql.specs.Term.{Term, col}
use Rattle.sqlite_tied.specs.Compute.{everything}
use Rattle.sqlite.specs.Effect.{Database, Reads}
use Rattle.sqlite.specs.Listing.{understood}
use Rattle.reg_core.specs.Records.{Crl}
use Rattle.reg_core.specs.Serial.{IsSerial}
use Rattle.reg_core.specs.declared.rows.CertRow.{CertRow}
use Rattle.reg_core.specs.declared.rows.CrlRow.{CrlRow}
use Rattle.reg_core.specs.declared.rows.OrderRow.{OrderRow}
use Rattle.reg_core.specs.declared.rows.RequestRow.{RequestRow}
use Rattle.reg_core.specs.declared.rows.RevocationRow.{RevocationRow}
use Rattle.reg_core.specs.declared.rows.SubscriberRow.{SubscriberRow}
use Rattle.reg_store_tables.specs.DerivedRows as kept
use Rattle.reg_store_tables.specs.DerivedRows.{stored_standing, stored_listed}
use Rattle.reg_store_tables.specs.ReadStatements.{command_of, shown_subscriber, shown_order, shown_certificate, shown_request, shown_revocation, shown_crl}
use Rattle.reg_store_tables.specs.Rows.{number, stored_subscriber, stored_order, stored_certificate, stored_request, stored_revocation, stored_crl}
use Rattle.reg_store_tables.specs.Schema.{register_schema, key_column, required, subscriber, orders, cert, request, revocation, crl, standing}
use Rattle.reg_store_tables.proofs.PublicLaws.{selects, as_command, no_limit}
use Rattle.reg_audit.specs.DerivedAsRead.{standing_in, listed_in}
use Rattle.reg_audit.specs.declared.derived_rows.Standing.{Standing}
use Rattle.reg_audit.specs.declared.derived_rows.Listed.{Listed}
use Rattle.reg_audit.specs.Cells.{CountedFrom, IsOfSomeRecord}
use Rattle.reg_audit.specs.Complete.{AreTables, SubscribersAgree, OrdersAgree, CertificatesAgree, RequestsAgree, RevocationsAgree, CrlsAgree, LettersAgree, ListingsAgree}
use Rattle.reg_audit.specs.ReadQueries.{IsReadFrom}
use Rattle.reg_audit.specs.ShownRows.{shown_standing, shown_listed}
use Rattle.reg_audit.specs.declared.sql.AuditQuery.TheVariants.{Subscribers, Orders, Certificates, Requests, Revocations, Crls, Standings, Listings, CertificateRowids, RevocationRowids, StandingRowids, ListingRowids}
use Rattle.reg_audit.specs.declared.sql.TheConstants.{SUBSCRIBERS, ORDERS, CERTIFICATES, REQUESTS, REVOCATIONS, CRLS, STANDINGS, LISTINGS, CERTIFICATE_ROWIDS, REVOCATION_ROWIDS, STANDING_ROWIDS, LISTING_ROWIDS}
use Rattle.reg_audit.proofs.Cells.{and_left, and_right, not_false, is_row, is_whole_row, key_null, blob_is, cell_typed, some_below}
use Rattle.reg_audit.proofs.Gathered.{unseen, counted_unseen, counted_numbers, counted_whole, keyed_whole, IsBehind, IsKeyed}
use Rattle.reg_audit.proofs.Obeyed.{Fits, subscribers_fit, orders_fit, certificates_fit, requests_fit, revocations_fit, crls_fit, letters_fit}
use Rattle.reg_audit.proofs.Showing.{subscribers_columns, subscribers_names, subscribers_mean, orders_columns, orders_names, orders_mean, certificates_columns, certificates_names, certificates_mean, requests_columns, requests_names, requests_mean, revocations_columns, revocations_names, revocations_mean, crls_columns, crls_names, crls_mean, letters_columns, letters_names, letters_mean, listed_columns, listed_names, listed_mean}
use Rattle.reg_audit.proofs.TreeOrder.{by_rowid, seen, reads_tree, numbers_of}

-- ---- what is known of the rows that were read is known of the tree's

module _ (tree : ℕ) (project : List Term) (text : List ℕ) (names : List (List ℕ)) (means : command_of (understood register_schema text) ≡ as_command (selects tree [] project by_rowid no_limit) names)
    (db : Database) (plain : overlay db.trees [] tree ≡ db.trees tree) (rows : List Row) (reads : Reads (command_of (understood register_schema text)) db [] rows) (table : IsTable (db.trees tree)) where
  pub all_seen : (P : Row → Type 0) → AllByRecursion P rows → CountedFrom 1 (db.trees tree) → AllByRecursion (λ row. P (seen project row)) (db.trees tree)
  all_seen P all counted =
      unseen P (seen project) (db.trees tree) (subst (AllByRecursion P) (reads_tree tree project text names means db plain rows reads (counted_numbers 1 (db.trees tree) counted) table) all)

  pub counts_tree : ((row : Row) → column (seen project row) 0 ≡ column row 0) → CountedFrom 1 rows → CountedFrom 1 (db.trees tree)
  counts_tree first counted =
      let numbers = numbers_of tree project text names means db plain rows reads first (counted_numbers 1 rows counted) in
      counted_unseen (seen project) first 1 (db.trees tree) (subst (CountedFrom 1) (reads_tree tree project text names means db plain rows reads numbers table) counted)

-- ---- the tables whose rowids count their rows

abbrev pub rowid_alone : List Term
rowid_alone = col 1 0 ∷ []

abbrev pub rowid_name : List (List ℕ)
rowid_name = codes "rowid" ∷ []

pub certificate_rowids_mean : command_of (understood register_schema CERTIFICATE_ROWIDS.now) ≡ as_command (selects 4 [] rowid_alone by_rowid no_limit) rowid_name
unfolding understood everything register_schema
certificate_rowids_mean = refl

pub revocation_rowids_mean : command_of (understood register_schema REVOCATION_ROWIDS.now) ≡ as_command (selects 8 [] rowid_alone by_rowid no_limit) rowid_name
unfolding understood everything register_schema
revocation_rowids_mean = refl

pub standing_rowids_mean : command_of (understood register_schema STANDING_ROWIDS.now) ≡ as_command (selects 12 [] rowid_alone by_rowid no_limit) rowid_name
unfolding understood everything register_schema
standing_rowids_mean = refl

pub listing_rowids_mean : command_of (understood register_schema LISTING_ROWIDS.now) ≡ as_command (selects 15 [] rowid_alone by_rowid no_limit) rowid_name
unfolding understood everything register_schema
listing_rowids_mean = refl

abbrev certificate_well : CertRow → Type 0
certificate_well it = IsSerial it.serial

each_certificate : (id : ℕ) (row : Row) → Fits None cert.columns row → column row 0 ≡ number id → IsOfSomeRecord certificate_well shown_certificate (seen certificates_columns row) → IsBehind certificate_well stored_certificate id row
each_certificate id row fit counted stands =
    let it = stands.0 in
    let cells = stands.2 in
    record { it = it; well_is = stands.1; row_is = is_row None cert.columns row (number id ∷ stored_certificate it) fit.typed (refl {a = 5}) (ap is_null cells.1.1.1.0) (counted, cells) }

pub certificates_hold : (db : Database) → AreTables db → (rows rowids : List Row) → IsReadFrom db Certificates rows → IsReadFrom db CertificateRowids rowids → CountedFrom 1 rowids → AllByRecursion (IsOfSomeRecord certificate_well shown_certificate) rows
    → CertificatesAgree db.trees
certificates_hold db are rows rowids reads reads_ids counted stand =
    let table = are.rises.1.1.1.0 in
    let counts = counts_tree 4 rowid_alone CERTIFICATE_ROWIDS.now rowid_name certificate_rowids_mean db refl rowids reads_ids table (λ row. refl) counted in
    let all = all_seen 4 certificates_columns CERTIFICATES.now certificates_names certificates_mean db refl rows reads table (IsOfSomeRecord certificate_well shown_certificate) stand counts in
    counted_whole (Fits None cert.columns) (λ row. IsOfSomeRecord certificate_well shown_certificate (seen certificates_columns row)) certificate_well stored_certificate each_certificate (db.trees 4) (certificates_fit db are) counts all

abbrev revocation_well : RevocationRow → Type 0
revocation_well it = IsSerial it.serial

each_revocation : (id : ℕ) (row : Row) → Fits None revocation.columns row → column row 0 ≡ number id → IsOfSomeRecord revocation_well shown_revocation (seen revocations_columns row) → IsBehind revocation_well stored_revocation id row
each_revocation id row fit counted stands =
    let it = stands.0 in
    let cells = stands.2 in
    record { it = it; well_is = stands.1; row_is = is_row None revocation.columns row (number id ∷ stored_revocation it) fit.typed (refl {a = 6}) (ap is_null cells.1.1.1.1.0) (counted, cells) }

pub revocations_hold : (db : Database) → AreTables db → (rows rowids : List Row) → IsReadFrom db Revocations rows → IsReadFrom db RevocationRowids rowids → CountedFrom 1 rowids → AllByRecursion (IsOfSomeRecord revocation_well shown_revocation) rows
    → RevocationsAgree db.trees
revocations_hold db are rows rowids reads reads_ids counted stand =
    let table = are.rises.1.1.1.1.1.0 in
    let counts = counts_tree 8 rowid_alone REVOCATION_ROWIDS.now rowid_name revocation_rowids_mean db refl rowids reads_ids table (λ row. refl) counted in
    let all = all_seen 8 revocations_columns REVOCATIONS.now revocations_names revocations_mean db refl rows reads table (IsOfSomeRecord revocation_well shown_revocation) stand counts in
    counted_whole (Fits None revocation.columns) (λ row. IsOfSomeRecord revocation_well shown_revocation (seen revocations_columns row)) revocation_well stored_revocation each_revocation (db.trees 8) (revocations_fit db are) counts all

abbrev standing_well : Standing → Type 0
standing_well it = IsSerial it.serial

abbrev letter_well : kept.Standing → Type 0
letter_well it = IsSerial it.serial

each_letter : (id : ℕ) (row : Row) → Fits None standing.columns row → column row 0 ≡ number id → IsOfSomeRecord standing_well shown_standing (seen letters_columns row) → IsBehind letter_well stored_standing id row
each_letter id row fit counted stands =
    let it = standing_in stands.0 in
    let cells = stands.2 in
    record { it = it; well_is = stands.1; row_is = is_row None standing.columns row (number id ∷ stored_standing it) fit.typed (refl {a = 4}) (ap is_null cells.1.1.0) (counted, cells) }

pub letters_hold : (db : Database) → AreTables db → (rows rowids : List Row) → IsReadFrom db Standings rows → IsReadFrom db StandingRowids rowids → CountedFrom 1 rowids → AllByRecursion (IsOfSomeRecord standing_well shown_standing) rows
    → LettersAgree db.trees
letters_hold db are rows rowids reads reads_ids counted stand =
    let table = are.rises.1.1.1.1.1.1.1.0 in
    let counts = counts_tree 12 rowid_alone STANDING_ROWIDS.now rowid_name standing_rowids_mean db refl rowids reads_ids table (λ row. refl) counted in
    let all = all_seen 12 letters_columns STANDINGS.now letters_names letters_mean db refl rows reads table (IsOfSomeRecord standing_well shown_standing) stand counts in
    counted_whole (Fits None standing.columns) (λ row. IsOfSomeRecord standing_well shown_standing (seen letters_columns row)) letter_well stored_standing each_letter (db.trees 12) (letters_fit db are) counts all

abbrev listing_well : Listed → Type 0
listing_well it = IsSerial it.serial

abbrev listed_well : kept.Listed → Type 0
listed_well it = IsSerial it.serial

each_listing : (id : ℕ) (row : Row) → length row ≡ 7 → column row 0 ≡ number id → IsOfSomeRecord listing_well shown_listed (seen listed_columns row) → IsBehind listed_well stored_listed id row
each_listing id row full counted stands =
    let it = listed_in stands.0 in
    record { it = it; well_is = stands.1; row_is = is_whole_row row (number id ∷ stored_listed it) full (counted, stands.2) }

pub listings_hold : (db : Database) → AreTables db → (rows rowids : List Row) → IsReadFrom db Listings rows → IsReadFrom db ListingRowids rowids → CountedFrom 1 rowids → AllByRecursion (IsOfSomeRecord listing_well shown_listed) rows
    → ListingsAgree db.trees
listings_hold db are rows rowids reads reads_ids counted stand =
    let table = are.rises.1.1.1.1.1.1.1.1.1.0 in
    let counts = counts_tree 15 rowid_alone LISTING_ROWIDS.now rowid_name listing_rowids_mean db refl rowids reads_ids table (λ row. refl) counted in
    let all = all_seen 15 listed_columns LISTINGS.now listed_names listed_mean db refl rows reads table (IsOfSomeRecord listing_well shown_listed) stand counts in
    counted_whole (λ row. length row ≡ 7) (λ row. IsOfSomeRecord listing_well shown_listed (seen listed_columns row)) listed_well stored_listed each_listing (db.trees 15) are.whole counts all

-- ---- the tables whose key is a number of their rows

abbrev any : {A : Type 0} → A → Type 0
any it = Unit {0}

each_subscriber : (id : ℕ) (row : Row) → Fits (Some 0) subscriber.columns row → column row 0 ≡ number id → IsOfSomeRecord any shown_subscriber (seen subscribers_columns row) → IsKeyed any stored_subscriber (λ (it : SubscriberRow). it.id) id row
each_subscriber id row fit counted stands =
    let it = stands.0 in
    let cells = stands.2 in
    record {
      it = it;
      well_is = tt;
      row_is = is_row (Some 0) subscriber.columns row (stored_subscriber it) fit.typed (refl {a = 3}) (ap is_null cells.1.0) (cells.0, (key_null (key_column (codes "id")) (required (codes "name") kind.Text ∷ []) row fit.typed, cells.1));
      key_is = ap number_in (sym cells.0 ∙ counted);
    }

pub subscribers_hold : (db : Database) → AreTables db → (rows : List Row) → IsReadFrom db Subscribers rows → CountedFrom 1 rows → AllByRecursion (IsOfSomeRecord any shown_subscriber) rows → SubscribersAgree db.trees
subscribers_hold db are rows reads counted stand =
    let table = are.rises.1.0 in
    let counts = counts_tree 1 subscribers_columns SUBSCRIBERS.now subscribers_names subscribers_mean db refl rows reads table (λ row. refl) counted in
    let all = all_seen 1 subscribers_columns SUBSCRIBERS.now subscribers_names subscribers_mean db refl rows reads table (IsOfSomeRecord any shown_subscriber) stand counts in
    keyed_whole (Fits (Some 0) subscriber.columns) (λ row. IsOfSomeRecord any shown_subscriber (seen subscribers_columns row)) any stored_subscriber (λ (it : SubscriberRow). it.id) each_subscriber (db.trees 1) (subscribers_fit db are) counts all

each_order : (id : ℕ) (row : Row) → Fits (Some 0) orders.columns row → column row 0 ≡ number id → IsOfSomeRecord any shown_order (seen orders_columns row) → IsKeyed any stored_order (λ (it : OrderRow). it.id) id row
each_order id row fit counted stands =
    let it = stands.0 in
    let cells = stands.2 in
    record {
      it = it;
      well_is = tt;
      row_is = is_row (Some 0) orders.columns row (stored_order it) fit.typed (refl {a = 4}) (ap is_null cells.1.1.0) (cells.0, (key_null (key_column (codes "id")) (required (codes "subscriber") kind.Integer ∷ required (codes "days") kind.Integer ∷ []) row fit.typed, cells.1));
      key_is = ap number_in (sym cells.0 ∙ counted);
    }

pub orders_hold : (db : Database) → AreTables db → (rows : List Row) → IsReadFrom db Orders rows → CountedFrom 1 rows → AllByRecursion (IsOfSomeRecord any shown_order) rows → OrdersAgree db.trees
orders_hold db are rows reads counted stand =
    let table = are.rises.1.1.0 in
    let counts = counts_tree 3 orders_columns ORDERS.now orders_names orders_mean db refl rows reads table (λ row. refl) counted in
    let all = all_seen 3 orders_columns ORDERS.now orders_names orders_mean db refl rows reads table (IsOfSomeRecord any shown_order) stand counts in
    keyed_whole (Fits (Some 0) orders.columns) (λ row. IsOfSomeRecord any shown_order (seen orders_columns row)) any stored_order (λ (it : OrderRow). it.id) each_order (db.trees 3) (orders_fit db are) counts all

abbrev request_well : RequestRow → Type 0
request_well it = IsSerial it.serial

each_request : (id : ℕ) (row : Row) → Fits (Some 0) request.columns row → column row 0 ≡ number id → IsOfSomeRecord request_well shown_request (seen requests_columns row) → IsKeyed request_well stored_request (λ (it : RequestRow). it.id) id row
each_request id row fit counted stands =
    let it = stands.0 in
    let cells = stands.2 in
    record {
      it = it;
      well_is = stands.1;
      row_is = is_row (Some 0) request.columns row (stored_request it) fit.typed (refl {a = 6}) (ap is_null cells.1.1.1.1.0) (cells.0, (key_null (key_column (codes "id")) (required (codes "serial") kind.Blob ∷ required (codes "ground") kind.Integer ∷ required (codes "received") kind.Integer ∷ required (codes "declined") kind.Integer ∷ []) row fit.typed, cells.1));
      key_is = ap number_in (sym cells.0 ∙ counted);
    }

pub requests_hold : (db : Database) → AreTables db → (rows : List Row) → IsReadFrom db Requests rows → CountedFrom 1 rows → AllByRecursion (IsOfSomeRecord request_well shown_request) rows → RequestsAgree db.trees
requests_hold db are rows reads counted stand =
    let table = are.rises.1.1.1.1.0 in
    let counts = counts_tree 7 requests_columns REQUESTS.now requests_names requests_mean db refl rows reads table (λ row. refl) counted in
    let all = all_seen 7 requests_columns REQUESTS.now requests_names requests_mean db refl rows reads table (IsOfSomeRecord request_well shown_request) stand counts in
    keyed_whole (Fits (Some 0) request.columns) (λ row. IsOfSomeRecord request_well shown_request (seen requests_columns row)) request_well stored_request (λ (it : RequestRow). it.id) each_request (db.trees 7) (requests_fit db are) counts all

-- a CRL's bytes are whatever bytes its row has
each_crl : (id : ℕ) (row : Row) → Fits (Some 0) crl.columns row → column row 0 ≡ number id → IsOfSomeRecord any shown_crl (seen crls_columns row) → IsKeyed any stored_crl (λ (it : Crl). it.number) id row
each_crl id row fit counted stands =
    let shown : CrlRow = stands.0 in
    let cells = stands.2 in
    let some : is_null (column row 3) ≡ false =
    not_false _ (and_left (not (is_null (column row 3))) true (and_right (not (is_null (column row 2))) (not (is_null (column row 3)) && true) fit.present)) in
    let bytes = blob_is (column row 3) some (cell_typed (key_column (codes "number")) (required (codes "this_update") kind.Integer ∷ required (codes "der") kind.Blob ∷ []) row fit.typed 1 (required (codes "der") kind.Blob) refl (some_below row 3 some)) in
    let it : Crl = record { number = shown.number; this_update = shown.this_update; bytes = bytes.0 } in
    record {
      it = it;
      well_is = tt;
      row_is = is_row (Some 0) crl.columns row (stored_crl it) fit.typed (refl {a = 4}) some (cells.0, (key_null (key_column (codes "number")) (required (codes "this_update") kind.Integer ∷ required (codes "der") kind.Blob ∷ []) row fit.typed, (cells.1.0, (bytes.1, tt))));
      key_is = ap number_in (sym cells.0 ∙ counted);
    }

pub crls_hold : (db : Database) → AreTables db → (rows : List Row) → IsReadFrom db Crls rows → CountedFrom 1 rows → AllByRecursion (IsOfSomeRecord any shown_crl) rows → CrlsAgree db.trees
crls_hold db are rows reads counted stand =
    let table = are.rises.1.1.1.1.1.1.0 in
    let counts = counts_tree 11 crls_columns CRLS.now crls_names crls_mean db refl rows reads table (λ row. refl) counted in
    let all = all_seen 11 crls_columns CRLS.now crls_names crls_mean db refl rows reads table (IsOfSomeRecord any shown_crl) stand counts in
    keyed_whole (Fits (Some 0) crl.columns) (λ row. IsOfSomeRecord any shown_crl (seen crls_columns row)) any stored_crl (λ (it : Crl). it.number) each_crl (db.trees 11) (crls_fit db are) counts all
