-- What the texts over whole tables read, in the order of the keys.
use Rattle.std.proofs.Common.{◌≡◌, ◌+◌, ℕ, true, List, [], ◌∷◌, map, codes, sym, subst, ap, ◌∙◌, refl}
use Rattle.std.specs.List.Sorted.{IsPermutation}
use Rattle.sqlite_value.specs.Order.{Row}
use Rattle.sqlite_value.specs.declared.value.Value.TheVariants.{Text}
use Rattle.sqlite_value.specs.declared.keys.Key.{Key}
use Rattle.sqlite_trees.proofs.ListLemmas.{map-map}
use Rattle.sqlite_sql.specs.Program.{overlay}
use Rattle.sqlite_sql.specs.Term.{Term, col}
use Rattle.sqlite_sql.specs.Query.{Output, output}
use Rattle.sqlite_tied.specs.Compute.{everything}
use Rattle.sqlite.specs.Effect.{Database, Reads}
use Rattle.sqlite.specs.Listing.{understood}
use Rattle.sqlite.proofs.Callers.{one_permutation}
use Rattle.reg_core.specs.Crls.{row_of}
use Rattle.reg_core.specs.Records.{Records, Crl}
use Rattle.reg_core.specs.Serial.{IsSerial}
use Rattle.reg_core.specs.Sound.{NumberedFrom}
use Rattle.reg_core.specs.declared.rows.OrderRow.{OrderRow}
use Rattle.reg_core.specs.declared.rows.RequestRow.{RequestRow}
use Rattle.reg_core.specs.declared.rows.SubscriberRow.{SubscriberRow}
use Rattle.reg_store_tables.specs.DerivedRows as column
use Rattle.reg_store_tables.specs.DerivedRows.{DerivedRows, letter_text, stored_standing, stored_counts, stored_listed}
use Rattle.reg_store_tables.specs.Rows.{number, serial_value, counted_rows, stored_office, stored_subscriber, stored_order, stored_certificate, stored_request, stored_revocation, stored_crl}
use Rattle.reg_store_tables.specs.Schema.{register_schema}
use Rattle.reg_store_tables.specs.Shows.{HaveSerials}
use Rattle.reg_store_tables.specs.ReadStatements.{command_of, shown_subscriber, shown_order, shown_certificate, shown_request, shown_revocation, shown_crl}
use Rattle.reg_store_tables.proofs.PublicLaws.{selects, as_command, no_limit, keyed_given, all_of, all_kept, with_rowids, behind, rowids_are, rowids_numbered, ascending_key, ascends, sorted_same, numbered_rises}
use Rattle.reg_audit.specs.DerivedAsRead.{letter_in, standing_in, listed_in}
use Rattle.reg_audit.proofs.Following.{letter_out, standing_out, listed_out}
use Rattle.reg_audit.specs.ReadQueries.{IsReadOf}
use Rattle.reg_store_tables.specs.ShownRows.{shown_counts}
use Rattle.reg_audit.specs.ShownRows.{shown_office, shown_standing, shown_listed}
use Rattle.reg_audit.specs.declared.sql.AuditQuery.TheVariants.{Office, Subscribers, Orders, Certificates, Requests, Revocations, Crls, Standings, Counts, Listings}
use Rattle.reg_audit.specs.declared.sql.TheConstants.{OFFICE, SUBSCRIBERS, ORDERS, CERTIFICATES, REQUESTS, REVOCATIONS, CRLS, STANDINGS, COUNTS, LISTINGS}

abbrev by_first : List (Term × Key)
by_first = (col 1 0, ascending_key) ∷ []

-- ---- a table whose key is a number of its rows

module _ {A : Type 0} (n : A → ℕ) (stored view : A → Row) (xs : List A) (numbered : NumberedFrom n 1 xs) (tree : ℕ) (project : List Term) (text : List ℕ) (names : List (List ℕ))
    (means : command_of (understood register_schema text) ≡ as_command (selects tree [] project by_first no_limit) names) (db : Database) (plain : overlay db.trees [] tree ≡ db.trees tree) (rows : List Row)
    (reads : Reads (command_of (understood register_schema text)) db [] rows) where
  abbrev out_by : A → Output
  out_by x = (number (n x) ∷ [], view x)

  -- the rows are shown in the order of their numbers
  pub keyed_are : db.trees tree ≡ map stored xs → ((x : A) → output (selects tree [] project by_first no_limit) ([] ∷ stored x ∷ []) ≡ out_by x) → rows ≡ map view xs
  keyed_are table views =
      let given = keyed_given (λ _. Unit {0}) stored (λ _. true) out_by xs (all_of (λ _. Unit {0}) (λ _. tt) xs) tree [] project by_first no_limit [] text names means db plain rows reads table (λ x any. refl) views in
      let same = subst (λ l. IsPermutation l given.to) (all_kept xs) given.same in
      let to : given.to ≡ xs = sorted_same n xs given.to (numbered_rises n 1 xs numbered) same (ascends n given.to given.sorted) in
      given.shown ∙ ap (map view) to

-- ---- a table whose rowids count its rows

rowids_shown : {A : Type 0} (view : A → Row) (from : ℕ) (xs : List A) → map (λ (row : ℕ × A). view row.1) (with_rowids from xs) ≡ map view xs
rowids_shown view from [] = refl
rowids_shown view from (x ∷ xs) = ap (λ (l : List Row). view x ∷ l) (rowids_shown view (from + 1) xs)

module _ {A : Type 0} (stored view : A → Row) (xs : List A) (tree : ℕ) (project : List Term) (text : List ℕ) (names : List (List ℕ))
    (means : command_of (understood register_schema text) ≡ as_command (selects tree [] project by_first no_limit) names) (db : Database) (plain : overlay db.trees [] tree ≡ db.trees tree) (rows : List Row)
    (reads : Reads (command_of (understood register_schema text)) db [] rows) where
  -- the rows are shown in the order of their rowids
  pub counted_are : db.trees tree ≡ counted_rows (map stored xs)
      → ((row : ℕ × A) → output (selects tree [] project by_first no_limit) ([] ∷ (number row.0 ∷ stored row.1) ∷ []) ≡ (number row.0 ∷ [], view row.1)) → rows ≡ map view xs
  counted_are table views =
      keyed_are (λ (row : ℕ × A). row.0) (behind stored) (λ (row : ℕ × A). view row.1) (with_rowids 1 xs) (rowids_numbered 1 xs) tree project text names means db plain rows reads
      (table ∙ rowids_are stored 1 xs) views ∙ rowids_shown view 1 xs

-- ---- a table of one row

module _ (row shown : Row) (tree : ℕ) (project : List Term) (text : List ℕ) (names : List (List ℕ))
    (means : command_of (understood register_schema text) ≡ as_command (selects tree [] project [] no_limit) names) (db : Database) (plain : overlay db.trees [] tree ≡ db.trees tree) (rows : List Row)
    (reads : Reads (command_of (understood register_schema text)) db [] rows) where
  pub only_is : db.trees tree ≡ row ∷ [] → output (selects tree [] project [] no_limit) ([] ∷ row ∷ []) ≡ ([], shown) → rows ≡ shown ∷ []
  only_is table view =
      let given =
      keyed_given (λ _. Unit {0}) (λ (u : Unit {0}). row) (λ _. true) (λ (u : Unit {0}). ([], shown)) (tt ∷ []) (tt, tt) tree [] project [] no_limit [] text names means db plain rows reads table (λ x any. refl) (λ x. view) in
      given.shown ∙ ap (map (λ (u : Unit {0}). shown)) (one_permutation tt given.to given.same)

-- ---- the tables of the records

abbrev pub office_columns : List Term
office_columns = col 1 8 ∷ col 1 9 ∷ []

abbrev pub office_names : List (List ℕ)
office_names = codes "cap" ∷ codes "last_at" ∷ []

pub office_mean : command_of (understood register_schema OFFICE.now) ≡ as_command (selects 0 [] office_columns [] no_limit) office_names
unfolding understood everything register_schema
office_mean = refl

pub office_is : (records : Records) (columns : DerivedRows) (rows : List Row) → IsReadOf records columns Office rows → rows ≡ shown_office (record { cap = records.policy.cap; last = records.last }) ∷ []
office_is records columns rows is =
    let shown = is.both.shown.rows in
    only_is (stored_office shown.days records.issuer records.policy records.last) (shown_office (record { cap = records.policy.cap; last = records.last })) 0 office_columns OFFICE.now office_names office_mean is.db refl rows is.reads
    shown.office refl

abbrev pub subscribers_columns : List Term
subscribers_columns = col 1 0 ∷ col 1 2 ∷ []

abbrev pub subscribers_names : List (List ℕ)
subscribers_names = codes "id" ∷ codes "name" ∷ []

pub subscribers_mean : command_of (understood register_schema SUBSCRIBERS.now) ≡ as_command (selects 1 [] subscribers_columns by_first no_limit) subscribers_names
unfolding understood everything register_schema
subscribers_mean = refl

pub subscribers_are : (records : Records) (columns : DerivedRows) (rows : List Row) → IsReadOf records columns Subscribers rows → rows ≡ map shown_subscriber records.subscribers
subscribers_are records columns rows is =
    let shown = is.both.shown.rows in
    keyed_are (λ (row : SubscriberRow). row.id) stored_subscriber shown_subscriber records.subscribers shown.subscribers_numbered 1 subscribers_columns SUBSCRIBERS.now subscribers_names subscribers_mean is.db refl rows is.reads shown.subscribers (λ row. refl)

abbrev pub orders_columns : List Term
orders_columns = col 1 0 ∷ col 1 2 ∷ col 1 3 ∷ []

abbrev pub orders_names : List (List ℕ)
orders_names = codes "id" ∷ codes "subscriber" ∷ codes "days" ∷ []

pub orders_mean : command_of (understood register_schema ORDERS.now) ≡ as_command (selects 3 [] orders_columns by_first no_limit) orders_names
unfolding understood everything register_schema
orders_mean = refl

pub orders_are : (records : Records) (columns : DerivedRows) (rows : List Row) → IsReadOf records columns Orders rows → rows ≡ map shown_order records.orders
orders_are records columns rows is =
    let shown = is.both.shown.rows in
    keyed_are (λ (row : OrderRow). row.id) stored_order shown_order records.orders shown.orders_numbered 3 orders_columns ORDERS.now orders_names orders_mean is.db refl rows is.reads shown.orders (λ row. refl)

abbrev pub certificates_columns : List Term
certificates_columns = col 1 1 ∷ col 1 2 ∷ col 1 3 ∷ col 1 4 ∷ []

abbrev pub certificates_names : List (List ℕ)
certificates_names = codes "serial" ∷ codes "order_id" ∷ codes "not_before" ∷ codes "not_after" ∷ []

pub certificates_mean : command_of (understood register_schema CERTIFICATES.now) ≡ as_command (selects 4 [] certificates_columns by_first no_limit) certificates_names
unfolding understood everything register_schema
certificates_mean = refl

pub certificates_are : (records : Records) (columns : DerivedRows) (rows : List Row) → IsReadOf records columns Certificates rows → rows ≡ map shown_certificate records.certificates
certificates_are records columns rows is =
    counted_are stored_certificate shown_certificate records.certificates 4 certificates_columns CERTIFICATES.now certificates_names certificates_mean is.db refl rows is.reads is.both.shown.rows.certificates (λ row. refl)

abbrev pub requests_columns : List Term
requests_columns = col 1 0 ∷ col 1 2 ∷ col 1 3 ∷ col 1 4 ∷ col 1 5 ∷ []

abbrev pub requests_names : List (List ℕ)
requests_names = codes "id" ∷ codes "serial" ∷ codes "ground" ∷ codes "received" ∷ codes "declined" ∷ []

pub requests_mean : command_of (understood register_schema REQUESTS.now) ≡ as_command (selects 7 [] requests_columns by_first no_limit) requests_names
unfolding understood everything register_schema
requests_mean = refl

pub requests_are : (records : Records) (columns : DerivedRows) (rows : List Row) → IsReadOf records columns Requests rows → rows ≡ map shown_request records.requests
requests_are records columns rows is =
    let shown = is.both.shown.rows in
    keyed_are (λ (row : RequestRow). row.id) stored_request shown_request records.requests shown.requests_numbered 7 requests_columns REQUESTS.now requests_names requests_mean is.db refl rows is.reads shown.requests (λ row. refl)

abbrev pub revocations_columns : List Term
revocations_columns = col 1 1 ∷ col 1 2 ∷ col 1 3 ∷ col 1 4 ∷ col 1 5 ∷ []

abbrev pub revocations_names : List (List ℕ)
revocations_names = codes "serial" ∷ codes "at" ∷ codes "reason" ∷ codes "request" ∷ codes "first_crl" ∷ []

pub revocations_mean : command_of (understood register_schema REVOCATIONS.now) ≡ as_command (selects 8 [] revocations_columns by_first no_limit) revocations_names
unfolding understood everything register_schema
revocations_mean = refl

pub revocations_are : (records : Records) (columns : DerivedRows) (rows : List Row) → IsReadOf records columns Revocations rows → rows ≡ map shown_revocation records.revocations
revocations_are records columns rows is =
    counted_are stored_revocation shown_revocation records.revocations 8 revocations_columns REVOCATIONS.now revocations_names revocations_mean is.db refl rows is.reads is.both.shown.rows.revocations (λ row. refl)

abbrev pub crls_columns : List Term
crls_columns = col 1 0 ∷ col 1 2 ∷ []

abbrev pub crls_names : List (List ℕ)
crls_names = codes "number" ∷ codes "this_update" ∷ []

pub crls_mean : command_of (understood register_schema CRLS.now) ≡ as_command (selects 11 [] crls_columns by_first no_limit) crls_names
unfolding understood everything register_schema
crls_mean = refl

abbrev view_of_crl : Crl → Row
view_of_crl crl = shown_crl (row_of crl)

pub crls_are : (records : Records) (columns : DerivedRows) (rows : List Row) → IsReadOf records columns Crls rows → rows ≡ map shown_crl (map row_of records.crls)
crls_are records columns rows is =
    let shown = is.both.shown.rows in
    keyed_are (λ (crl : Crl). crl.number) stored_crl view_of_crl records.crls shown.crls_numbered 11 crls_columns CRLS.now crls_names crls_mean is.db refl rows is.reads shown.crls (λ row. refl)
    ∙ sym (map-map shown_crl row_of records.crls)

-- ---- what is kept beside the records

letter_back : (l : column.Letter) → letter_in (letter_out l) ≡ l
letter_back column.good = refl
letter_back column.revoked = refl
letter_back column.expired = refl

pub letters_back : (rows : List column.Standing) → map standing_in (map standing_out rows) ≡ rows
letters_back [] = refl
letters_back (row ∷ rows) = λ i. record { serial = row.serial; not_after = row.not_after; letter = letter_back row.letter i } ∷ letters_back rows i

pub listings_back : (rows : List column.Listed) → map listed_in (map listed_out rows) ≡ rows
listings_back [] = refl
listings_back (row ∷ rows) = ap (λ l. row ∷ l) (listings_back rows)

letters_shown : (rows : List column.Standing) → map shown_standing (map standing_out rows) ≡ map stored_standing rows
letters_shown [] = refl
letters_shown (row ∷ rows) = λ i. (serial_value row.serial ∷ number row.not_after ∷ Text (letter_text (letter_back row.letter i)) ∷ []) ∷ letters_shown rows i

listings_shown : (rows : List column.Listed) → map stored_listed rows ≡ map shown_listed (map listed_out rows)
listings_shown [] = refl
listings_shown (row ∷ rows) = ap (λ l. stored_listed row ∷ l) (listings_shown rows)

pub serials_out : {A B : Type 0} (serial : A → ℕ) (other : B → ℕ) (to : A → B) → ((x : A) → other (to x) ≡ serial x) → (xs : List A) → HaveSerials serial xs → HaveSerials other (map to xs)
serials_out serial other to same [] all = tt
serials_out serial other to same (x ∷ xs) all = (subst IsSerial (sym (same x)) all.0, serials_out serial other to same xs all.1)

abbrev pub letters_columns : List Term
letters_columns = col 1 1 ∷ col 1 2 ∷ col 1 3 ∷ []

abbrev pub letters_names : List (List ℕ)
letters_names = codes "serial" ∷ codes "not_after" ∷ codes "state" ∷ []

pub letters_mean : command_of (understood register_schema STANDINGS.now) ≡ as_command (selects 12 [] letters_columns by_first no_limit) letters_names
unfolding understood everything register_schema
letters_mean = refl

pub letters_are : (records : Records) (columns : DerivedRows) (rows : List Row) → IsReadOf records columns Standings rows → rows ≡ map shown_standing (map standing_out columns.letters)
letters_are records columns rows is =
    counted_are stored_standing stored_standing columns.letters 12 letters_columns STANDINGS.now letters_names letters_mean is.db refl rows is.reads is.both.kept.letters (λ row. refl)
    ∙ sym (letters_shown columns.letters)

abbrev pub counts_columns : List Term
counts_columns = col 1 2 ∷ col 1 3 ∷ col 1 4 ∷ []

abbrev pub counts_names : List (List ℕ)
counts_names = codes "n_good" ∷ codes "n_revoked" ∷ codes "n_expired" ∷ []

pub counts_mean : command_of (understood register_schema COUNTS.now) ≡ as_command (selects 14 [] counts_columns [] no_limit) counts_names
unfolding understood everything register_schema
counts_mean = refl

pub counts_is : (records : Records) (columns : DerivedRows) (rows : List Row) → IsReadOf records columns Counts rows → rows ≡ shown_counts columns.counts ∷ []
counts_is records columns rows is =
    only_is (stored_counts columns.counts) (shown_counts columns.counts) 14 counts_columns COUNTS.now counts_names counts_mean is.db refl rows is.reads is.both.kept.counts refl

abbrev pub listed_columns : List Term
listed_columns = col 1 1 ∷ col 1 2 ∷ col 1 3 ∷ col 1 4 ∷ col 1 5 ∷ col 1 6 ∷ []

abbrev pub listed_names : List (List ℕ)
listed_names = codes "serial" ∷ codes "at" ∷ codes "reason" ∷ codes "first_crl" ∷ codes "not_after" ∷ codes "last_listed" ∷ []

pub listed_mean : command_of (understood register_schema LISTINGS.now) ≡ as_command (selects 15 [] listed_columns by_first no_limit) listed_names
unfolding understood everything register_schema
listed_mean = refl

pub listed_are : (records : Records) (columns : DerivedRows) (rows : List Row) → IsReadOf records columns Listings rows → rows ≡ map shown_listed (map listed_out columns.listed)
listed_are records columns rows is =
    counted_are stored_listed stored_listed columns.listed 15 listed_columns LISTINGS.now listed_names listed_mean is.db refl rows is.reads is.both.kept.listed (λ row. refl)
    ∙ listings_shown columns.listed
