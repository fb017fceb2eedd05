-- What the statements on rows in the order of entry show, and those on declined requests.
use Rattle.std.proofs.Common.{◌≡◌, ◌≤◌, ◌<◌, ◌+◌, ◌&&◌, ◌==◌, ℕ, zero, suc, pos, Bool, true, false, cond, List, [], ◌∷◌, map, take, drop, length, codes, refl, sym, ap, subst, ◌∙◌, arith, inl, inr}
use Rattle.std.specs.Prelude.{nat_le, nat_lt}
use Rattle.std.specs.List.{filter, AllByRecursion, take-map}
use Rattle.std.proofs.lemmas.Bool.{cases_Bool}
use Rattle.std.proofs.lemmas.List.{drop-map}
use Rattle.sqlite_trees.proofs.ListLemmas.{filter-map, map-map}
use Rattle.sqlite_value.specs.Order.{Row}
use Rattle.sqlite_value.specs.declared.keys.Collation.TheVariants.{Binary}
use Rattle.sqlite_value.specs.declared.value.Value.TheVariants.{Int}
use Rattle.sqlite_sql.specs.Aggregate.{count}
use Rattle.sqlite_sql.specs.Term.{Term, col, lit, op2}
use Rattle.sqlite_sql.specs.Query.{Output, Query}
use Rattle.sqlite_sql.specs.Program.{overlay}
use Rattle.sqlite_sql.specs.declared.ops.BinaryOp.TheVariants.{Compare}
use Rattle.sqlite_sql.specs.declared.ops.CompareOp.TheVariants.{Eq, Le, Gt}
use Rattle.sqlite.specs.Effect.{Database, Reads}
use Rattle.sqlite.specs.Listing.{understood}
use Rattle.sqlite_resolve.specs.Compile.{first}
use Rattle.sqlite_tied.specs.Compute.{everything}
use Rattle.reg_core.specs.Calendar.{clock_end}
use Rattle.reg_core.specs.Label.{IsLabel}
use Rattle.reg_core.specs.Records.{Records}
use Rattle.reg_core.specs.Serial.{IsSerial}
use Rattle.reg_core.specs.Sound.{NumberedFrom, SoundRows}
use Rattle.reg_core.specs.declared.rows.CertRow.{CertRow}
use Rattle.reg_core.specs.declared.rows.OrderRow.{OrderRow}
use Rattle.reg_core.specs.declared.rows.RequestRow.{RequestRow}
use Rattle.reg_core.specs.declared.rows.RevocationRow.{RevocationRow}
use Rattle.reg_core.specs.declared.rows.SubscriberRow.{SubscriberRow}
use Rattle.reg_core.proofs.PublicLaws.{past_drop}
use Rattle.reg_store_tables.specs.Schema.{register_schema}
use Rattle.reg_store_tables.specs.Rows.{number, counted_rows, stored_certificate, stored_order, stored_request, stored_revocation, stored_subscriber}
use Rattle.reg_store_tables.specs.Shows.{IsShownBy}
use Rattle.reg_store_tables.specs.ReadStatements.{command_of, shown_certificate, shown_order, shown_request, shown_revocation, shown_subscriber}
use Rattle.reg_store_tables.specs.ShownRows.{shown_number}
use Rattle.reg_store_tables.specs.Pages.{ReadsPage, entered_page}
use Rattle.reg_store_tables.specs.RecordValues.{AreMomentAndReason, HasValues, IsValidity}
use Rattle.reg_store_tables.specs.declared.sql.TheConstants.{CERTS_ENTERED_AFTER, DECLINED_AFTER, DECLINED_UP_TO, ORDERS_ENTERED_AFTER, REQUESTS_ENTERED_AFTER, REVOCATIONS_ENTERED_AFTER, SUBSCRIBERS_ENTERED_AFTER}
use Rattle.reg_store_tables.proofs.Compares.{and_true, compares, eq_number, gt_number, le_number}
use Rattle.reg_store_tables.proofs.CountLemmas.{at_most_all, counted, counts_of, min_is, never_overflows}
use Rattle.reg_store_tables.proofs.FailingLemmas.{IsSelect, asked_of, select}
use Rattle.reg_store_tables.proofs.Few.{mapped, numbers_differ}
use Rattle.reg_store_tables.proofs.Greatest.{numbered_rises}
use Rattle.reg_store_tables.proofs.OverdueLemmas.{kept_rises}
use Rattle.reg_store_tables.proofs.PageLemmas.{as_many, by_number, cert_columns, cert_names, past_given, past_number, revocation_columns, revocation_names}
use Rattle.reg_store_tables.proofs.Queries.{selects, passes, shows, Given, all_of, keyed_given}
use Rattle.reg_store_tables.proofs.Rowids.{behind, rowids_are, rowids_numbered, with_rowids}
use Rattle.reg_store_tables.proofs.Selecting.{select_never}
use Rattle.reg_store_tables.proofs.Sorting.{ascends, sorted_same}
use Rattle.reg_store_tables.proofs.Written.{received_early, revocations_have}

-- ---- rows after a number

abbrev two_numbers : ℕ × ℕ → Row
two_numbers it = number it.0 ∷ number it.1 ∷ []

-- what each has, those after so many have
entered_have : {A : Type 0} (P : A → Type 0) (after most : ℕ) (xs : List A) → AllByRecursion P xs → AllByRecursion P (take most (drop after xs))
entered_have P zero zero xs all = tt
entered_have P zero (suc most) [] all = tt
entered_have P zero (suc most) (x ∷ xs) all = (all.0, entered_have P zero most xs all.1)
entered_have P (suc after) zero [] all = tt
entered_have P (suc after) (suc most) [] all = tt
entered_have P (suc after) most (x ∷ xs) all = entered_have P after most xs all.1

abbrev after_number : ℕ → List Term → Query
after_number tree project = selects tree past_number project by_number as_many

-- the rows after a number, of a table whose rows have the numbers 1, 2, 3 and so on
module _ {A : Type 0} (n : A → ℕ) (stored view : A → Row) (xs : List A) (numbered : NumberedFrom n 1 xs) (tree : ℕ) (project : List Term) (text : List ℕ) (names : List (List ℕ)) (is : IsSelect text (after_number tree project) names two_numbers)
    (db : Database) (plain : overlay db.trees [] tree ≡ db.trees tree) (table : db.trees tree ≡ map stored xs) (after most : ℕ) (rows : List Row) (reads : Reads (command_of (understood register_schema text)) db (two_numbers (after, most)) rows) where
  numbered_rows : ((x : A) → passes past_number (two_numbers (after, most)) (stored x) ≡ nat_lt after (n x)) → ((x : A) → shows (after_number tree project) (two_numbers (after, most)) (stored x) ≡ (number (n x) ∷ [], view x))
      → rows ≡ map view (take most (drop after xs))
  numbered_rows tests views =
      let given =
      keyed_given (λ _. Unit {0}) stored (λ x. nat_lt after (n x)) (λ x. (number (n x) ∷ [], view x)) xs (all_of (λ _. Unit {0}) (λ _. tt) xs) tree past_number project by_number as_many (two_numbers (after, most)) text names is.means db plain rows reads table
      (λ x any. tests x) views in
      let are = past_given n after xs given.to (numbers_differ n 1 xs numbered) given.same (ascends n given.to given.sorted) in
      given.shown ∙ take-map view most given.to ∙ ap (λ l. map view (take most l)) (are ∙ past_drop n after xs numbered)

-- rows without their rowids
without_rowids : {A : Type 0} (view : A → Row) (from : ℕ) (xs : List A) → map (λ (p : ℕ × A). view p.1) (with_rowids from xs) ≡ map view xs
without_rowids view from [] = refl
without_rowids view from (x ∷ xs) = ap (λ l. view x ∷ l) (without_rowids view (from + 1) xs)

page_of_map : {A : Type 0} (f : A → Row) (after most : ℕ) (xs : List A) → take most (drop after (map f xs)) ≡ map f (take most (drop after xs))
page_of_map f after most xs = ap (take most) (drop-map f after xs) ∙ take-map f most (drop after xs)

-- the rows after a rowid
module _ {A : Type 0} (stored view : A → Row) (xs : List A) (tree : ℕ) (project : List Term) (text : List ℕ) (names : List (List ℕ)) (is : IsSelect text (after_number tree project) names two_numbers)
    (db : Database) (plain : overlay db.trees [] tree ≡ db.trees tree) (table : db.trees tree ≡ counted_rows (map stored xs)) (after most : ℕ) (rows : List Row) (reads : Reads (command_of (understood register_schema text)) db (two_numbers (after, most)) rows) where
  counted_after : ((id : ℕ) (x : A) → shows (after_number tree project) (two_numbers (after, most)) (number id ∷ stored x) ≡ (number id ∷ [], view x)) → rows ≡ map view (take most (drop after xs))
  counted_after views =
      numbered_rows (λ (p : ℕ × A). p.0) (behind stored) (λ (p : ℕ × A). view p.1) (with_rowids 1 xs) (rowids_numbered 1 xs) tree project text names is db plain (table ∙ rowids_are stored 1 xs) after most rows reads
      (λ p. and_true _ ∙ gt_number p.0 after) (λ p. views p.0 p.1)
      ∙ sym (page_of_map (λ (p : ℕ × A). view p.1) after most (with_rowids 1 xs)) ∙ ap (λ l. take most (drop after l)) (without_rowids view 1 xs) ∙ page_of_map view after most xs

any_have : {A : Type 0} (xs : List A) → AllByRecursion (λ (x : A). Unit {0}) xs
any_have xs = all_of (λ x. Unit {0}) (λ x. tt) xs

-- a statement that reads a table in the order of entry, by what it shows and what the rows have
entered_reads : {A : Type 0} (V W : A → Type 0) (view : A → Row) (entered : Records → List A) (text : List ℕ) {q : Query} {names : List (List ℕ)} → IsSelect text q names two_numbers
    → ((records : Records) (db : Database) → IsShownBy db records → (after most : ℕ) (rows : List Row) → Reads (command_of (understood register_schema text)) db (two_numbers (after, most)) rows → rows ≡ map view (take most (drop after (entered records))))
    → ((records : Records) (db : Database) → IsShownBy db records → AllByRecursion V (entered records)) → ((records : Records) → SoundRows records → HasValues records → AllByRecursion W (entered records))
    → ReadsPage V W view (entered_page entered) text
entered_reads V W view entered text is rows serials values = record {
  reading = is.reading;
  asked = λ after most. is.asked (after, most);
  rows = rows;
  serials = λ records db shown after most. entered_have V after most (entered records) (serials records db shown);
  values = λ records sound fields after most. entered_have W after most (entered records) (values records sound fields);
}

-- ---- the tables

abbrev subscriber_columns : List Term
subscriber_columns = col 1 0 ∷ col 1 2 ∷ []

abbrev subscriber_names : List (List ℕ)
subscriber_names = codes "id" ∷ codes "name" ∷ []

subscribers_text : IsSelect SUBSCRIBERS_ENTERED_AFTER.now (after_number 1 subscriber_columns) subscriber_names two_numbers
unfolding understood everything register_schema first
subscribers_text =
    select SUBSCRIBERS_ENTERED_AFTER.now 1 past_number subscriber_columns by_number as_many subscriber_names two_numbers refl (refl, refl) refl (select_never SUBSCRIBERS_ENTERED_AFTER.now _ _ refl refl refl) (λ it. (omega arith, refl)) (λ it. refl)

pub subscribers_page : ReadsPage (λ (row : SubscriberRow). Unit {0}) (λ (row : SubscriberRow). IsLabel row.name) shown_subscriber (entered_page (λ (records : Records). records.subscribers)) SUBSCRIBERS_ENTERED_AFTER.now
subscribers_page =
    entered_reads (λ (row : SubscriberRow). Unit {0}) (λ (row : SubscriberRow). IsLabel row.name) shown_subscriber (λ records. records.subscribers) _ subscribers_text
    (λ records db shown after most rows reads.
    numbered_rows (λ (row : SubscriberRow). row.id) stored_subscriber shown_subscriber records.subscribers shown.rows.subscribers_numbered 1 subscriber_columns SUBSCRIBERS_ENTERED_AFTER.now _ subscribers_text db refl shown.rows.subscribers after most rows reads (λ row. and_true _ ∙ gt_number row.id after) (λ row. refl))
    (λ records db shown. any_have records.subscribers) (λ records sound values. values.names)

abbrev order_columns : List Term
order_columns = col 1 0 ∷ col 1 2 ∷ col 1 3 ∷ []

abbrev order_names : List (List ℕ)
order_names = codes "id" ∷ codes "subscriber" ∷ codes "days" ∷ []

orders_text : IsSelect ORDERS_ENTERED_AFTER.now (after_number 3 order_columns) order_names two_numbers
unfolding understood everything register_schema first
orders_text =
    select ORDERS_ENTERED_AFTER.now 3 past_number order_columns by_number as_many order_names two_numbers refl (refl, refl) refl (select_never ORDERS_ENTERED_AFTER.now _ _ refl refl refl) (λ it. (omega arith, refl)) (λ it. refl)

pub orders_page : ReadsPage (λ (row : OrderRow). Unit {0}) (λ (row : OrderRow). Unit {0}) shown_order (entered_page (λ (records : Records). records.orders)) ORDERS_ENTERED_AFTER.now
orders_page =
    entered_reads (λ (row : OrderRow). Unit {0}) (λ (row : OrderRow). Unit {0}) shown_order (λ records. records.orders) _ orders_text
    (λ records db shown after most rows reads.
    numbered_rows (λ (row : OrderRow). row.id) stored_order shown_order records.orders shown.rows.orders_numbered 3 order_columns ORDERS_ENTERED_AFTER.now _ orders_text db refl shown.rows.orders after most rows reads (λ row. and_true _ ∙ gt_number row.id after) (λ row. refl))
    (λ records db shown. any_have records.orders) (λ records sound values. any_have records.orders)

certificates_text : IsSelect CERTS_ENTERED_AFTER.now (after_number 4 cert_columns) cert_names two_numbers
unfolding understood everything register_schema first
certificates_text =
    select CERTS_ENTERED_AFTER.now 4 past_number cert_columns by_number as_many cert_names two_numbers refl (refl, refl) refl (select_never CERTS_ENTERED_AFTER.now _ _ refl refl refl) (λ it. (omega arith, refl)) (λ it. refl)

pub certificates_page : ReadsPage (λ (row : CertRow). IsSerial row.serial) (λ (row : CertRow). IsValidity row.not_before row.not_after) shown_certificate (entered_page (λ (records : Records). records.certificates)) CERTS_ENTERED_AFTER.now
certificates_page =
    entered_reads (λ (row : CertRow). IsSerial row.serial) (λ (row : CertRow). IsValidity row.not_before row.not_after) shown_certificate (λ records. records.certificates) _ certificates_text
    (λ records db shown after most rows reads.
    counted_after stored_certificate shown_certificate records.certificates 4 cert_columns CERTS_ENTERED_AFTER.now _ certificates_text db refl shown.rows.certificates after most rows reads (λ id row. refl))
    (λ records db shown. shown.rows.certificate_serials) (λ records sound values. values.validities)

abbrev request_columns : List Term
request_columns = col 1 0 ∷ col 1 2 ∷ col 1 3 ∷ col 1 4 ∷ col 1 5 ∷ []

abbrev request_names : List (List ℕ)
request_names = codes "id" ∷ codes "serial" ∷ codes "ground" ∷ codes "received" ∷ codes "declined" ∷ []

requests_text : IsSelect REQUESTS_ENTERED_AFTER.now (after_number 7 request_columns) request_names two_numbers
unfolding understood everything register_schema first
requests_text =
    select REQUESTS_ENTERED_AFTER.now 7 past_number request_columns by_number as_many request_names two_numbers refl (refl, refl) refl (select_never REQUESTS_ENTERED_AFTER.now _ _ refl refl refl) (λ it. (omega arith, refl)) (λ it. refl)

pub requests_page : ReadsPage (λ (row : RequestRow). IsSerial row.serial) (λ (row : RequestRow). row.received < clock_end) shown_request (entered_page (λ (records : Records). records.requests)) REQUESTS_ENTERED_AFTER.now
requests_page =
    entered_reads (λ (row : RequestRow). IsSerial row.serial) (λ (row : RequestRow). row.received < clock_end) shown_request (λ records. records.requests) _ requests_text
    (λ records db shown after most rows reads.
    numbered_rows (λ (row : RequestRow). row.id) stored_request shown_request records.requests shown.rows.requests_numbered 7 request_columns REQUESTS_ENTERED_AFTER.now _ requests_text db refl shown.rows.requests after most rows reads (λ row. and_true _ ∙ gt_number row.id after) (λ row. refl))
    (λ records db shown. shown.rows.request_serials) (λ records sound values. received_early records sound)

revocations_text : IsSelect REVOCATIONS_ENTERED_AFTER.now (after_number 8 revocation_columns) revocation_names two_numbers
unfolding understood everything register_schema first
revocations_text =
    select REVOCATIONS_ENTERED_AFTER.now 8 past_number revocation_columns by_number as_many revocation_names two_numbers refl (refl, refl) refl (select_never REVOCATIONS_ENTERED_AFTER.now _ _ refl refl refl) (λ it. (omega arith, refl)) (λ it. refl)

pub revocations_page : ReadsPage (λ (row : RevocationRow). IsSerial row.serial) (λ (row : RevocationRow). AreMomentAndReason row.at row.reason) shown_revocation (entered_page (λ (records : Records). records.revocations)) REVOCATIONS_ENTERED_AFTER.now
revocations_page =
    entered_reads (λ (row : RevocationRow). IsSerial row.serial) (λ (row : RevocationRow). AreMomentAndReason row.at row.reason) shown_revocation (λ records. records.revocations) _ revocations_text
    (λ records db shown after most rows reads.
    counted_after stored_revocation shown_revocation records.revocations 8 revocation_columns REVOCATIONS_ENTERED_AFTER.now _ revocations_text db refl shown.rows.revocations after most rows reads (λ id row. refl))
    (λ records db shown. shown.rows.revocation_serials) (λ records sound values. revocations_have records sound values)

-- ---- declined requests

abbrev declined_term : Term
declined_term = op2 (Compare Eq Binary) (col 1 5) (lit (Int (pos 1)))

flag_one : (declined : Bool) → (cond declined 1 0 == 1) ≡ declined
flag_one true = refl
flag_one false = refl

is_declined_by_sql : (row : RequestRow) → compares Eq (number (cond row.declined 1 0)) (number 1) ≡ row.declined
is_declined_by_sql row = eq_number (cond row.declined 1 0) 1 ∙ flag_one row.declined

abbrev after_terms : List Term
after_terms = declined_term ∷ op2 (Compare Gt Binary) (col 1 0) (col 0 0) ∷ []

declined_text : IsSelect DECLINED_AFTER.now (selects 7 after_terms (col 1 0 ∷ []) by_number as_many) (codes "id" ∷ []) two_numbers
unfolding understood everything register_schema first
declined_text =
    select DECLINED_AFTER.now 7 after_terms (col 1 0 ∷ []) by_number as_many (codes "id" ∷ []) two_numbers refl (refl, refl) refl (select_never DECLINED_AFTER.now _ _ refl refl refl) (λ it. (omega arith, refl)) (λ it. refl)

abbrev is_new_decline : ℕ → RequestRow → Bool
is_new_decline after row = row.declined && nat_lt after row.id

after_test : (row : RequestRow) (after : ℕ) → (compares Eq (number (cond row.declined 1 0)) (number 1) && (compares Gt (number row.id) (number after) && true)) ≡ is_new_decline after row
after_test row after =
    let first_one = is_declined_by_sql row in
    let second = and_true (compares Gt (number row.id) (number after)) ∙ gt_number row.id after in
    λ i. first_one i && second i

abbrev declined_ids : List RequestRow → List ℕ
declined_ids rows = map (λ row. row.id) (filter (λ row. row.declined) rows)

-- the ids of those that are kept
ids_of_kept : (after : ℕ) (xs : List RequestRow) → map (λ (row : RequestRow). row.id) (filter (is_new_decline after) xs) ≡ filter (nat_lt after) (declined_ids xs)
ids_of_kept after [] = refl
ids_of_kept after (x ∷ xs) = elim (cases_Bool x.declined) [
  | inl declined ↦ elim (cases_Bool (nat_lt after x.id)) [
    | inl later ↦ rw (declined, later) (ap (λ l. x.id ∷ l) (ids_of_kept after xs))
    | inr earlier ↦ rw (declined, earlier) (ids_of_kept after xs)
  ]
  | inr undeclined ↦ rw undeclined (ids_of_kept after xs)
]

abbrev id_out : RequestRow → Output
id_out row = (number row.id ∷ [], shown_number row.id)

module _ (db : Database) (records : Records) (shown : IsShownBy db records) (after most : ℕ) (rows : List Row)
    (reads : Reads (command_of (understood register_schema DECLINED_AFTER.now)) db (two_numbers (after, most)) rows) where
  declined_given : Given (is_new_decline after) id_out records.requests (selects 7 after_terms (col 1 0 ∷ []) by_number as_many) (two_numbers (after, most)) rows
  declined_given =
      keyed_given (λ _. Unit {0}) stored_request (is_new_decline after) id_out records.requests (any_have records.requests) 7 after_terms (col 1 0 ∷ []) by_number as_many (two_numbers (after, most)) DECLINED_AFTER.now
      (codes "id" ∷ []) declined_text.means db refl rows reads shown.rows.requests (λ row any. after_test row after) (λ row. refl)

  declined_shown : rows ≡ map shown_number (take most (filter (nat_lt after) (declined_ids records.requests)))
  declined_shown =
      let id : RequestRow → ℕ = λ row. row.id in
      let kept = filter (is_new_decline after) records.requests in
      let rises = kept_rises (is_new_decline after) records.requests (numbered_rises id 1 records.requests shown.rows.requests_numbered) in
      let to : declined_given.to ≡ kept = sorted_same id kept declined_given.to rises declined_given.same (ascends id declined_given.to declined_given.sorted) in
      declined_given.shown ∙ ap (take most) (sym (map-map shown_number id declined_given.to))
      ∙ ap (λ l. take most (map shown_number l)) (ap (map id) to ∙ ids_of_kept after records.requests)
      ∙ take-map shown_number most (filter (nat_lt after) (declined_ids records.requests))

pub declined_page : ReadsPage (λ (id : ℕ). Unit {0}) (λ (id : ℕ). Unit {0}) shown_number (λ records after most. take most (filter (nat_lt after) (map (λ row. row.id) (filter (λ row. row.declined) records.requests)))) DECLINED_AFTER.now
declined_page = record {
  reading = declined_text.reading;
  asked = λ after most. declined_text.asked (after, most);
  rows = λ records db shown. declined_shown db records shown;
  serials = λ records db shown after most. any_have (take most (filter (nat_lt after) (declined_ids records.requests)));
  values = λ records sound values after most. any_have (take most (filter (nat_lt after) (declined_ids records.requests)));
}

abbrev up_to_terms : List Term
up_to_terms = declined_term ∷ op2 (Compare Le Binary) (col 1 0) (col 0 0) ∷ []

pub up_to_text : IsSelect DECLINED_UP_TO.now (counts_of 7 up_to_terms) (codes "count(*)" ∷ []) (λ (last : ℕ). number last ∷ [])
unfolding understood everything register_schema first
up_to_text = record {
  means = refl;
  reading = record { plain = (refl, refl); unlisted = refl; never = select_never DECLINED_UP_TO.now _ _ refl refl refl };
  asked = λ last. asked_of DECLINED_UP_TO.now (counts_of 7 up_to_terms) (codes "count(*)" ∷ []) (number last ∷ []) (never_overflows 7 up_to_terms (number last ∷ [])) (omega arith, refl) refl refl;
}

abbrev pub is_declined_up_to : ℕ → RequestRow → Bool
is_declined_up_to last row = row.declined && nat_le row.id last

up_to_test : (row : RequestRow) (last : ℕ) → (compares Eq (number (cond row.declined 1 0)) (number 1) && (compares Le (number row.id) (number last) && true)) ≡ is_declined_up_to last row
up_to_test row last =
    let first_one = is_declined_by_sql row in
    let second = and_true (compares Le (number row.id) (number last)) ∙ le_number row.id last in
    λ i. first_one i && second i

pub up_to_shown : (db : Database) (records : Records) → IsShownBy db records → (last : ℕ) (rows : List Row) → Reads (command_of (understood register_schema DECLINED_UP_TO.now)) db (number last ∷ []) rows → length records.requests ≤ 1000000
    → rows ≡ shown_number (length (filter (is_declined_up_to last) records.requests)) ∷ []
up_to_shown db records shown last rows reads few =
    let params = number last ∷ [] in
    let keep = is_declined_up_to last in
    let count_is = counted 7 up_to_terms (codes "count(*)" ∷ []) db params rows refl (subst (λ c. Reads c db params rows) up_to_text.means reads) in
    let passed = λ (row : RequestRow). passes up_to_terms params (stored_request row) in
    let size : length (filter (passes up_to_terms params) (db.trees 7)) ≡ length (filter keep records.requests) =
    ap (λ t. length (filter (passes up_to_terms params) t)) shown.rows.requests ∙ ap length (filter-map (passes up_to_terms params) stored_request records.requests)
    ∙ mapped stored_request (filter passed records.requests) ∙ (λ i. length (filter (λ row. up_to_test row last i) records.requests)) in
    let most = at_most_all keep records.requests in
    count_is ∙ ap (λ n. (count n ∷ []) ∷ []) size ∙ ap (λ n. (number n ∷ []) ∷ []) (min_is (length (filter keep records.requests)) 9223372036854775807 (omega arith))
