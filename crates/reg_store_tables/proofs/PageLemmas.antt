-- What the statements on the first rows past a key show.
use Rattle.std.proofs.Common.{◌≡◌, ◌<◌, ◌+◌, ◌^◌, ℕ, zero, suc, Bool, List, [], ◌∷◌, map, take, get_or, codes, refl, sym, ap, subst, ◌∙◌, arith, inl, inr}
use Rattle.std.specs.Prelude.{nat_lt}
use Rattle.std.specs.List.{filter, AllByRecursion, take-map}
use Rattle.std.specs.List.Sorted.{IsPermutation, IsSorted, IsNonDecreasingBy}
use Rattle.std.specs.Ordering.{nat_cmp, is_lt}
use Rattle.std.proofs.lemmas.Bool.{cases_Bool}
use Rattle.std.proofs.lemmas.List.Elements.{All-from_recursion, recursion_from_All}
use Rattle.std.proofs.lemmas.List.Sorted.{All-permutation, IsPermutation-refl, IsPermutation-cons, IsPermutation-trans, IsPermutation-sym, IsPermutation-append_left, IsPermutation-append_comm, IsNonDecreasingBy-from_sort}
use Rattle.sqlite_value.specs.Order.{Row}
use Rattle.sqlite_value.specs.declared.keys.Key.{Key}
use Rattle.sqlite_value.specs.declared.keys.Collation.TheVariants.{Binary}
use Rattle.sqlite_value.proofs.OrderLemmas.{then-Equal, value_cmp-Blob}
use Rattle.sqlite_sql.specs.Term.{Term, col, op2}
use Rattle.sqlite_sql.specs.Query.{Output, key_cmp}
use Rattle.sqlite_sql.specs.Program.{overlay}
use Rattle.sqlite_sql.specs.declared.ops.BinaryOp.TheVariants.{Compare}
use Rattle.sqlite_sql.specs.declared.ops.CompareOp.TheVariants.{Gt}
use Rattle.sqlite.specs.Effect.{Database, Reads}
use Rattle.sqlite.specs.Listing.{understood}
use Rattle.sqlite_resolve.specs.Compile.{first}
use Rattle.sqlite_tied.specs.Compute.{everything}
use Rattle.reg_core.specs.Calendar.{clock_end}
use Rattle.reg_core.specs.Crls.{row_of}
use Rattle.reg_core.specs.Records.{Records, Crl}
use Rattle.reg_core.specs.Serial.{IsSerial, serial_bytes}
use Rattle.reg_core.specs.Sound.{KeysDiffer}
use Rattle.reg_core.specs.declared.rows.CertRow.{CertRow}
use Rattle.reg_core.specs.declared.rows.CrlRow.{CrlRow}
use Rattle.reg_core.specs.declared.rows.RevocationRow.{RevocationRow}
use Rattle.reg_core_laws.proofs.PublicLaws.{all_map}
use Rattle.reg_core.specs.AscendingRows.{in_order, past, insert_by_key}
use Rattle.reg_core.proofs.PublicLaws.{all_ordered, order_filter, order_rises, kept_rises}
use Rattle.reg_core.proofs.PublicLaws as orders
use Rattle.reg_store_tables.specs.Schema.{register_schema}
use Rattle.reg_store_tables.specs.Rows.{number, serial_value, counted_rows, stored_certificate, stored_crl, stored_revocation}
use Rattle.reg_store_tables.specs.Pages.{ReadsPage}
use Rattle.reg_store_tables.specs.Shows.{IsShownBy}
use Rattle.reg_store_tables.specs.ReadStatements.{command_of, shown_certificate, shown_crl, shown_revocation}
use Rattle.reg_store_tables.specs.declared.sql.TheConstants.{CERTS_AFTER, CRLS_AFTER, REVOCATIONS_AFTER}
use Rattle.reg_store_tables.proofs.Compares.{and_true, gt_number, gt_serial, serial_order}
use Rattle.reg_store_tables.proofs.FailingLemmas.{IsSelect, select}
use Rattle.reg_store_tables.proofs.Few.{numbers_differ}
use Rattle.reg_store_tables.proofs.Queries.{selects, as_command, passes, shows, Given, all_of, counted_given, keyed_given, kept_have}
use Rattle.reg_store_tables.proofs.Selecting.{select_never}
use Rattle.reg_store_tables.proofs.Sorting.{ascending_key, ascends, Rises, sorted_same}
use Rattle.reg_store_tables.proofs.Written.{updated_early}

-- ---- rows in order

module _ {A : Type 0} (key : A → ℕ) where
  swapped : (x y : A) (xs : List A) → IsPermutation (x ∷ y ∷ xs) (y ∷ x ∷ xs)
  swapped x y xs = IsPermutation-append_left xs (x ∷ y ∷ []) (y ∷ x ∷ []) (IsPermutation-append_comm (x ∷ []) (y ∷ []))

  put_same : (x : A) (xs : List A) → IsPermutation (x ∷ xs) (insert_by_key key x xs)
  put_same x [] = IsPermutation-refl (x ∷ [])
  put_same x (y ∷ xs) = elim (cases_Bool (nat_lt (key x) (key y))) [
    | inl less ↦ rw less (IsPermutation-refl (x ∷ y ∷ xs))
    | inr more ↦ rw more (IsPermutation-trans (x ∷ y ∷ xs) (y ∷ x ∷ xs) (y ∷ insert_by_key key x xs) (swapped x y xs) (IsPermutation-cons y (x ∷ xs) (insert_by_key key x xs) (put_same x xs)))
  ]

  -- the same rows
  order_same : (xs : List A) → IsPermutation xs (in_order key xs)
  order_same [] = IsPermutation-refl []
  order_same (x ∷ xs) = IsPermutation-trans (x ∷ xs) (x ∷ in_order key xs) (in_order key (x ∷ xs)) (IsPermutation-cons x xs (in_order key xs) (order_same xs)) (put_same x (in_order key xs))

  as_rises : (xs : List A) → orders.Rises key xs → Rises key xs
  as_rises [] rises = tt
  as_rises (x ∷ xs) rises = (rises.0, as_rises xs rises.1)

  past_rises : (after : ℕ) (xs : List A) → KeysDiffer key xs → Rises key (past key after xs)
  past_rises after xs differ =
      let p : A → Bool = λ a. nat_lt after (key a) in
      subst (Rises key) (sym (order_filter key p xs differ)) (as_rises (filter p (in_order key xs)) (kept_rises key p (in_order key xs) (order_rises key xs differ)))

  -- an answer in the order of the key has the rows past it
  pub past_given : (after : ℕ) (xs to : List A) → KeysDiffer key xs → IsPermutation (filter (λ a. nat_lt after (key a)) xs) to → IsNonDecreasingBy key to → to ≡ past key after xs
  past_given after xs to differ same sorted =
      let kept = filter (λ a. nat_lt after (key a)) xs in
      sorted_same key (past key after xs) to (past_rises after xs differ) (IsPermutation-trans (past key after xs) kept to (IsPermutation-sym kept (past key after xs) (order_same kept)) same) sorted

  -- what each has, those past a key have, and as many of them as are wanted
  pub past_have : (P : A → Type 0) (after most : ℕ) (xs : List A) → AllByRecursion P xs → AllByRecursion P (take most (past key after xs))
  past_have P after most xs all = taken most (past key after xs) (all_ordered key P (filter (λ a. nat_lt after (key a)) xs) (kept_have P (λ a. nat_lt after (key a)) xs all))
    where
      taken : (n : ℕ) (ys : List A) → AllByRecursion P ys → AllByRecursion P (take n ys)
      taken zero ys each = tt
      taken (suc n) [] each = tt
      taken (suc n) (y ∷ ys) each = (each.0, taken n ys each.1)

-- in the order of serial numbers
serial_key : (a b : ℕ) → IsSerial a → IsSerial b → key_cmp 0 (ascending_key ∷ []) (serial_value a ∷ []) (serial_value b ∷ []) ≡ nat_cmp a b
serial_key a b in_a in_b = then-Equal _ ∙ value_cmp-Blob (serial_bytes a) (serial_bytes b) ∙ serial_order a b in_a in_b

serials_ascend : {A : Type 0} (serial : A → ℕ) (xs : List A) → AllByRecursion (λ a. IsSerial (serial a)) xs → IsSorted (λ a b. key_cmp 0 (ascending_key ∷ []) (serial_value (serial a) ∷ []) (serial_value (serial b) ∷ [])) xs → IsNonDecreasingBy serial xs
serials_ascend serial xs all sorted =
    IsNonDecreasingBy-from_sort serial xs (λ k d low high.
    sym (ap is_lt (serial_key (serial (get_or xs (k + 1) d)) (serial (get_or xs k d)) (All-from_recursion (λ a. IsSerial (serial a)) xs all (k + 1) d high) (All-from_recursion (λ a. IsSerial (serial a)) xs all k d (omega arith)))) ∙ sorted k d low high)

-- ---- a table whose key is a serial number

abbrev past_serial : List Term
past_serial = op2 (Compare Gt Binary) (col 1 1) (col 0 0) ∷ []

abbrev by_serial : List (Term × Key)
by_serial = (col 1 1, ascending_key) ∷ []

-- the second parameter
abbrev pub as_many : Term
as_many = col 0 1

module _ {A : Type 0} (serial : A → ℕ) (stored view : A → Row) (xs : List A) (serials : AllByRecursion (λ a. IsSerial (serial a)) xs) (tree : ℕ) (project : List Term) (text : List ℕ) (names : List (List ℕ))
    (means : command_of (understood register_schema text) ≡ as_command (selects tree past_serial project by_serial as_many) names) (db : Database) (plain : overlay db.trees [] tree ≡ db.trees tree) (table : db.trees tree ≡ counted_rows (map stored xs))
    (after most : ℕ) (rows : List Row) (reads : Reads (command_of (understood register_schema text)) db (serial_value after ∷ number most ∷ []) rows) where
  -- the first rows past a serial number, in the order of serial numbers
  page_shown : ((id : ℕ) (a : A) → IsSerial (serial a) → passes past_serial (serial_value after ∷ number most ∷ []) (number id ∷ stored a) ≡ nat_lt after (serial a))
      → ((id : ℕ) (a : A) → shows (selects tree past_serial project by_serial as_many) (serial_value after ∷ number most ∷ []) (number id ∷ stored a) ≡ (serial_value (serial a) ∷ [], view a))
      → KeysDiffer serial xs → rows ≡ map view (take most (past serial after xs))
  page_shown tests views differ =
      let P : A → Type 0 = λ a. IsSerial (serial a) in
      let is_past : A → Bool = λ a. nat_lt after (serial a) in
      let given =
      counted_given P stored is_past (λ a. (serial_value (serial a) ∷ [], view a)) xs serials tree past_serial project by_serial as_many (serial_value after ∷ number most ∷ []) text names means db plain rows reads table tests views in
      let all = recursion_from_All P given.to (All-permutation P (filter is_past xs) given.to given.same (All-from_recursion P (filter is_past xs) (kept_have P is_past xs serials))) in
      let are = past_given serial after xs given.to differ given.same (serials_ascend serial given.to all given.sorted) in
      given.shown ∙ take-map view most given.to ∙ ap (λ l. map view (take most l)) are

-- ---- certificates

abbrev pub cert_columns : List Term
cert_columns = col 1 1 ∷ col 1 2 ∷ col 1 3 ∷ col 1 4 ∷ []

abbrev pub cert_names : List (List ℕ)
cert_names = codes "serial" ∷ codes "order_id" ∷ codes "not_before" ∷ codes "not_after" ∷ []

pub certs_text : IsSelect CERTS_AFTER.now (selects 4 past_serial cert_columns by_serial as_many) cert_names (λ (it : ℕ × ℕ). serial_value it.0 ∷ number it.1 ∷ [])
unfolding understood everything register_schema first
certs_text =
    select CERTS_AFTER.now 4 past_serial cert_columns by_serial as_many cert_names (λ (it : ℕ × ℕ). serial_value it.0 ∷ number it.1 ∷ []) refl (refl, refl) refl (select_never CERTS_AFTER.now _ _ refl refl refl) (λ it. (omega arith, refl)) (λ it. refl)

module _ (db : Database) (records : Records) (shown : IsShownBy db records) (after most : ℕ) (low : after < 2 ^ 159) (rows : List Row)
    (reads : Reads (command_of (understood register_schema CERTS_AFTER.now)) db (serial_value after ∷ number most ∷ []) rows) where
  pub certs_shown : KeysDiffer (λ (row : CertRow). row.serial) records.certificates → rows ≡ map shown_certificate (take most (past (λ (row : CertRow). row.serial) after records.certificates))
  certs_shown =
      page_shown (λ row. row.serial) stored_certificate shown_certificate records.certificates shown.rows.certificate_serials 4 cert_columns CERTS_AFTER.now cert_names certs_text.means db refl shown.rows.certificates after most rows reads
      (λ id row read_row. and_true _ ∙ gt_serial row.serial after read_row low) (λ id row. refl)

  pub certs_serials : AllByRecursion (λ (row : CertRow). IsSerial row.serial) (take most (past (λ (row : CertRow). row.serial) after records.certificates))
  certs_serials = past_have (λ (row : CertRow). row.serial) (λ (row : CertRow). IsSerial row.serial) after most records.certificates shown.rows.certificate_serials

-- ---- revocations

abbrev pub revocation_columns : List Term
revocation_columns = col 1 1 ∷ col 1 2 ∷ col 1 3 ∷ col 1 4 ∷ col 1 5 ∷ []

abbrev pub revocation_names : List (List ℕ)
revocation_names = codes "serial" ∷ codes "at" ∷ codes "reason" ∷ codes "request" ∷ codes "first_crl" ∷ []

pub revocations_text : IsSelect REVOCATIONS_AFTER.now (selects 8 past_serial revocation_columns by_serial as_many) revocation_names (λ (it : ℕ × ℕ). serial_value it.0 ∷ number it.1 ∷ [])
unfolding understood everything register_schema first
revocations_text =
    select REVOCATIONS_AFTER.now 8 past_serial revocation_columns by_serial as_many revocation_names (λ (it : ℕ × ℕ). serial_value it.0 ∷ number it.1 ∷ []) refl (refl, refl) refl (select_never REVOCATIONS_AFTER.now _ _ refl refl refl) (λ it. (omega arith, refl)) (λ it. refl)

module _ (db : Database) (records : Records) (shown : IsShownBy db records) (after most : ℕ) (low : after < 2 ^ 159) (rows : List Row)
    (reads : Reads (command_of (understood register_schema REVOCATIONS_AFTER.now)) db (serial_value after ∷ number most ∷ []) rows) where
  pub revocations_shown : KeysDiffer (λ (row : RevocationRow). row.serial) records.revocations → rows ≡ map shown_revocation (take most (past (λ (row : RevocationRow). row.serial) after records.revocations))
  revocations_shown =
      page_shown (λ row. row.serial) stored_revocation shown_revocation records.revocations shown.rows.revocation_serials 8 revocation_columns REVOCATIONS_AFTER.now revocation_names revocations_text.means db refl shown.rows.revocations after most rows reads
      (λ id row read_row. and_true _ ∙ gt_serial row.serial after read_row low) (λ id row. refl)

  pub revocations_serials : AllByRecursion (λ (row : RevocationRow). IsSerial row.serial) (take most (past (λ (row : RevocationRow). row.serial) after records.revocations))
  revocations_serials = past_have (λ (row : RevocationRow). row.serial) (λ (row : RevocationRow). IsSerial row.serial) after most records.revocations shown.rows.revocation_serials

-- ---- CRLs

abbrev pub past_number : List Term
past_number = op2 (Compare Gt Binary) (col 1 0) (col 0 0) ∷ []

abbrev pub by_number : List (Term × Key)
by_number = (col 1 0, ascending_key) ∷ []

crls_text : IsSelect CRLS_AFTER.now (selects 11 past_number (col 1 0 ∷ col 1 2 ∷ []) by_number as_many) (codes "number" ∷ codes "this_update" ∷ []) (λ (it : ℕ × ℕ). number it.0 ∷ number it.1 ∷ [])
unfolding understood everything register_schema first
crls_text =
    select CRLS_AFTER.now 11 past_number (col 1 0 ∷ col 1 2 ∷ []) by_number as_many (codes "number" ∷ codes "this_update" ∷ []) (λ (it : ℕ × ℕ). number it.0 ∷ number it.1 ∷ []) refl (refl, refl) refl (select_never CRLS_AFTER.now _ _ refl refl refl) (λ it. (omega arith, refl)) (λ it. refl)

abbrev pub crl_out : Crl → Output
crl_out crl = (number crl.number ∷ [], shown_crl (row_of crl))

map-twice : {A B C : Type 0} (f : B → C) (g : A → B) (xs : List A) → map (λ x. f (g x)) xs ≡ map f (map g xs)
map-twice f g [] = refl
map-twice f g (x ∷ xs) = ap (λ l. f (g x) ∷ l) (map-twice f g xs)

module _ (db : Database) (records : Records) (shown : IsShownBy db records) (after most : ℕ) (rows : List Row)
    (reads : Reads (command_of (understood register_schema CRLS_AFTER.now)) db (number after ∷ number most ∷ []) rows) where
  abbrev is_later : Crl → Bool
  is_later crl = nat_lt after crl.number

  crls_given : Given is_later crl_out records.crls (selects 11 past_number (col 1 0 ∷ col 1 2 ∷ []) by_number as_many) (number after ∷ number most ∷ []) rows
  crls_given =
      keyed_given (λ _. Unit {0}) stored_crl is_later crl_out records.crls (all_of (λ _. Unit {0}) (λ _. tt) records.crls) 11 past_number (col 1 0 ∷ col 1 2 ∷ []) by_number as_many (number after ∷ number most ∷ []) CRLS_AFTER.now
      (codes "number" ∷ codes "this_update" ∷ []) crls_text.means db refl rows reads shown.rows.crls (λ crl any. and_true _ ∙ gt_number crl.number after) (λ crl. refl)

  crls_are : crls_given.to ≡ past (λ (crl : Crl). crl.number) after records.crls
  crls_are =
      let n : Crl → ℕ = λ crl. crl.number in
      past_given n after records.crls crls_given.to (numbers_differ n 1 records.crls shown.rows.crls_numbered) crls_given.same (ascends n crls_given.to crls_given.sorted)

  crls_shown : rows ≡ map shown_crl (map row_of (take most (past (λ (crl : Crl). crl.number) after records.crls)))
  crls_shown =
      crls_given.shown ∙ take-map (λ (crl : Crl). shown_crl (row_of crl)) most crls_given.to ∙ ap (λ l. map (λ (crl : Crl). shown_crl (row_of crl)) (take most l)) crls_are
      ∙ map-twice shown_crl row_of (take most (past (λ (crl : Crl). crl.number) after records.crls))

pub crls_page : ReadsPage (λ (crl : CrlRow). Unit {0}) (λ (crl : CrlRow). crl.this_update < clock_end) shown_crl (λ records after most. map row_of (take most (past (λ (crl : Crl). crl.number) after records.crls))) CRLS_AFTER.now
crls_page = record {
  reading = crls_text.reading;
  asked = λ after most. crls_text.asked (after, most);
  rows = λ records db shown. crls_shown db records shown;
  serials = λ records db shown after most. all_of (λ (crl : CrlRow). Unit {0}) (λ crl. tt) (map row_of (take most (past (λ (crl : Crl). crl.number) after records.crls)));
  values = λ records sound values after most.
      all_map (λ (crl : CrlRow). crl.this_update < clock_end) row_of (take most (past (λ (crl : Crl). crl.number) after records.crls))
      (past_have (λ (crl : Crl). crl.number) (λ (crl : Crl). crl.this_update < clock_end) after most records.crls (updated_early records sound));
}
