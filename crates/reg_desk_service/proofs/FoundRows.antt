-- Rows that are looked up by their keys in pages of lists.
use Rattle.std.proofs.Common.{◌≡◌, ◌≢◌, ◌≤◌, ◌<◌, ◌+◌, ◌-◌, ◌==◌, ℕ, zero, suc, Bool, true, false, cond, List, [], ◌∷◌, ◌++◌, take, drop, Option, None, Some, refl, sym, ap, subst, ◌∙◌, arith, inl, inr}
use Rattle.std.specs.Prelude.{IsSome, IsSomeAnd, bytes_eq, filter_map, nat_lt, option_and_then, option_map, slice_get}
use Rattle.std.specs.List.{AllByRecursion, cons_option, filter, find}
use Rattle.std.proofs.lemmas.Bool.{cases_Bool}
use Rattle.std.proofs.lemmas.Bool.Decides.{nat_tests}
use Rattle.reg_core.specs.Due.{deadline}
use Rattle.reg_core.specs.Records.{Records, certificate_in, order_in, request_in, subscriber_in, subscriber_named}
use Rattle.reg_core.specs.Sound.{KeysDiffer, NumberedFrom, SoundRows}
use Rattle.reg_core.specs.declared.rows.CertRow.{CertRow}
use Rattle.reg_core.specs.declared.rows.OrderRow.{OrderRow}
use Rattle.reg_core.specs.declared.rows.RequestRow.{RequestRow}
use Rattle.reg_core.specs.declared.rows.SubscriberRow.{SubscriberRow}
use Rattle.reg_core.specs.AscendingRows.{in_order, key_of, past, insert_by_key}
use Rattle.reg_core_lists.specs.Lists.{listed_certificate, certificate_row, history_row, page, listed_request, rows_from, subscriber_of_order, subscriber_row}
use Rattle.reg_core_lists.specs.declared.cursor.Cursor.TheVariants as cursor
use Rattle.reg_core_lists.specs.declared.rows.ListedCertificate.{ListedCertificate}
use Rattle.reg_core_lists.specs.declared.rows.RequestWithState.{RequestWithState}
use Rattle.reg_core_lists.specs.declared.rows.ListedRequest.{ListedRequest}
use Rattle.reg_core_lists.specs.declared.rows.Row.{Row}
use Rattle.reg_core_lists.specs.declared.rows.Row.TheVariants as kind
use Rattle.reg_core.proofs.PublicLaws.{Rises, all_ordered, numbers_differ, order_filter, order_rises, past_drop}
use Rattle.reg_desk_service.specs.SerialDecisions.{request_of_row}
use Rattle.reg_desk_service.specs.RowLookUps.{has_key, row_with_key}
use Rattle.reg_desk_service.specs.declared.words.RowKey.TheVariants.{Request, Certificate, Subscriber}

-- ---- the first row behind the key before one

module _ {A : Type 0} (key : A → ℕ) (k : ℕ) where
  abbrev has : A → Bool
  has a = key a == k

  -- the first row, where it has the key
  abbrev first_with : List A → Option A
  first_with [] = None
  first_with (x ∷ xs) = cond (has x) (Some x) None

  none_above : (low : ℕ) (xs : List A) → AllByRecursion (λ a. low < key a) xs → k ≤ low → find has xs ≡ None
  none_above low [] above less = refl
  none_above low (x ∷ xs) above less = grind (arith, nat_tests, above.0, none_above low xs above.1 less)

  -- of rows that rise, the first behind the key before is the one with the key, if one is
  rising_first : (xs : List A) → Rises key xs → 1 ≤ k → first_with (filter (λ a. nat_lt (k - 1) (key a)) xs) ≡ find has xs
  rising_first [] rises more = refl
  rising_first (x ∷ xs) rises more = grind (arith, nat_tests, later, rising_first xs rises.1 more)
    where
      later : k < key x → find has xs ≡ None
      later less = none_above (key x) xs rises.0 (omega arith)

  put_found : (x : A) (xs : List A) → AllByRecursion (λ a. key x ≢ key a) xs → find has (insert_by_key key x xs) ≡ cond (has x) (Some x) (find has xs)
  put_found x [] apart = refl
  put_found x (y ∷ xs) apart = grind (arith, nat_tests, apart.0, put_found x xs apart.1)

  -- the order of rows is no matter
  order_found : (xs : List A) → KeysDiffer key xs → find has (in_order key xs) ≡ find has xs
  order_found [] differ = refl
  order_found (x ∷ xs) differ =
      put_found x (in_order key xs) (all_ordered key (λ a. key x ≢ key a) xs differ.0) ∙ ap (cond (has x) (Some x)) (order_found xs differ.1)

  first_past : (xs : List A) → KeysDiffer key xs → 1 ≤ k → first_with (past key (k - 1) xs) ≡ find has xs
  first_past xs differ more =
      ap first_with (order_filter key (λ a. nat_lt (k - 1) (key a)) xs differ)
      ∙ rising_first (in_order key xs) (order_rises key xs differ) more ∙ order_found xs differ

  none_numbered : (from : ℕ) (xs : List A) → NumberedFrom key from xs → k < from → find has xs ≡ None
  none_numbered from [] numbered less = refl
  none_numbered from (x ∷ xs) numbered less = grind (arith, nat_tests, numbered.0, none_numbered (from + 1) xs numbered.1 (omega arith))

  first_none : (xs : List A) → find has xs ≡ None → first_with xs ≡ None
  first_none [] is = refl
  first_none (x ∷ xs) is = grind arith

  numbered_first : (xs : List A) → NumberedFrom key 1 xs → first_with (past key (k - 1) xs) ≡ find has xs
  numbered_first xs numbered = elim (cases_Bool (nat_lt 0 k)) [
    | inl more ↦ first_past xs (numbers_differ key 1 xs numbered) (grind (arith, nat_tests))
    | inr less ↦
        let zero_is : k ≡ 0 = grind (arith, nat_tests) in
        let here : past key (k - 1) xs ≡ xs = past_drop key (k - 1) xs numbered ∙ ap (λ n. drop (n - 1) xs) zero_is in
        let lacks : find has xs ≡ None = none_numbered 1 xs numbered (omega (arith, zero_is)) in
        ap first_with here ∙ first_none xs lacks ∙ sym lacks
  ]

-- ---- as a row of its list

module _ {A : Type 0} (key : A → ℕ) (k : ℕ) (row_for : A → Option Row) (p : Row → Bool)
    (fits : (a : A) (row : Row) → row_for a ≡ Some row → p row ≡ has key k a) where
  lost : (a : A) (b : Bool) → row_for a ≡ None → None ≡ option_and_then row_for (cond b (Some a) None)
  lost a true is = sym is
  lost a false is = refl

  kept : (a : A) (row : Row) (b : Bool) → row_for a ≡ Some row → cond b (Some row) None ≡ option_and_then row_for (cond b (Some a) None)
  kept a row true is = sym is
  kept a row false is = refl

  one_row : (a : A) (made : Option Row) → row_for a ≡ made → find p (cons_option made []) ≡ option_and_then row_for (cond (has key k a) (Some a) None)
  one_row a None is = lost a (has key k a) is
  one_row a (Some row) is = ap (λ b. cond b (Some row) None) (fits a row is) ∙ kept a row (has key k a) is

  -- a page of one row
  one_seen : (xs : List A) → find p (filter_map row_for (take 1 xs)) ≡ option_and_then row_for (first_with key k xs)
  one_seen [] = refl
  one_seen (x ∷ xs) = one_row x (row_for x) refl

-- ---- requests and certificates

abbrev line_with : RequestRow → CertRow → SubscriberRow → ListedRequest
line_with r c s = record { request = r; due = deadline r; certificate = c; subscriber = s }

line_owned : (r : RequestRow) (c : CertRow) (owner : Option SubscriberRow) (line : ListedRequest) → option_map (line_with r c) owner ≡ Some line → line.request ≡ r
line_owned r c None line is = absurd (cc)
line_owned r c (Some s) line is =
    let same : line_with r c s ≡ line = cc in
    sym (ap (λ (it : ListedRequest). it.request) same)

line_found : (r : RequestRow) (found : Option CertRow) (owner : CertRow → Option SubscriberRow) (line : ListedRequest)
    → option_and_then (λ c. option_map (line_with r c) (owner c)) found ≡ Some line → line.request ≡ r
line_found r None owner line is = absurd (cc)
line_found r (Some c) owner line is = line_owned r c (owner c) line is

owned_line : (c : CertRow) (owner : Option SubscriberRow) (make : SubscriberRow → ListedCertificate) → ((s : SubscriberRow) → (make s).certificate ≡ c)
    → (line : ListedCertificate) → option_map make owner ≡ Some line → line.certificate ≡ c
owned_line c None make has_it line is = absurd (cc)
owned_line c (Some s) make has_it line is =
    let same : make s ≡ line = cc in
    sym (ap (λ (it : ListedCertificate). it.certificate) same) ∙ has_it s

module _ (records : Records) (now : ℕ) where
  history_fits : (id : ℕ) (r : RequestRow) (line : Option ListedRequest) (make : ListedRequest → RequestWithState) → ((it : ListedRequest) → (make it).request ≡ it)
      → ((it : ListedRequest) → line ≡ Some it → it.request ≡ r) → (row : Row)
      → option_map (λ h. kind.AnyRequest h) (option_map make line) ≡ Some row → has_key (Request id) row ≡ (r.id == id)
  history_fits id r None make has_it is row made = absurd (cc)
  history_fits id r (Some line) make has_it is row made =
      let same : kind.AnyRequest (make line) ≡ row = cc in
      sym (ap (has_key (Request id)) same) ∙ ap (λ (it : ListedRequest). it.request.id == id) (has_it line) ∙ ap (λ (it : RequestRow). it.id == id) (is line refl)

  certificate_fits : (serial : ℕ) (c : CertRow) (line : Option ListedCertificate) → ((it : ListedCertificate) → line ≡ Some it → it.certificate ≡ c)
      → (row : Row) → option_map (λ it. kind.Certificate it) line ≡ Some row → has_key (Certificate serial) row ≡ (c.serial == serial)
  certificate_fits serial c None is row made = absurd (cc)
  certificate_fits serial c (Some line) is row made =
      let same : kind.Certificate line ≡ row = cc in
      sym (ap (has_key (Certificate serial)) same) ∙ ap (λ (it : CertRow). it.serial == serial) (is line refl)

  request_line_is : (r : RequestRow) (line : ListedRequest) → listed_request records r ≡ Some line → line.request ≡ r
  request_line_is r line is =
      line_found r (certificate_in records.certificates r.serial) (λ c. subscriber_of_order records c.order) line is

  -- a request is the first row behind the number before its own
  pub request_seen : SoundRows records → (id : ℕ)
      → find (has_key (Request id)) (page records now 1 (cursor.Requests (id - 1))).rows ≡ row_with_key records now (Request id)
  request_seen sound id =
      one_seen (λ (r : RequestRow). r.id) id (history_row records now) (has_key (Request id))
      (λ r row is. history_fits id r (listed_request records r) _ (λ it. refl) (request_line_is r) row is)
      (past (λ (r : RequestRow). r.id) (id - 1) records.requests)
      ∙ ap (option_and_then (history_row records now)) (numbered_first (λ (r : RequestRow). r.id) id records.requests sound.requests.numbered)

  -- and a certificate behind the serial number before its own
  pub certificate_seen : SoundRows records → (serial : ℕ) (after : Option ℕ) → 1 ≤ serial → key_of after ≡ serial - 1
      → find (has_key (Certificate serial)) (page records now 1 (cursor.Certificates after)).rows ≡ row_with_key records now (Certificate serial)
  certificate_seen sound serial after more is =
      one_seen (λ (c : CertRow). c.serial) serial (certificate_row records now) (has_key (Certificate serial))
      (λ c row made. certificate_fits serial c (listed_certificate records now c)
      (λ line made_of. owned_line c (subscriber_of_order records c.order) _ (λ s. refl) line made_of) row made)
      (past (λ (c : CertRow). c.serial) (key_of after) records.certificates)
      ∙ ap (option_and_then (certificate_row records now))
      (ap (λ n. first_with (λ (c : CertRow). c.serial) serial (past (λ (c : CertRow). c.serial) n records.certificates)) is
      ∙ first_past (λ (c : CertRow). c.serial) serial records.certificates sound.certificates.serials_differ more)

-- ---- what is there

found_passes : {A : Type 0} (P : A → Type 0) (q : A → Bool) (xs : List A) (x : A) → AllByRecursion P xs → find q xs ≡ Some x → P x
found_passes P q [] x all is = absurd (cc)
found_passes P q (y ∷ ys) x all is = elim (cases_Bool (q y)) [
  | inl passes ↦
      let same : y ≡ x = grind arith in
      subst P same all.0
  | inr other ↦
      let rest : find q ys ≡ Some x = grind arith in
      found_passes P q ys x all.1 rest
]

some_is : {A : Type 0} (found : Option A) → IsSome found → (a : A) × (found ≡ Some a)
some_is None is = absurd (cc)
some_is (Some a) is = (a, refl)

module _ (records : Records) (now : ℕ) (sound : SoundRows records) where
  -- a request has its certificate, and that its subscriber
  line_there : (r : RequestRow) (id : ℕ) → request_in records.requests id ≡ Some r → (line : ListedRequest) × (listed_request records r ≡ Some line)
  line_there r id is =
      let c = some_is (certificate_in records.certificates r.serial)
      (found_passes _ (λ (it : RequestRow). it.id == id) records.requests r sound.requests.certificates_exist is) in
      let o = some_is (order_in records.orders c.0.order)
      (found_passes _ (λ (it : CertRow). it.serial == r.serial) records.certificates c.0 sound.certificates.orders_exist c.1) in
      let s = some_is (subscriber_in records.subscribers o.0.subscriber)
      (found_passes _ (λ (it : OrderRow). it.id == c.0.order) records.orders o.0 sound.orders.subscribers_exist o.1) in
      let owner : subscriber_of_order records c.0.order ≡ Some s.0 = ap (option_and_then (λ (it : OrderRow). subscriber_in records.subscribers it.subscriber)) o.1 ∙ s.1 in
      let held : listed_request records r ≡ option_map (line_with r c.0) (subscriber_of_order records c.0.order) =
      ap (option_and_then (λ (it : CertRow). option_map (line_with r it) (subscriber_of_order records it.order))) c.1 in
      let owned : option_map (line_with r c.0) (subscriber_of_order records c.0.order) ≡ Some (line_with r c.0 s.0) = ap (option_map (line_with r c.0)) owner in
      (line_with r c.0 s.0, held ∙ owned)

  of_line : (r : RequestRow) (line : Option ListedRequest) (make : ListedRequest → RequestWithState) → ((it : ListedRequest) → (make it).request ≡ it)
      → (it : ListedRequest) → line ≡ Some it → it.request ≡ r → request_of_row (option_map (λ h. kind.AnyRequest h) (option_map make line)) ≡ Some r
  of_line r None make has_it it is same = absurd (cc)
  of_line r (Some line) make has_it it is same =
      let one : line ≡ it = cc in
      ap (λ (x : ListedRequest). Some x.request) (has_it line ∙ one) ∙ ap (λ (x : RequestRow). Some x) same

  back : (id : ℕ) (found : Option RequestRow) → request_in records.requests id ≡ found → request_of_row (option_and_then (history_row records now) found) ≡ found
  back id None is = refl
  back id (Some r) is =
      let line = line_there r id is in
      of_line r (listed_request records r) _ (λ it. refl) line.0 line.1 (request_line_is records now r line.0 line.1)

  -- the request of a row that was looked up by its number
  pub request_back : (id : ℕ) → request_of_row (row_with_key records now (Request id)) ≡ request_in records.requests id
  request_back id = back id (request_in records.requests id) refl

-- ---- subscribers

named_rows : (name : List ℕ) (xs : List SubscriberRow)
    → find (has_key (Subscriber name)) (filter_map subscriber_row xs) ≡ option_map (λ row. kind.Subscriber row) (subscriber_named xs name)
named_rows name [] = refl
named_rows name (x ∷ xs) = named_case (bytes_eq x.name name) x _ _ (named_rows name xs)
  where
    named_case : (b : Bool) (x : SubscriberRow) (rows : Option Row) (found : Option SubscriberRow) → rows ≡ option_map (λ row. kind.Subscriber row) found
        → cond b (Some (kind.Subscriber x)) rows ≡ option_map (λ row. kind.Subscriber row) (cond b (Some x) found)
    named_case true x rows found same = refl
    named_case false x rows found same = same

find_behind : {A : Type 0} (q : A → Bool) (xs ys : List A) → find q xs ≡ None → find q (xs ++ ys) ≡ find q ys
find_behind q [] ys is = refl
find_behind q (x ∷ xs) ys is = elim (cases_Bool (q x)) [
  | inl passes ↦ absurd (grind arith)
  | inr other ↦
      let rest : find q xs ≡ None = grind arith in
      let more = find_behind q xs ys rest in
      grind arith
]

find_before : {A : Type 0} (q : A → Bool) (xs ys : List A) (x : A) → find q xs ≡ Some x → find q (xs ++ ys) ≡ Some x
find_before q [] ys x is = absurd (cc)
find_before q (y ∷ xs) ys x is = elim (cases_Bool (q y)) [
  | inl passes ↦ grind arith
  | inr other ↦
      let rest : find q xs ≡ Some x = grind arith in
      let more = find_before q xs ys x rest in
      grind arith
]

module _ (records : Records) (now : ℕ) (sound : SoundRows records) (name : List ℕ) where
  list_named : find (has_key (Subscriber name)) (rows_from records now (cursor.Subscribers 0)) ≡ row_with_key records now (Subscriber name)
  list_named =
      ap (λ xs. find (has_key (Subscriber name)) (filter_map subscriber_row xs)) (past_drop (λ (row : SubscriberRow). row.id) 0 records.subscribers sound.subscribers.numbered)
      ∙ named_rows name records.subscribers

  -- behind rows of other names
  pub named_here : (passed rows rest : List Row) (row : Row) → rows_from records now (cursor.Subscribers 0) ≡ passed ++ rows ++ rest
      → find (has_key (Subscriber name)) passed ≡ None → find (has_key (Subscriber name)) rows ≡ Some row → Some row ≡ row_with_key records now (Subscriber name)
  named_here passed rows rest row are none is =
      let p = has_key (Subscriber name) in
      let found : find p (passed ++ rows ++ rest) ≡ Some row = find_before p (passed ++ rows) rest row (find_behind p passed rows none ∙ is) in
      sym found ∙ sym (ap (find p) are) ∙ list_named

  -- or nowhere
  pub named_nowhere : (passed : List Row) → rows_from records now (cursor.Subscribers 0) ≡ passed → find (has_key (Subscriber name)) passed ≡ None
      → None ≡ row_with_key records now (Subscriber name)
  named_nowhere passed are none = sym none ∙ sym (ap (find (has_key (Subscriber name))) are) ∙ list_named

-- rows of other names, and more of them
pub none_more : (q : Row → Bool) (passed rows : List Row) → find q passed ≡ None → find q rows ≡ None → find q (passed ++ rows) ≡ None
none_more q passed rows none more = find_behind q passed rows none ∙ more

-- ---- the first that passes, one element after the other

pub found_now : {A : Type 0} (q : A → Bool) (xs : List A) (i : ℕ) (x : A) → find q (take i xs) ≡ None → slice_get xs i ≡ Some x → q x ≡ true
    → Some x ≡ find q xs
found_now q [] i x none at is = absurd (cc)
found_now q (y ∷ ys) zero x none at is =
    let same : y ≡ x = cc in
    let passes : q y ≡ true = ap q same ∙ is in
    sym (ap (λ b. cond b (Some y) (find q ys)) passes ∙ ap (λ it. Some it) same)
found_now q (y ∷ ys) (suc i) x none at is = elim (cases_Bool (q y)) [
  | inl passes ↦ absurd (grind arith)
  | inr other ↦
      let rest : find q (take i ys) ≡ None = grind arith in
      let more = found_now q ys i x rest at is in
      grind arith
]

pub not_now : {A : Type 0} (q : A → Bool) (xs : List A) (i : ℕ) (x : A) → find q (take i xs) ≡ None → slice_get xs i ≡ Some x → q x ≡ false
    → find q (take (suc i) xs) ≡ None
not_now q [] i x none at is = absurd (cc)
not_now q (y ∷ ys) zero x none at is =
    let same : y ≡ x = cc in
    ap (λ b. cond b (Some y) None) (ap q same ∙ is)
not_now q (y ∷ ys) (suc i) x none at is = elim (cases_Bool (q y)) [
  | inl passes ↦ absurd (grind arith)
  | inr other ↦
      let rest : find q (take i ys) ≡ None = grind arith in
      let more = not_now q ys i x rest at is in
      grind arith
]
