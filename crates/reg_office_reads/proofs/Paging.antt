-- Pages of lists, row by row.
use Rattle.std.proofs.Common.{◌≡◌, ◌≤◌, ◌<◌, ◌+◌, ◌-◌, ◌==◌, ℕ, zero, suc, Bool, true, false, ◌&&◌, cond, List, [], ◌∷◌, ◌++◌, length, length-drop, map, take, drop, get_or, Option, None, Some, Result, Ok, Err, refl, sym, ap, ◌∙◌, arith, inl, inr}
use Rattle.std.specs.Prelude.{IfErr, filter_map, min, nat_lt, option_and_then, option_map, slice_get}
use Rattle.std.specs.List.{AllByRecursion, cons_option, find}
use Rattle.std.proofs.lemmas.Bool.{cases_Bool, cases_order, le-ltb, lt-ltb, ltb-true, ltb-false}
use Rattle.std.proofs.lemmas.Option.{slice_get-map}
use Rattle.std.proofs.lemmas.List.{length-take-le, take_all, take_more}
use Rattle.reg_core.specs.Checks.{clock_checks, first_refusal}
use Rattle.reg_core.specs.Crls.{row_of}
use Rattle.reg_core.specs.Records.{Records, Crl}
use Rattle.reg_core.specs.Sound.{NumberedFrom, SoundRows}
use Rattle.reg_core.specs.declared.rows.CrlRow.{CrlRow}
use Rattle.reg_core.specs.declared.rows.OrderRow.{OrderRow}
use Rattle.reg_core.specs.declared.rows.RequestRow.{RequestRow}
use Rattle.reg_core.specs.declared.rows.SubscriberRow.{SubscriberRow}
use Rattle.reg_core.specs.declared.refusal.Fault.{Fault}
use Rattle.reg_core.specs.declared.refusal.Fault.TheVariants.{Refused, Memory, Store, Signer, Read, Write}
use Rattle.reg_core.specs.declared.rows.CertRow.{CertRow}
use Rattle.reg_core.specs.AscendingRows.{key_of, past}
use Rattle.reg_core_lists.specs.Lists.{certificate_row, crl_row, expiring_row, history_row, next_cursor, open_row, order_row, overdue_row, page, page_over, subscriber_row}
use Rattle.reg_core_lists.specs.Pages.{IsPage, IsPaged}
use Rattle.reg_core_lists.specs.declared.cursor.Cursor.{Cursor}
use Rattle.reg_core_lists.specs.declared.cursor.Cursor.TheVariants.{Crls}
use Rattle.reg_core_lists.specs.declared.cursor.Cursor.TheVariants as cursor
use Rattle.reg_core_lists.specs.declared.rows.Page.{Page}
use Rattle.reg_core_lists.specs.declared.rows.Row.{Row}
use Rattle.reg_core_lists.specs.declared.rows.Row.TheVariants.{Crl as OfCrl}
use Rattle.reg_core.proofs.PublicLaws.{dropped_numbered, find_self, looked_up, numbers, past_drop, numbers_differ}
use Rattle.reg_store_tables.specs.Tables.{rows_of}
use Rattle.reg_store_tables.proofs.PublicLaws.{mapped}
use Rattle.reg_office_reads.specs.Faults.{IsTableFault}
use Rattle.reg_office_reads.specs.Looking.{IsDecidedOr}
use Rattle.reg_office_reads.specs.ListById.{certificate_listed, certificates_after, cursor_of, row_at, numbered_table}
use Rattle.reg_office_reads.specs.declared.pages.ListById.{ListById}
use Rattle.reg_office_reads.specs.declared.pages.ListById.TheVariants.{OpenRequests, Overdue, Requests, Subscribers, Orders}

split_end : {A B : Type 0} (f : A → Option B) (xs : List A) (x : A) → filter_map f (xs ++ x ∷ []) ≡ filter_map f xs ++ filter_map f (x ∷ [])
split_end f [] x = refl
split_end f (y ∷ ys) x = cons_end (f y) (filter_map f (ys ++ x ∷ [])) (filter_map f ys) (filter_map f (x ∷ [])) (split_end f ys x)
  where
    cons_end : {B : Type 0} (o : Option B) (all front behind : List B) → all ≡ front ++ behind → cons_option o all ≡ cons_option o front ++ behind
    cons_end None all front behind same = same
    cons_end (Some b) all front behind same = ap (λ l. b ∷ l) same

-- one row more is looked at
pub row_more : {A B : Type 0} (f : A → Option B) (xs : List A) (i : ℕ) (x : A) (row : Option B) (done new : List B) → i < length xs → x ≡ get_or xs i x → row ≡ f x
    → done ≡ filter_map f (take i xs) → new ≡ done ++ filter_map (λ one. one) (row ∷ []) → new ≡ filter_map f (take (i + 1) xs)
row_more f xs i x row done new within is row_is was now =
    now ∙ (λ j. was j ++ filter_map (λ one. one) (row_is j ∷ []))
    ∙ sym (split_end f (take i xs) x) ∙ ap (filter_map f) (sym (take_more xs i x within ∙ ap (λ y. take i xs ++ y ∷ []) (sym is)))

-- a page that the clock lets be told, or its refusal, or a fault of the store
pub paged : (records : Records) (now most : ℕ) (from : Cursor) (result : Result Page Fault) → IfErr result IsTableFault
    → IsDecidedOr (first_refusal (clock_checks now records.last)) (λ given. (first_refusal (clock_checks now records.last) ≡ None) × IsPage records now most from given) result
    → IsPaged records now most from result
paged records now most from (Ok given) is it = it
paged records now most from (Err (Refused why)) is it = it
paged records now most from (Err Memory) is it = tt
paged records now most from (Err Store) is it = tt
paged records now most from (Err Signer) is it = absurd is
paged records now most from (Err Read) is it = absurd is
paged records now most from (Err Write) is it = absurd is

-- ---- where the next page goes on

mapped_cond : {A B : Type 0} (f : A → B) (b : Bool) (o : Option A) → option_map f (cond b o None) ≡ cond b (option_map f o) None
mapped_cond f true o = refl
mapped_cond f false o = refl

-- behind the key of the last row, where as many were looked at as a page may look at
pub next_same : {A : Type 0} (key : A → ℕ) (at : ℕ → Cursor) (most : ℕ) (found : List A) (last : Option ℕ) (next : Option Cursor)
    → last ≡ cond (length found == most) (option_map key (slice_get found (length found - 1))) None → next ≡ option_map at last → next ≡ next_cursor at most (map key found)
next_same key at most found last next is next_is =
    let size = mapped key found in
    next_is ∙ ap (option_map at) is ∙ mapped_cond at (length found == most) (option_map key (slice_get found (length found - 1)))
    ∙ ap (λ o. cond (length found == most) (option_map at o) None) (sym (slice_get-map key found (length found - 1)))
    ∙ sym (ap (λ n. cond (n == most) (option_map at (slice_get (map key found) (n - 1))) None) size)

-- a page over rows that were looked up by their keys
pub keyed_page : {A : Type 0} (key : A → ℕ) (row_for : A → Option Row) (at : ℕ → Cursor) (after most : ℕ) (all found listed counted : List A)
    (rows : List Row) (last : Option ℕ) (next : Option Cursor)
    → found ≡ take most (past key after all) → listed ≡ found → counted ≡ found → rows ≡ filter_map row_for listed
    → last ≡ cond (length counted == most) (option_map key (slice_get counted (length counted - 1))) None → next ≡ option_map at last
    → (rows ≡ (page_over key row_for at after most all).rows) × (next ≡ (page_over key row_for at after most all).next)
keyed_page key row_for at after most all found listed counted rows last next is listed_is counted_is has last_is next_is = (
  has ∙ ap (filter_map row_for) (listed_is ∙ is),
  next_same key at most counted last next last_is next_is ∙ ap (λ l. next_cursor at most (map key l)) (counted_is ∙ is),
)

-- the certificates, or those that are good and end before a moment
pub certificates_page : (records : Records) (now most : ℕ) (before after : Option ℕ) (found listed counted : List CertRow) (rows : List Row) (last : Option ℕ) (next : Option Cursor)
    → found ≡ take most (past (λ (row : CertRow). row.serial) (key_of after) records.certificates) → listed ≡ found → counted ≡ found
    → rows ≡ filter_map (certificate_listed records now before) listed
    → last ≡ cond (length counted == most) (option_map (λ (row : CertRow). row.serial) (slice_get counted (length counted - 1))) None
    → next ≡ option_map (λ serial. certificates_after before (Some serial)) last
    → (rows ≡ (page records now most (certificates_after before after)).rows) × (next ≡ (page records now most (certificates_after before after)).next)
certificates_page records now most None after =
    keyed_page (λ (row : CertRow). row.serial) (certificate_row records now) (λ serial. cursor.Certificates (Some serial)) (key_of after) most records.certificates
certificates_page records now most (Some before) after =
    keyed_page (λ (row : CertRow). row.serial) (expiring_row records now before) (λ serial. cursor.Ending before (Some serial)) (key_of after) most records.certificates

-- ---- the CRLs, which are looked up without their bytes

abbrev row_number : CrlRow → ℕ
row_number row = row.number

rows_of_crls : (crls : List Crl) → filter_map (λ (row : CrlRow). Some (OfCrl row)) (map row_of crls) ≡ filter_map crl_row crls
rows_of_crls [] = refl
rows_of_crls (crl ∷ crls) = ap (λ l. OfCrl (row_of crl) ∷ l) (rows_of_crls crls)

numbers_of_crls : (crls : List Crl) → map row_number (map row_of crls) ≡ map (λ (crl : Crl). crl.number) crls
numbers_of_crls [] = refl
numbers_of_crls (crl ∷ crls) = ap (λ l. crl.number ∷ l) (numbers_of_crls crls)

pub crls_page : (records : Records) (after most : ℕ) (found listed counted : List CrlRow) (rows : List Row) (last : Option ℕ) (next : Option Cursor)
    → found ≡ map row_of (take most (past (λ (crl : Crl). crl.number) after records.crls)) → listed ≡ found → counted ≡ found
    → rows ≡ filter_map (λ (row : CrlRow). Some (OfCrl row)) listed
    → last ≡ cond (length counted == most) (option_map (λ (row : CrlRow). row.number) (slice_get counted (length counted - 1))) None
    → next ≡ option_map (λ number. Crls number) last → (now : ℕ)
    → (rows ≡ (page records now most (Crls after)).rows) × (next ≡ (page records now most (Crls after)).next)
crls_page records after most found listed counted rows last next is listed_is counted_is has last_is next_is now =
    let looked = take most (past (λ (crl : Crl). crl.number) after records.crls) in (
      has ∙ ap (filter_map (λ (row : CrlRow). Some (OfCrl row))) (listed_is ∙ is) ∙ rows_of_crls looked,
      next_same row_number (λ number. Crls number) most counted last next last_is next_is
          ∙ ap (λ l. next_cursor (λ number. Crls number) most (map row_number l)) (counted_is ∙ is)
          ∙ ap (next_cursor (λ number. Crls number) most) (numbers_of_crls looked),
    )

-- ---- a list whose rows are numbered

all_dropped : {A : Type 0} (P : A → Type 0) (n : ℕ) (xs : List A) → AllByRecursion P xs → AllByRecursion P (drop n xs)
all_dropped P zero xs all = all
all_dropped P (suc n) [] all = tt
all_dropped P (suc n) (x ∷ xs) all = all_dropped P n xs all.1

numbered_taken : {A : Type 0} (key : A → ℕ) (from n : ℕ) (xs : List A) → NumberedFrom key from xs → NumberedFrom key from (take n xs)
numbered_taken key from zero xs numbered = tt
numbered_taken key from (suc n) [] numbered = tt
numbered_taken key from (suc n) (x ∷ xs) numbered = (numbered.0, numbered_taken key (from + 1) n xs numbered.1)

-- the keys of rows that are numbered
mapped_numbers : {A : Type 0} (key : A → ℕ) (from : ℕ) (xs : List A) → NumberedFrom key from xs → map key xs ≡ numbers from (length xs)
mapped_numbers key from [] numbered = refl
mapped_numbers key from (x ∷ xs) numbered =
    let rest = mapped_numbers key (from + 1) xs numbered.1 in
    (λ i. numbered.0 i ∷ rest i)

numbers_size : (from n : ℕ) → length (numbers from n) ≡ n
numbers_size from zero = refl
numbers_size from (suc n) = let rest = numbers_size (from + 1) n in omega (arith, rest)

last_number : (from n : ℕ) → slice_get (numbers from (suc n)) n ≡ Some (from + n)
last_number from zero = let same : from ≡ from + 0 = omega arith in ap (λ (k : ℕ). Some k) same
last_number from (suc n) = let same : (from + 1) + n ≡ from + suc n = omega arith in last_number (from + 1) n ∙ ap (λ (k : ℕ). Some k) same

numbers_more : (from n : ℕ) → numbers from (suc n) ≡ numbers from n ++ (from + n) ∷ []
numbers_more from zero = let same : from ≡ from + 0 = omega arith in ap (λ (k : ℕ). k ∷ []) same
numbers_more from (suc n) =
    let same : (from + 1) + n ≡ from + suc n = omega arith in
    ap (λ (l : List ℕ). from ∷ l) (numbers_more (from + 1) n ∙ ap (λ (k : ℕ). numbers (from + 1) n ++ k ∷ []) same)

-- none is looked at yet
pub no_ids : {B : Type 0} (f : ℕ → Option B) (after : ℕ) → [] ≡ filter_map f (numbers (after + 1) (after - after))
no_ids f after = let none : 0 ≡ after - after = omega arith in ap (λ n. filter_map f (numbers (after + 1) n)) none

-- one id more is looked at
pub id_more : {B : Type 0} (f : ℕ → Option B) (after before : ℕ) (row : Option B) (done new : List B) → after ≤ before → row ≡ f (before + 1)
    → done ≡ filter_map f (numbers (after + 1) (before - after)) → new ≡ done ++ filter_map (λ one. one) (row ∷ [])
    → new ≡ filter_map f (numbers (after + 1) ((before + 1) - after))
id_more f after before row done new reached row_is was now =
    let here : before + 1 ≡ (after + 1) + (before - after) = omega arith in
    let more : suc (before - after) ≡ (before + 1) - after = omega arith in
    now ∙ (λ j. was j ++ filter_map (λ one. one) ((row_is ∙ ap f here) j ∷ []))
    ∙ sym (split_end f (numbers (after + 1) (before - after)) ((after + 1) + (before - after)))
    ∙ ap (filter_map f) (sym (numbers_more (after + 1) (before - after)))
    ∙ ap (λ n. filter_map f (numbers (after + 1) n)) more

-- past the last id that is looked at, or where none is
pub ended_at : (after before end : ℕ) → (after ≤ end → before ≤ end) → end ≤ before → (end ≤ after → before ≡ after) → before - after ≡ end - after
ended_at after before end high stop stays = elim (cases_order end after) [
  | inl same ↦ let low : end ≤ after = omega (arith, same) in let is = stays low in omega (arith, is, same)
  | inr (inl less) ↦ let low : end ≤ after = omega (arith, less) in let is = stays low in omega (arith, is, less)
  | inr (inr more) ↦ let low : after ≤ end = omega (arith, more) in let is = high low in omega (arith, is, stop)
]

-- where a list goes on of which so many ids were looked at
next_number : (at : ℕ → Cursor) (most after n : ℕ) → cond (nat_lt after (after + n) && (n == most)) (Some (at (after + n))) None ≡ next_cursor at most (numbers (after + 1) n)
next_number at most after zero =
    let few : after + 0 ≤ after = omega arith in
    let none = le-ltb after (after + 0) few in
    ap (λ b. cond (b && (0 == most)) (Some (at (after + 0))) None) none ∙ sym (none_either (0 == most))
  where
    none_either : (b : Bool) → cond b (option_map at None) None ≡ None
    none_either true = refl
    none_either false = refl
next_number at most after (suc n) =
    let more : after < after + suc n = omega arith in
    let some = lt-ltb after (after + suc n) more in
    let size = numbers_size (after + 1) (suc n) in
    let place : length (numbers (after + 1) (suc n)) - 1 ≡ n = omega (arith, size) in
    let key : (after + 1) + n ≡ after + suc n = omega arith in
    let last : slice_get (numbers (after + 1) (suc n)) (length (numbers (after + 1) (suc n)) - 1) ≡ Some (after + suc n) =
    ap (slice_get (numbers (after + 1) (suc n))) place ∙ last_number (after + 1) n ∙ ap (λ (k : ℕ). Some k) key in
    ap (λ b. cond (b && (suc n == most)) (Some (at (after + suc n))) None) some
    ∙ sym (ap (λ o. cond (suc n == most) (option_map at o) None) last)
    ∙ sym (ap (λ k. cond (k == most) (option_map at (slice_get (numbers (after + 1) (suc n)) (length (numbers (after + 1) (suc n)) - 1))) None) size)

-- Of so many rows those past a number, and those that are looked at of them.
module _ (held size after most end : ℕ) (behind : size ≡ held - after) (is : end ≡ min held (after + most)) where
  few_by : end - after ≤ size
  few_by = omega arith

  all_by : size ≤ most → size ≤ end - after
  all_by short = omega arith

  most_by : most ≤ size → most ≡ end - after
  most_by enough = omega arith

module _ {A : Type 0} (key : A → ℕ) (row_for : A → Option Row) (look : ℕ → Option A) (at : ℕ → Cursor) (xs : List A) (numbered : NumberedFrom key 1 xs)
    (found : AllByRecursion (λ a. Some a ≡ look (key a)) xs) (after most end : ℕ) (is : end ≡ min (length xs) (after + most)) where
  abbrev behind_it : List A
  behind_it = drop after xs

  size_behind : length behind_it ≡ length xs - after
  size_behind = length-drop after xs

  -- as many are looked at
  same_taken : take most behind_it ≡ take (end - after) behind_it
  same_taken = elim (cases_Bool (nat_lt (length behind_it) most)) [
    | inl fewer ↦
        let less = ltb-true (length behind_it) most fewer in
        let few : length behind_it ≤ most = omega (arith, less) in
        let all = all_by (length xs) (length behind_it) after most end size_behind is few in
        take_all most behind_it few ∙ sym (take_all (end - after) behind_it all)
    | inr enough ↦
        let as_many = ltb-false (length behind_it) most enough in
        let same = most_by (length xs) (length behind_it) after most end size_behind is as_many in
        ap (λ n. take n behind_it) same
  ]

  few_looked : end - after ≤ length behind_it
  few_looked = few_by (length xs) (length behind_it) after most end size_behind is

  pub numbered_rows : filter_map (λ id. option_and_then row_for (look id)) (numbers (after + 1) (end - after)) ≡ filter_map row_for (take most (past key after xs))
  numbered_rows =
      looked_up key row_for look (after + 1) (end - after) behind_it (dropped_numbered key after xs numbered) (all_dropped (λ a. Some a ≡ look (key a)) after xs found) few_looked
      ∙ ap (filter_map row_for) (sym same_taken) ∙ ap (λ l. filter_map row_for (take most l)) (sym (past_drop key after xs numbered))

  -- where the next one goes on
  pub numbered_next : (next : Option Cursor) → next ≡ cond (nat_lt after end && ((end - after) == most)) (Some (at end)) None
      → next ≡ next_cursor at most (map key (take most (past key after xs)))
  numbered_next next next_is =
      let size = length-take-le (end - after) behind_it few_looked in
      let keys : map key (take most (past key after xs)) ≡ numbers (after + 1) (end - after) =
      ap (λ l. map key (take most l)) (past_drop key after xs numbered) ∙ ap (map key) same_taken
      ∙ mapped_numbers key (after + 1) (take (end - after) behind_it) (numbered_taken key (after + 1) (end - after) behind_it (dropped_numbered key after xs numbered))
      ∙ ap (numbers (after + 1)) size in
      next_is ∙ ended ∙ next_number at most after (end - after) ∙ sym (ap (next_cursor at most) keys)
    where
      -- past the last id none is looked at
      ended : cond (nat_lt after end && ((end - after) == most)) (Some (at end)) None
          ≡ cond (nat_lt after (after + (end - after)) && ((end - after) == most)) (Some (at (after + (end - after)))) None
      ended = elim (cases_Bool (nat_lt after end)) [
        | inl before ↦
            let same : end ≡ after + (end - after) = let less = ltb-true after end before in omega arith in
            ap (λ k. cond (nat_lt after k && ((end - after) == most)) (Some (at k)) None) same
        | inr past_it ↦
            let none : end - after ≡ 0 = let more = ltb-false after end past_it in omega arith in
            let few : after + (end - after) ≤ after = omega (arith, none) in
            let still = le-ltb after (after + (end - after)) few in
            ap (λ b. cond (b && ((end - after) == most)) (Some (at end)) None) past_it
            ∙ sym (ap (λ b. cond (b && ((end - after) == most)) (Some (at (after + (end - after)))) None) still)
      ]

-- ---- a page of a list by ids

module _ (records : Records) (sound : SoundRows records) (now after most end : ℕ) (rows : List Row) (next : Option Cursor) where
  ids_page : {A : Type 0} (key : A → ℕ) (row_for : A → Option Row) (at : ℕ → Cursor) (xs : List A) → NumberedFrom key 1 xs → end ≡ min (length xs) (after + most)
      → rows ≡ filter_map (λ id. option_and_then row_for (find (λ a. key a == id) xs)) (numbers (after + 1) (end - after))
      → next ≡ cond (nat_lt after end && ((end - after) == most)) (Some (at end)) None
      → (rows ≡ (page_over key row_for at after most xs).rows) × (next ≡ (page_over key row_for at after most xs).next)
  ids_page key row_for at xs numbered is has next_is =
      let found = find_self key xs (numbers_differ key 1 xs numbered) in (
        has ∙ numbered_rows key row_for (λ id. find (λ a. key a == id) xs) at xs numbered found after most end is,
        numbered_next key row_for (λ id. find (λ a. key a == id) xs) at xs numbered found after most end is next next_is,
      )

  pub numbered_page : (list : ListById) → end ≡ min (rows_of records (numbered_table list)) (after + most)
      → rows ≡ filter_map (row_at records now list) (numbers (after + 1) (end - after))
      → next ≡ cond (nat_lt after end && ((end - after) == most)) (Some (cursor_of list end)) None
      → (rows ≡ (page records now most (cursor_of list after)).rows) × (next ≡ (page records now most (cursor_of list after)).next)
  numbered_page OpenRequests is has next_is =
      ids_page (λ (row : RequestRow). row.id) (open_row records now) (λ id. cursor.OpenRequests id) records.requests sound.requests.numbered is has next_is
  numbered_page Overdue is has next_is =
      ids_page (λ (row : RequestRow). row.id) (overdue_row records now) (λ id. cursor.Overdue id) records.requests sound.requests.numbered is has next_is
  numbered_page Requests is has next_is =
      ids_page (λ (row : RequestRow). row.id) (history_row records now) (λ id. cursor.Requests id) records.requests sound.requests.numbered is has next_is
  numbered_page Subscribers is has next_is =
      ids_page (λ (row : SubscriberRow). row.id) subscriber_row (λ id. cursor.Subscribers id) records.subscribers sound.subscribers.numbered is has next_is
  numbered_page Orders is has next_is =
      ids_page (λ (row : OrderRow). row.id) (order_row records) (λ id. cursor.Orders id) records.orders sound.orders.numbered is has next_is
