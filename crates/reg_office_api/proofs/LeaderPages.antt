-- What a page of a leader has of each table.
use Rattle.std.proofs.Common.{◌≡◌, ◌∙◌, ◌≤◌, ◌<◌, ◌+◌, ◌-◌, ℕ, zero, suc, Bool, true, false, ◌&&◌, List, [], ◌∷◌, length, map, filter, take, drop, Option, Some, None, inl, inr, refl, sym, ap, subst, arith}
use Rattle.std.specs.Prelude.{IsTrue, cond, is_none, nat_lt, not, option_map}
use Rattle.std.specs.List.{AllByRecursion, before_first, position_or_len, slice_get}
use Rattle.std.proofs.lemmas.Bool.{cases_Bool, false≢true}
use Rattle.std.proofs.lemmas.Bool.Decides.{nat_tests}
use Rattle.std.proofs.lemmas.List.{take_all}
use Rattle.std.proofs.lemmas.Option.{same_Some, slice_get_within}
use Rattle.reg_core.specs.Records.{Records, Crl}
use Rattle.reg_core.specs.Sound.{SoundRevocation, SoundRows}
use Rattle.reg_core.specs.declared.rows.SubscriberRow.{SubscriberRow}
use Rattle.reg_core.specs.declared.rows.OrderRow.{OrderRow}
use Rattle.reg_core.specs.declared.rows.CertRow.{CertRow}
use Rattle.reg_core.specs.declared.rows.RequestRow.{RequestRow}
use Rattle.reg_core.specs.declared.rows.RevocationRow.{RevocationRow}
use Rattle.reg_core_laws.specs.Extends.{OnlyAdded}
use Rattle.reg_core_laws.proofs.PublicLaws.{all_weaker}
use Rattle.reg_core_lists.specs.Feed.{ArePageRows, PageParts, RowLists, counts_after, crl_behind, crl_count, declines_after, declines_from, feed_crl_of, feed_rows_of, is_later, room}
use Rattle.reg_core_lists.specs.declared.feed.FeedCrl.{FeedCrl}
use Rattle.reg_core_lists.specs.declared.feed_reader.ReceivedPage.{ReceivedPage}
use Rattle.reg_core_lists.specs.declared.positions.Declines.{Declines}
use Rattle.reg_core_lists.specs.declared.positions.RowCounts.{RowCounts}
use Rattle.reg_office_api.specs.Follows.{listed_crl}
use Rattle.reg_office_api.specs.FollowedLeaders.{IsPageOf, as_read, undeclined}
use Rattle.reg_office_api.proofs.CopiedRows.{first_rows, part_whole}
use Rattle.reg_office_api.proofs.DeclinedIds.{declined_ids}
use Rattle.reg_office_api.proofs.FollowedRequests.{bare_open}
use Rattle.reg_office_api.proofs.LeaderStates.{added_on}

-- ---- lists

-- a test that fails of all
none_passes : {Row : Type 0} (test : Row → Bool) (rows : List Row) → AllByRecursion (λ row. test row ≡ false) rows → position_or_len test rows ≡ length rows
none_passes test [] all = refl
none_passes test (row ∷ rows) all =
    let others = none_passes test rows all.1 in
    let more : 1 + length rows ≡ length (row ∷ rows) = omega arith in
    ap (λ b. cond (not b) (1 + position_or_len test rows) 0) all.0 ∙ ap (λ n. 1 + n) others ∙ more

before_none : {Row : Type 0} (test : Row → Bool) (rows : List Row) → AllByRecursion (λ row. test row ≡ false) rows → before_first test rows ≡ rows
before_none test rows all = ap (λ n. take n rows) (none_passes test rows all) ∙ take_all (length rows) rows (omega arith)

all_taken : {Row : Type 0} (P : Row → Type 0) (n : ℕ) (rows : List Row) → AllByRecursion P rows → AllByRecursion P (take n rows)
all_taken P zero rows all = tt
all_taken P (suc n) [] all = tt
all_taken P (suc n) (row ∷ rows) all = (all.0, all_taken P n rows all.1)

all_dropped : {Row : Type 0} (P : Row → Type 0) (n : ℕ) (rows : List Row) → AllByRecursion P rows → AllByRecursion P (drop n rows)
all_dropped P zero rows all = all
all_dropped P (suc n) [] all = tt
all_dropped P (suc n) (row ∷ rows) all = all_dropped P n rows all.1

got : {Row : Type 0} (rows : List Row) (n : ℕ) (row : Row) → slice_get rows n ≡ Some row → OnlyAdded (row ∷ []) (drop n rows)
got {Row = Row} [] n row is = absurd (let within : n < 0 = slice_get_within {A = Row} [] n row is in omega (arith, within))
got (first ∷ rows) zero row is = (rows, ap (λ r. r ∷ rows) (same_Some first row is))
got (first ∷ rows) (suc n) row is = got rows n row is

none_got : {Row : Type 0} (rows : List Row) (n : ℕ) → slice_get rows n ≡ None → drop n rows ≡ []
none_got [] zero is = refl
none_got [] (suc n) is = refl
none_got (first ∷ rows) zero is = absurd (let bad : ⊥ = cc in bad)
none_got (first ∷ rows) (suc n) is = none_got rows n is

past : {Row : Type 0} (rows : List Row) (n : ℕ) → drop n rows ≡ [] → length rows ≤ n
past [] n none = omega arith
past (first ∷ rows) zero none = absurd (let bad : ⊥ = cc in bad)
past (first ∷ rows) (suc n) none = let rest = past rows n none in omega arith

map_taken : {Row Other : Type 0} (f : Row → Other) (n : ℕ) (rows : List Row) → map f (take n rows) ≡ take n (map f rows)
map_taken f zero rows = refl
map_taken f (suc n) [] = refl
map_taken f (suc n) (row ∷ rows) = ap (λ l. f row ∷ l) (map_taken f n rows)

map_dropped : {Row Other : Type 0} (f : Row → Other) (n : ℕ) (rows : List Row) → map f (drop n rows) ≡ drop n (map f rows)
map_dropped f zero rows = refl
map_dropped f (suc n) [] = refl
map_dropped f (suc n) (row ∷ rows) = map_dropped f n rows

pub length_map : {Row Other : Type 0} (f : Row → Other) (rows : List Row) → length (map f rows) ≡ length rows
length_map f [] = refl
length_map f (row ∷ rows) = ap suc (length_map f rows)

-- the CRL, if there is one
abbrev crl_list : Option Crl → List Crl
crl_list None = []
crl_list (Some crl) = crl ∷ []

listed_is : (found : Option FeedCrl) → listed_crl found ≡ crl_list (option_map feed_crl_of found)
listed_is None = refl
listed_is (Some crl) = refl

counted_crl : (found : Option Crl) → crl_count found ≡ length (crl_list found)
counted_crl None = refl
counted_crl (Some crl) = refl

-- a page that is not full has the next CRL
crl_part_of : (rows : RowLists) (crls : List Crl) (n : ℕ) (next : Option Crl) → slice_get crls n ≡ next → OnlyAdded (crl_list (crl_behind rows next)) (drop n crls)
crl_part_of rows crls n None is = by_test (nat_lt 0 (room rows))
  where
    by_test : (b : Bool) → OnlyAdded (crl_list (cond b None None)) (drop n crls)
    by_test true = (drop n crls, refl)
    by_test false = (drop n crls, refl)
crl_part_of rows crls n (Some crl) is = by_test (nat_lt 0 (room rows))
  where
    by_test : (b : Bool) → OnlyAdded (crl_list (cond b (Some crl) None)) (drop n crls)
    by_test true = got crls n crl is
    by_test false = (drop n crls, refl)

none_next : (next : Option Crl) → is_none next ≡ true → next ≡ None
none_next None is = refl
none_next (Some crl) is = absurd (let bad : ⊥ = cc in bad)

no_crl_of : (b : Bool) → crl_list (cond b None None) ≡ []
no_crl_of true = refl
no_crl_of false = refl

-- ---- tests

and_first : (b c : Bool) → (b && c) ≡ true → b ≡ true
and_first true c is = refl
and_first false c is = is

and_second : (b c : Bool) → (b && c) ≡ true → c ≡ true
and_second true c is = is
and_second false c is = absurd (false≢true is)

above_zero : (n : ℕ) → nat_lt 0 n ≡ true → 0 < n
above_zero n is = grind (arith, nat_tests, is)

not_later : (crls issued first : ℕ) → issued ≤ crls → first ≤ issued + 1 → nat_lt crls (first - 1) ≡ false
not_later crls issued first most next = elim (cases_Bool (nat_lt crls (first - 1))) [
  | inl is ↦ (let above : crls < first - 1 = grind (arith, nat_tests, is) in absurd (omega (arith, most, next, above)))
  | inr not ↦ not
]

-- a part that is not full is all of the rows
taken_whole : {Row : Type 0} (n : ℕ) (rows part : List Row) → part ≡ take n rows → length part < n → part ≡ rows
taken_whole n rows part is few = is ∙ part_whole n rows (subst (λ l. length l < n) is few)

-- ---- a page

module _ (records : Records) (counts : RowCounts) (declines : Declines) (page : ReceivedPage) (is : IsPageOf records counts declines page) where
  abbrev made_rows : RowLists
  made_rows = is.made.rows

  abbrev next_crl : Option Crl
  next_crl = slice_get records.crls counts.crls

  abbrev pub from : Declines
  from = declines_from records.requests declines

  rows_are : feed_rows_of page.rows ≡ (as_read is.made).rows
  rows_are = ap (λ (parts : PageParts). parts.rows) is.parts

  are_rows : ArePageRows records counts from made_rows
  are_rows = is.has_parts.are_rows

  counts_are : page.positions.counts ≡ counts_after counts made_rows (crl_count (crl_behind made_rows next_crl))
  counts_are = ap (λ (parts : PageParts). parts.counts) is.parts ∙ ap (λ (parts : PageParts). parts.counts) is.has_parts.are_parts

  declined_are : (feed_rows_of page.rows).declined ≡ made_rows.declined
  declined_are = ap (λ (rows : RowLists). rows.declined) rows_are

  pub declines_are : page.positions.declines ≡ declines_after from (feed_rows_of page.rows).declined
  declines_are =
      ap (λ (parts : PageParts). parts.declines) is.parts ∙ ap (λ (parts : PageParts). parts.declines) is.has_parts.are_parts
      ∙ ap (declines_after from) (sym declined_are)

  crl_is : listed_crl page.crl ≡ crl_list (crl_behind made_rows next_crl)
  crl_is =
      listed_is page.crl
      ∙ ap crl_list (ap (λ (parts : PageParts). parts.crl) is.parts ∙ ap (λ (parts : PageParts). parts.crl) is.has_parts.are_parts)

  ends_are : page.ends ≡ (is_none next_crl && nat_lt 0 (room made_rows))
  ends_are = ap (λ (parts : PageParts). parts.ends) is.parts ∙ ap (λ (parts : PageParts). parts.ends) is.has_parts.are_parts

  -- the rows of the page
  subscribers_are : (feed_rows_of page.rows).subscribers ≡ made_rows.subscribers
  subscribers_are = ap (λ (rows : RowLists). rows.subscribers) rows_are

  orders_are : (feed_rows_of page.rows).orders ≡ made_rows.orders
  orders_are = ap (λ (rows : RowLists). rows.orders) rows_are

  certificates_are : (feed_rows_of page.rows).certificates ≡ made_rows.certificates
  certificates_are = ap (λ (rows : RowLists). rows.certificates) rows_are

  requests_are : (feed_rows_of page.rows).requests ≡ map undeclined made_rows.requests
  requests_are = ap (λ (rows : RowLists). rows.requests) rows_are

  revocations_are : (feed_rows_of page.rows).revocations ≡ made_rows.revocations
  revocations_are = ap (λ (rows : RowLists). rows.revocations) rows_are

  -- each of them is the next part of its table
  pub subscribers_part : OnlyAdded (feed_rows_of page.rows).subscribers (drop counts.subscribers records.subscribers)
  subscribers_part = subst (λ l. OnlyAdded l (drop counts.subscribers records.subscribers)) (sym (subscribers_are ∙ are_rows.subscribers)) (first_rows 1000 (drop counts.subscribers records.subscribers))

  pub orders_part : OnlyAdded (feed_rows_of page.rows).orders (drop counts.orders records.orders)
  orders_part = subst (λ l. OnlyAdded l (drop counts.orders records.orders)) (sym (orders_are ∙ are_rows.orders)) (first_rows _ _)

  pub certificates_part : OnlyAdded (feed_rows_of page.rows).certificates (drop counts.certificates records.certificates)
  certificates_part = subst (λ l. OnlyAdded l (drop counts.certificates records.certificates)) (sym (certificates_are ∙ are_rows.certificates)) (first_rows _ _)

  requests_taken : (feed_rows_of page.rows).requests
      ≡ take (1000 - length made_rows.subscribers - length made_rows.orders - length made_rows.certificates) (drop counts.requests (map undeclined records.requests))
  requests_taken = requests_are ∙ ap (map undeclined) are_rows.requests ∙ map_taken undeclined _ _ ∙ ap (take _) (map_dropped undeclined counts.requests records.requests)

  pub requests_part : OnlyAdded (feed_rows_of page.rows).requests (drop counts.requests (map undeclined records.requests))
  requests_part = subst (λ l. OnlyAdded l (drop counts.requests (map undeclined records.requests))) (sym requests_taken) (first_rows _ _)

  -- no line says that a request is declined
  pub requests_open : AllByRecursion (λ row. row.declined ≡ false) (feed_rows_of page.rows).requests
  requests_open = subst (AllByRecursion (λ row. row.declined ≡ false)) (sym requests_are) (bare_open made_rows.requests)

  pub revocations_part : OnlyAdded (feed_rows_of page.rows).revocations (drop counts.revocations records.revocations)
  revocations_part =
      let left = drop counts.revocations records.revocations in
      let most = 1000 - length made_rows.subscribers - length made_rows.orders - length made_rows.certificates - length made_rows.requests - length made_rows.declined in
      subst (λ l. OnlyAdded l left) (sym (revocations_are ∙ are_rows.revocations))
      (added_on _ (take most left) left (first_rows (position_or_len (is_later counts.crls) (take most left)) (take most left)) (first_rows most left))

  pub crls_part : OnlyAdded (listed_crl page.crl) (drop counts.crls records.crls)
  crls_part = subst (λ l. OnlyAdded l (drop counts.crls records.crls)) (sym crl_is) (crl_part_of made_rows records.crls counts.crls next_crl refl)

  -- the declined ids
  pub declined_part : (n : ℕ) × ((feed_rows_of page.rows).declined ≡ take n (filter (nat_lt from.last) (declined_ids records.requests)))
  declined_part = (_, declined_are ∙ are_rows.declined)

  -- so many rows are copied after it
  pub subscribers_counted : page.positions.counts.subscribers ≡ counts.subscribers + length (feed_rows_of page.rows).subscribers
  subscribers_counted = ap (λ (c : RowCounts). c.subscribers) counts_are ∙ ap (λ (l : List SubscriberRow). counts.subscribers + length l) (sym subscribers_are)

  pub orders_counted : page.positions.counts.orders ≡ counts.orders + length (feed_rows_of page.rows).orders
  orders_counted = ap (λ (c : RowCounts). c.orders) counts_are ∙ ap (λ (l : List OrderRow). counts.orders + length l) (sym orders_are)

  pub certificates_counted : page.positions.counts.certificates ≡ counts.certificates + length (feed_rows_of page.rows).certificates
  certificates_counted = ap (λ (c : RowCounts). c.certificates) counts_are ∙ ap (λ (l : List CertRow). counts.certificates + length l) (sym certificates_are)

  pub requests_counted : page.positions.counts.requests ≡ counts.requests + length (feed_rows_of page.rows).requests
  requests_counted =
      ap (λ (c : RowCounts). c.requests) counts_are ∙ ap (λ n. counts.requests + n) (sym (length_map undeclined made_rows.requests))
      ∙ ap (λ (l : List RequestRow). counts.requests + length l) (sym requests_are)

  pub revocations_counted : page.positions.counts.revocations ≡ counts.revocations + length (feed_rows_of page.rows).revocations
  revocations_counted = ap (λ (c : RowCounts). c.revocations) counts_are ∙ ap (λ (l : List RevocationRow). counts.revocations + length l) (sym revocations_are)

  pub crls_counted : page.positions.counts.crls ≡ counts.crls + length (listed_crl page.crl)
  crls_counted =
      ap (λ (c : RowCounts). c.crls) counts_are ∙ ap (λ n. counts.crls + n) (counted_crl (crl_behind made_rows next_crl))
      ∙ ap (λ (l : List Crl). counts.crls + length l) (sym crl_is)

  -- ---- the last page

  module _ (ends : IsTrue page.ends) where
    both_hold : (is_none next_crl && nat_lt 0 (room made_rows)) ≡ true
    both_hold = sym ends_are ∙ ends

    no_crl : next_crl ≡ None
    no_crl = none_next next_crl (and_first (is_none next_crl) (nat_lt 0 (room made_rows)) both_hold)

    fits : 0
        < 1000 - length made_rows.subscribers - length made_rows.orders - length made_rows.certificates - length made_rows.requests
        - length made_rows.declined - length made_rows.revocations
    fits = above_zero (room made_rows) (and_second (is_none next_crl) (nat_lt 0 (room made_rows)) both_hold)

    few_subscribers : length made_rows.subscribers < 1000
    few_subscribers = let room_is = fits in omega (arith, room_is)

    few_orders : length made_rows.orders < 1000 - length made_rows.subscribers
    few_orders = let room_is = fits in omega (arith, room_is)

    few_certificates : length made_rows.certificates < 1000 - length made_rows.subscribers - length made_rows.orders
    few_certificates = let room_is = fits in omega (arith, room_is)

    few_requests : length made_rows.requests < 1000 - length made_rows.subscribers - length made_rows.orders - length made_rows.certificates
    few_requests = let room_is = fits in omega (arith, room_is)

    few_declined : length made_rows.declined
        < 1000 - length made_rows.subscribers - length made_rows.orders - length made_rows.certificates - length made_rows.requests
    few_declined = let room_is = fits in omega (arith, room_is)

    few_revocations : length made_rows.revocations
        < 1000 - length made_rows.subscribers - length made_rows.orders - length made_rows.certificates - length made_rows.requests
        - length made_rows.declined
    few_revocations = let room_is = fits in omega (arith, room_is)

    pub subscribers_whole : (feed_rows_of page.rows).subscribers ≡ drop counts.subscribers records.subscribers
    subscribers_whole = subscribers_are ∙ taken_whole 1000 (drop counts.subscribers records.subscribers) made_rows.subscribers are_rows.subscribers few_subscribers

    pub orders_whole : (feed_rows_of page.rows).orders ≡ drop counts.orders records.orders
    orders_whole = orders_are ∙ taken_whole _ (drop counts.orders records.orders) made_rows.orders are_rows.orders few_orders

    pub certificates_whole : (feed_rows_of page.rows).certificates ≡ drop counts.certificates records.certificates
    certificates_whole = certificates_are ∙ taken_whole _ (drop counts.certificates records.certificates) made_rows.certificates are_rows.certificates few_certificates

    pub requests_whole : (feed_rows_of page.rows).requests ≡ drop counts.requests (map undeclined records.requests)
    requests_whole =
        requests_are
        ∙ ap (map undeclined) (taken_whole _ (drop counts.requests records.requests) made_rows.requests are_rows.requests few_requests)
        ∙ map_dropped undeclined counts.requests records.requests

    pub declined_whole : (feed_rows_of page.rows).declined ≡ filter (nat_lt from.last) (declined_ids records.requests)
    declined_whole = declined_are ∙ taken_whole _ (filter (nat_lt from.last) (declined_ids records.requests)) made_rows.declined are_rows.declined few_declined

    pub crls_whole : listed_crl page.crl ≡ drop counts.crls records.crls
    crls_whole =
        crl_is ∙ ap (λ next. crl_list (crl_behind made_rows next)) no_crl ∙ no_crl_of (nat_lt 0 (room made_rows))
        ∙ sym (none_got records.crls counts.crls no_crl)

    -- the first CRL of each revocation is there, or the next one
    none_later : SoundRows records → AllByRecursion (λ row. is_later counts.crls row ≡ false) (drop counts.revocations records.revocations)
    none_later sound =
        let issued : length records.crls ≤ counts.crls = past records.crls counts.crls (none_got records.crls counts.crls no_crl) in
        all_dropped (λ row. is_later counts.crls row ≡ false) counts.revocations records.revocations
        (all_weaker (SoundRevocation records.last records.certificates records.requests records.crls) (λ row. is_later counts.crls row ≡ false)
        (λ row holds. not_later counts.crls (length records.crls) row.first issued holds.first_by_next) records.revocations sound.revocations.each)

    pub revocations_whole : SoundRows records → (feed_rows_of page.rows).revocations ≡ drop counts.revocations records.revocations
    revocations_whole sound =
        let left = drop counts.revocations records.revocations in
        let most = 1000 - length made_rows.subscribers - length made_rows.orders - length made_rows.certificates - length made_rows.requests - length made_rows.declined in
        let taken = are_rows.revocations ∙ before_none (is_later counts.crls) (take most left) (all_taken (λ row. is_later counts.crls row ≡ false) most left (none_later sound)) in
        revocations_are ∙ taken_whole most left made_rows.revocations taken few_revocations
