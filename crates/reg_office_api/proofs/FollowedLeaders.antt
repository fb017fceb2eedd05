-- A follower's records are those of its leader: table by table, then the declined requests, then the settings; and call after call.
use Rattle.std.proofs.Common.{◌≡◌, ◌∙◌, ◌≤◌, ℕ, Bool, true, false, ◌==◌, ◌||◌, List, [], ◌∷◌, ◌++◌, length, Result, Ok, Err, inl, inr, refl, sym, ap, subst, subst₂, le_refl, arith, append-nil, append_assoc}
use Rattle.std.specs.Prelude.{flat_map}
use Rattle.std.specs.List.{AllByRecursion}
use Rattle.std.proofs.lemmas.List.Folds.{list_any-append}
use Rattle.reg_core.specs.Records.{Records}
use Rattle.reg_core.specs.declared.rows.RequestRow.{RequestRow}
use Rattle.reg_core_laws.proofs.PublicLaws.{all_append}
use Rattle.reg_core_lists.specs.Feed.{IsInHistory, RowLists, feed_rows_of}
use Rattle.reg_core_lists.specs.ReceivedPages.{HeadTerms, head_terms_of}
use Rattle.reg_core_lists.specs.declared.feed_reader.ReceivedPage.{ReceivedPage}
use Rattle.reg_core_lists.specs.declared.positions.Declines.{Declines}
use Rattle.reg_core_lists.specs.declared.positions.Positions.{Positions}
use Rattle.reg_core_lists.specs.declared.positions.RowCounts.{RowCounts}
use Rattle.reg_der.specs.Authority.{name_of}
use Rattle.reg_office_api.specs.Follows.{AddsRows, ArePositionsOf, FollowStep, HasFeedHead, IsLastOf, IsWithoutNews, counts_of_records, declines_of_records, entered_requests, listed_crl, no_feed_rows, page_crls, page_rows}
use Rattle.reg_office_api.specs.FollowedLeaders.{AreFeedPages, AreFollowCalls, CallsFollowLeader, FollowCall, FollowsLeader, HasLeaders, IsLeader, OnlyAddsRows, head_terms, own_after, undeclined}
use Rattle.reg_office_api.specs.declared.follow.FollowFault.{FollowFault}
use Rattle.reg_office_api.proofs.CopiedRows.{last_or, table_copied}
use Rattle.reg_office_api.proofs.DeclinedIds.{AreCounted, AreHad, all_counted, all_positions, declined_ids, either, from_counted, has_id, ids_stay, next_counted, one_of, own_counted, taken_among}
use Rattle.reg_office_api.proofs.FollowedRequests.{bare, bare_added, bare_after, bare_same, declined_after, same_requests}
use Rattle.reg_office_api.proofs.LeaderPages.{certificates_counted, certificates_part, certificates_whole, crls_counted, crls_part, crls_whole, declined_part, declined_whole, declines_are, from, length_map, orders_counted, orders_part, orders_whole, requests_counted, requests_open, requests_part, requests_whole, revocations_counted, revocations_part, revocations_whole, subscribers_counted, subscribers_part, subscribers_whole}
use Rattle.reg_office_api.proofs.LeaderStates.{grown, none_added}

abbrev page_ids : ReceivedPage → List ℕ
page_ids page = (feed_rows_of page.rows).declined

abbrev page_requests : ReceivedPage → List RequestRow
page_requests page = (feed_rows_of page.rows).requests

back_of : (id : ℕ) (ids more : List ℕ) → has_id id (ids ++ more) ≡ true → (has_id id ids || has_id id more) ≡ true
back_of id ids more has = sym (list_any-append (λ x. x == id) ids more) ∙ has

same_test : (b c : Bool) → (b ≡ true → c ≡ true) → (c ≡ true → b ≡ true) → b ≡ c
same_test true c on back = sym (on refl)
same_test false true on back = back refl
same_test false false on back = refl

-- what a call returned, or another value
abbrev or_else : Positions → Result Positions FollowFault → Positions
or_else own (Ok reached) = reached
or_else own (Err fault) = own

none_behind : {Row : Type 0} (rows part : List Row) → part ≡ [] → rows ≡ rows ++ (part ++ [])
none_behind rows part none = sym (append-nil rows) ∙ ap (λ l. rows ++ l) (sym (append-nil part ∙ none))

-- the last of pages
last_or_is : (earlier : List ReceivedPage) (page other : ReceivedPage) → last_or other (earlier ++ page ∷ []) ≡ page
last_or_is [] page other = refl
last_or_is (first ∷ earlier) page other = last_or_is earlier page first

joined_all : {A B : Type 0} (P : B → Type 0) (f : A → List B) (xs : List A) → AllByRecursion (λ x. AllByRecursion P (f x)) xs → AllByRecursion P (flat_map f xs)
joined_all P f [] all = tt
joined_all P f (x ∷ xs) all = all_append P (f x) (flat_map f xs) all.0 (joined_all P f xs all.1)

module _ (leader : ℕ → Records) (is : IsLeader leader) where
  feed_order : (pages : List ReceivedPage) (since at : ℕ) (counts : RowCounts) (declines : Declines) → AreFeedPages leader since counts declines pages at → since ≤ at
  feed_order [] since at counts declines are = absurd are
  feed_order (page ∷ []) since at counts declines (later, is_page, ends) = later
  feed_order (page ∷ next ∷ pages) since at counts declines (state, later, is_page, others) =
      let rest = feed_order (next ∷ pages) state at page.positions.counts page.positions.declines others in omega (arith, later, rest)

  -- ---- declines

  -- each id that was sent is of a request that the leader has declined
  ids_of_leader : (pages : List ReceivedPage) (since at : ℕ) (counts : RowCounts) (declines : Declines) → AreFeedPages leader since counts declines pages at
      → (id : ℕ) → has_id id (flat_map page_ids pages) ≡ true → has_id id (declined_ids (leader at).requests) ≡ true
  ids_of_leader [] since at counts declines are id has = absurd are
  ids_of_leader (page ∷ []) since at counts declines (later, is_page, ends) id has =
      let part = declined_part (leader at) counts declines page is_page in
      taken_among part.0 id (from (leader at) counts declines page is_page).last (page_ids page) (declined_ids (leader at).requests) part.1 (ap (has_id id) (sym (append-nil (page_ids page))) ∙ has)
  ids_of_leader (page ∷ next ∷ pages) since at counts declines (state, later, is_page, others) id has =
      let part = declined_part (leader state) counts declines page is_page in
      let most = feed_order (next ∷ pages) state at page.positions.counts page.positions.declines others in
      one_of id (page_ids page) (flat_map page_ids (next ∷ pages)) (has_id id (declined_ids (leader at).requests)) has
      (λ here. ids_stay id (leader state).requests (leader at).requests (grown leader is state at most).requests
      (taken_among part.0 id (from (leader state) counts declines page is_page).last (page_ids page) (declined_ids (leader state).requests) part.1 here))
      (ids_of_leader (next ∷ pages) state at page.positions.counts page.positions.declines others id)

  -- each declined request of the leader was sent, or had before; and the last page counts them all
  ids_copied : (pages : List ReceivedPage) (other : ReceivedPage) (had : List ℕ) (earlier since at : ℕ) (counts : RowCounts) (declines : Declines) → earlier ≤ since
      → AreCounted (leader earlier).requests declines → AreHad (leader earlier).requests declines had → AreFeedPages leader since counts declines pages at
      → ((id : ℕ) → has_id id (declined_ids (leader at).requests) ≡ true → has_id id (had ++ flat_map page_ids pages) ≡ true)
      × ((last_or other pages).positions.declines ≡ declines_of_records (leader at))
  ids_copied [] other had earlier since at counts declines order counted has are = absurd are
  ids_copied (page ∷ []) other had earlier since at counts declines order counted has (later, is_page, ends) =
      let requests = (leader at).requests in
      let numbered = (is.sound at).requests.numbered in
      let start = from (leader at) counts declines page is_page in
      let begun = from_counted (leader earlier).requests requests declines had (grown leader is earlier at (omega (arith, order, later))).requests numbered counted has in
      let whole = declined_whole (leader at) counts declines page is_page ends in (
        (λ id among. ap (λ l. has_id id (had ++ l)) (append-nil (page_ids page)) ∙ all_counted requests start (page_ids page) had whole begun.1 id among),
        declines_are (leader at) counts declines page is_page ∙ all_positions requests start (page_ids page) numbered whole begun.0,
      )
  ids_copied (page ∷ next ∷ pages) other had earlier since at counts declines order counted has (state, later, is_page, others) =
      let requests = (leader state).requests in
      let numbered = (is.sound state).requests.numbered in
      let begun = from_counted (leader earlier).requests requests declines had (grown leader is earlier state (omega (arith, order, later))).requests numbered counted has in
      let part = declined_part (leader state) counts declines page is_page in
      let both = next_counted part.0 requests (from (leader state) counts declines page is_page) (page_ids page) had numbered part.1 begun.0 begun.1 in
      let reached = declines_are (leader state) counts declines page is_page in
      let rest = ids_copied (next ∷ pages) page (had ++ page_ids page) state state at page.positions.counts page.positions.declines (le_refl state)
      (subst (AreCounted requests) (sym reached) both.0) (subst (λ (d : Declines). AreHad requests d (had ++ page_ids page)) (sym reached) both.1) others in
      ((λ id among. ap (has_id id) (sym (append_assoc had (page_ids page) (flat_map page_ids (next ∷ pages)))) ∙ rest.0 id among), rest.1)

  -- ---- requests

  pages_open : (pages : List ReceivedPage) (since at : ℕ) (counts : RowCounts) (declines : Declines) → AreFeedPages leader since counts declines pages at
      → AllByRecursion (λ page. AllByRecursion (λ row. row.declined ≡ false) (page_requests page)) pages
  pages_open [] since at counts declines are = absurd are
  pages_open (page ∷ []) since at counts declines (later, is_page, ends) = (requests_open (leader at) counts declines page is_page, tt)
  pages_open (page ∷ next ∷ pages) since at counts declines (state, later, is_page, others) =
      (requests_open (leader state) counts declines page is_page, pages_open (next ∷ pages) state at page.positions.counts page.positions.declines others)

  -- ---- the head of the last page

  head_copied : (pages : List ReceivedPage) (other : ReceivedPage) (since at : ℕ) (counts : RowCounts) (declines : Declines) → AreFeedPages leader since counts declines pages at
      → head_terms_of (last_or other pages).head ≡ head_terms (leader at)
  head_copied [] other since at counts declines are = absurd are
  head_copied (page ∷ []) other since at counts declines (later, is_page, ends) = is_page.head
  head_copied (page ∷ next ∷ pages) other since at counts declines (state, later, is_page, others) =
      head_copied (next ∷ pages) page state at page.positions.counts page.positions.declines others

  -- ---- all records

  module _ (had since at : ℕ) (order : had ≤ since) (own : Positions) (are_own : ArePositionsOf (leader had) own) (pages : List ReceivedPage)
      (are : AreFeedPages leader since own.counts own.declines pages at) (other : ReceivedPage) where
    abbrev held : Records
    held = leader had

    -- the positions of the last page
    abbrev last_positions : Positions
    last_positions = (last_or other pages).positions

    subscribers_copied : (held.subscribers ++ page_rows (λ rows. rows.subscribers) pages ≡ (leader at).subscribers) × (last_positions.counts.subscribers ≡ length (leader at).subscribers)
    subscribers_copied =
        table_copied leader is (λ records. records.subscribers) (λ page. (feed_rows_of page.rows).subscribers) (λ counts. counts.subscribers)
        (λ first second only. only.subscribers) subscribers_counted subscribers_part (λ records counts declines page sound is_page ends. subscribers_whole records counts declines page is_page ends)
        pages other held.subscribers had since at own.counts own.declines order (none_added held.subscribers) (ap (λ (c : RowCounts). c.subscribers) are_own.counts) are

    orders_copied : (held.orders ++ page_rows (λ rows. rows.orders) pages ≡ (leader at).orders) × (last_positions.counts.orders ≡ length (leader at).orders)
    orders_copied =
        table_copied leader is (λ records. records.orders) (λ page. (feed_rows_of page.rows).orders) (λ counts. counts.orders)
        (λ first second only. only.orders) orders_counted orders_part (λ records counts declines page sound is_page ends. orders_whole records counts declines page is_page ends)
        pages other held.orders had since at own.counts own.declines order (none_added held.orders) (ap (λ (c : RowCounts). c.orders) are_own.counts) are

    certificates_copied : (held.certificates ++ page_rows (λ rows. rows.certificates) pages ≡ (leader at).certificates) × (last_positions.counts.certificates ≡ length (leader at).certificates)
    certificates_copied =
        table_copied leader is (λ records. records.certificates) (λ page. (feed_rows_of page.rows).certificates) (λ counts. counts.certificates)
        (λ first second only. only.certificates) certificates_counted certificates_part (λ records counts declines page sound is_page ends. certificates_whole records counts declines page is_page ends)
        pages other held.certificates had since at own.counts own.declines order (none_added held.certificates) (ap (λ (c : RowCounts). c.certificates) are_own.counts) are

    revocations_copied : (held.revocations ++ page_rows (λ rows. rows.revocations) pages ≡ (leader at).revocations) × (last_positions.counts.revocations ≡ length (leader at).revocations)
    revocations_copied =
        table_copied leader is (λ records. records.revocations) (λ page. (feed_rows_of page.rows).revocations) (λ counts. counts.revocations)
        (λ first second only. only.revocations) revocations_counted revocations_part (λ records counts declines page sound is_page ends. revocations_whole records counts declines page is_page ends sound)
        pages other held.revocations had since at own.counts own.declines order (none_added held.revocations) (ap (λ (c : RowCounts). c.revocations) are_own.counts) are

    crls_copied : (held.crls ++ page_crls pages ≡ (leader at).crls) × (last_positions.counts.crls ≡ length (leader at).crls)
    crls_copied =
        table_copied leader is (λ records. records.crls) (λ page. listed_crl page.crl) (λ counts. counts.crls)
        (λ first second only. only.crls) crls_counted crls_part (λ records counts declines page sound is_page ends. crls_whole records counts declines page is_page ends)
        pages other held.crls had since at own.counts own.declines order (none_added held.crls) (ap (λ (c : RowCounts). c.crls) are_own.counts) are

    -- the requests, declined or not
    bare_copied : (bare held.requests ++ flat_map page_requests pages ≡ bare (leader at).requests) × (last_positions.counts.requests ≡ length (bare (leader at).requests))
    bare_copied =
        table_copied leader is (λ records. bare records.requests) page_requests (λ counts. counts.requests)
        (λ first second only. bare_added first.requests second.requests only.requests) requests_counted requests_part
        (λ records counts declines page sound is_page ends. requests_whole records counts declines page is_page ends)
        pages other (bare held.requests) had since at own.counts own.declines order (none_added (bare held.requests))
        (ap (λ (c : RowCounts). c.requests) are_own.counts ∙ sym (length_map undeclined held.requests)) are

    declined_copied : ((id : ℕ) → has_id id (declined_ids (leader at).requests) ≡ true → has_id id (declined_ids held.requests ++ flat_map page_ids pages) ≡ true)
        × (last_positions.declines ≡ declines_of_records (leader at))
    declined_copied =
        let counted = own_counted held.requests own.declines (is.sound had).requests.numbered are_own.declines in
        ids_copied pages other (declined_ids held.requests) had since at own.counts own.declines order counted.0 counted.1 are

    counts_copied : last_positions.counts ≡ counts_of_records (leader at)
    counts_copied = λ i. record {
      subscribers = subscribers_copied.1 i;
      orders = orders_copied.1 i;
      certificates = certificates_copied.1 i;
      requests = (bare_copied.1 ∙ length_map undeclined (leader at).requests) i;
      revocations = revocations_copied.1 i;
      crls = crls_copied.1 i;
    }

    module _ (after : Records) (adds : AddsRows pages (leader had) after) where
      open_entered : AllByRecursion (λ row. row.declined ≡ false) (entered_requests adds.requests.events)
      open_entered = subst (AllByRecursion (λ row. row.declined ≡ false)) (sym adds.requests.entered) (joined_all (λ (row : RequestRow). row.declined ≡ false) page_requests pages (pages_open pages since at own.counts own.declines are))

      same_rows : bare after.requests ≡ bare (leader at).requests
      same_rows =
          ap bare adds.requests.reached ∙ bare_after adds.requests.events held.requests
          ∙ ap (λ l. bare held.requests ++ l) (bare_same (entered_requests adds.requests.events) open_entered ∙ adds.requests.entered)
          ∙ bare_copied.0

      same_declined : (id : ℕ) → has_id id (declined_ids after.requests) ≡ has_id id (declined_ids (leader at).requests)
      same_declined id =
          let ids = flat_map page_ids pages in
          let entered : has_id id (declined_ids after.requests) ≡ (has_id id (declined_ids held.requests) || has_id id ids) =
          ap (λ l. has_id id (declined_ids l)) adds.requests.reached ∙ declined_after id adds.requests.events held.requests adds.requests.later open_entered
          ∙ ap (λ l. has_id id (declined_ids held.requests) || has_id id l) adds.requests.declined in
          let most = feed_order pages since at own.counts own.declines are in
          entered ∙ same_test _ _
          (λ has. either (has_id id (declined_ids held.requests)) (has_id id ids) (has_id id (declined_ids (leader at).requests)) has
          (ids_stay id held.requests (leader at).requests (grown leader is had at (omega (arith, order, most))).requests)
          (ids_of_leader pages since at own.counts own.declines are id))
          (λ among. back_of id (declined_ids held.requests) ids (declined_copied.0 id among))

      requests_are : after.requests ≡ (leader at).requests
      requests_are = same_requests after.requests (leader at).requests (is.sound at).requests.numbered same_rows same_declined

      -- the page is the last one
      module _ (last : IsLastOf pages other) (head : HasFeedHead other.head after) where
        last_is : last_or other pages ≡ other
        last_is = ap (last_or other) last.1 ∙ last_or_is last.0 other other

        head_is : head_terms_of other.head ≡ head_terms (leader at)
        head_is = ap (λ (page : ReceivedPage). head_terms_of page.head) (sym last_is) ∙ head_copied pages other since at own.counts own.declines are

        pub records_copied : after ≡ leader at
        records_copied = λ i. record {
          issuer = record {
            name = (head.name ∙ ap (λ (terms : HeadTerms). terms.name) head_is) i;
            key = (head.key ∙ ap (λ (terms : HeadTerms). terms.key) head_is) i;
          };
          policy = (head.policy ∙ ap (λ (terms : HeadTerms). terms.policy) head_is) i;
          last = (head.last ∙ ap (λ (terms : HeadTerms). terms.last) head_is) i;
          subscribers = (adds.subscribers ∙ subscribers_copied.0) i;
          orders = (adds.orders ∙ orders_copied.0) i;
          certificates = (adds.certificates ∙ certificates_copied.0) i;
          requests = requests_are i;
          revocations = (adds.revocations ∙ revocations_copied.0) i;
          crls = (adds.crls ∙ crls_copied.0) i;
        }

        pub positions_copied : IsInHistory (name_of after.issuer) after other.positions → ArePositionsOf after other.positions
        positions_copied history = record {
          counts = ap (λ (page : ReceivedPage). page.positions.counts) (sym last_is) ∙ counts_copied ∙ ap counts_of_records (sym records_copied);
          declines = ap (λ (page : ReceivedPage). page.positions.declines) (sym last_is) ∙ declined_copied.1 ∙ ap declines_of_records (sym records_copied);
          history = history;
        }

  -- ---- one call

  -- a page without rows adds none
  adds_none : (page : ReceivedPage) (records : Records) → IsWithoutNews page records → AddsRows (page ∷ []) records records
  adds_none page records without =
      let none : feed_rows_of page.rows ≡ no_feed_rows = without.rows in
      record {
        subscribers = none_behind records.subscribers _ (ap (λ (rows : RowLists). rows.subscribers) none);
        orders = none_behind records.orders _ (ap (λ (rows : RowLists). rows.orders) none);
        certificates = none_behind records.certificates _ (ap (λ (rows : RowLists). rows.certificates) none);
        requests = record {
          events = [];
          entered = ap (λ (rows : RowLists). rows.requests ++ []) (sym none);
          declined = ap (λ (rows : RowLists). rows.declined ++ []) (sym none);
          later = tt;
          reached = refl;
        };
        revocations = none_behind records.revocations _ (ap (λ (rows : RowLists). rows.revocations) none);
        crls = none_behind records.crls _ (ap listed_crl without.crl);
      }

  call_of : (had since at : ℕ) (own : Positions) (pages : List ReceivedPage) (result : Result Positions FollowFault) (after : Records) → had ≤ since
      → ArePositionsOf (leader had) own → AreFeedPages leader since own.counts own.declines pages at → FollowStep own pages result (leader had) after → HasLeaders leader had at result after
  call_of had since at own pages (Ok reached) after order are_own are (inl enters) = (
    records_copied had since at order own are_own pages are enters.page after enters.rows enters.is_last enters.head,
    subst (ArePositionsOf after) (sym enters.positions)
        (positions_copied had since at order own are_own pages are enters.page after enters.rows enters.is_last enters.head
        (subst (IsInHistory (name_of after.issuer) after) enters.positions enters.history)),
  )
  call_of had since at own pages (Err fault) after order are_own are (inl enters) = enters
  call_of had since at own pages (Ok reached) after order are_own are (inr stays) =
      let are_alone = subst (λ l. AreFeedPages leader since own.counts own.declines l at) stays.alone are in
      let same = records_copied had since at order own are_own (stays.page ∷ []) are_alone stays.page (leader had) (adds_none stays.page (leader had) stays.without) ([], refl) stays.without.head in
      (stays.stays ∙ same, subst₂ ArePositionsOf (sym stays.stays) (sym (ap (or_else own) stays.same)) are_own)
  call_of had since at own pages (Err fault) after order are_own are (inr stays) = stays.stays

  -- ---- call after call

  after_call : (had at : ℕ) (own : Positions) (result : Result Positions FollowFault) (records : Records) → had ≤ at → ArePositionsOf (leader had) own → HasLeaders leader had at result records
      → (state : ℕ) × (had ≤ state) × (state ≤ at) × (records ≡ leader state) × ArePositionsOf records (own_after own result)
  after_call had at own (Ok reached) records order are_own has = (at, order, le_refl at, has.0, has.1)
  after_call had at own (Err fault) records order are_own has = (had, le_refl had, order, has, subst (λ (r : Records). ArePositionsOf r own) (sym has) are_own)

  calls_of : (calls : List FollowCall) (had since : ℕ) (own : Positions) (before after : Records) → before ≡ leader had → had ≤ since → ArePositionsOf before own
      → AreFollowCalls leader since own calls before after → (state : ℕ) × (had ≤ state) × (after ≡ leader state)
  calls_of [] had since own before after begun order are_own run = (had, le_refl had, run ∙ begun)
  calls_of (call ∷ calls) had since own before after begun order are_own (next, are, step, others) =
      let own_had = subst (λ (r : Records). ArePositionsOf r own) begun are_own in
      let most = feed_order call.pages since call.at own.counts own.declines are in
      let up : had ≤ call.at = omega (arith, order, most) in
      let has = call_of had since call.at own call.pages call.result next order own_had are (subst (λ (r : Records). FollowStep own call.pages call.result r next) begun step) in
      let (state, first, second, same, positions) = after_call had call.at own call.result next up own_had has in
      let (last, third, is_last) = calls_of calls state call.at (own_after own call.result) next after same second positions others in
      (last, omega (arith, first, third), is_last)

pub follows_leader : FollowsLeader
follows_leader leader had since at own pages result before after is begun order are_own are step =
    call_of leader is had since at own pages result after order (subst (λ (r : Records). ArePositionsOf r own) begun are_own) are
    (subst (λ (r : Records). FollowStep own pages result r after) begun step)

pub calls_follow_leader : CallsFollowLeader
calls_follow_leader leader had since own calls before after is begun order are_own run =
    let (state, later, same) = calls_of leader is calls had since own before after begun order are_own run in
    (state, later, same, subst (λ (r : Records). OnlyAddsRows r after) (sym begun) (subst (OnlyAddsRows (leader had)) (sym same) (grown leader is had state later)))
