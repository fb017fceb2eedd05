-- The rows that were replayed, one after another.
use Rattle.std.proofs.Common.{◌≡◌, ◌∙◌, ℕ, ◌+◌, List, [], ◌∷◌, ◌++◌, length, map, take, Option, Some, None, inl, inr, refl, sym, ap, subst, arith}
use Rattle.std.proofs.lemmas.List.{append-nil, append_assoc, take_all, take_more}
use Rattle.std.proofs.lemmas.Grind.{flat_map-append}
use Rattle.std.proofs.lemmas.Option.{get_or_from_slice_get, slice_get_within}
use Rattle.std.specs.List.{slice_get}
use Rattle.std.specs.Prelude.{IsSome}
use Rattle.reg_core.specs.Changes.{declined_if, with_crl}
use Rattle.reg_core.specs.Records.{Records, request_in}
use Rattle.reg_core.specs.declared.rows.RequestRow.{RequestRow}
use Rattle.reg_core_lists.specs.Feed.{RowLists, feed_crl_of}
use Rattle.reg_core_lists.specs.declared.feed.FeedCrl.{FeedCrl}
use Rattle.reg_core_lists.specs.declared.feed_reader.ReceivedPage.{ReceivedPage}
use Rattle.reg_office_api.specs.Follows.{AddsRequests, AreDeclinedLater, RequestEvent, decline_event, declined_requests, entered_requests, listed_crl, page_crls, request_event, requests_after}
use Rattle.reg_office.specs.Replays.{ReplaysMore, AreAllReplayed, EntersFeedRow, EntersPageCrl, HasReplayed, HasReplayedAll, HasRequest, IsNextFeedRow, joined_rows, none_replayed, with_feed_row}
use Rattle.reg_office.specs.declared.feed_row.FeedRow.{FeedRow}
use Rattle.reg_office.specs.declared.feed_row.FeedRow.TheVariants.{Subscriber, Order, Certificate, Request, Declined, Revocation}
use Rattle.reg_office.specs.declared.replay_order.Replayed.{Replayed}

-- ---- lists

-- one row more of a list
pub one_taken : {A : Type 0} (rows : List A) (n : ℕ) (row : A) → slice_get rows n ≡ Some row → take (n + 1) rows ≡ take n rows ++ row ∷ []
one_taken rows n row found =
    take_more rows n row (slice_get_within rows n row found) ∙ ap (λ x. take n rows ++ x ∷ []) (get_or_from_slice_get rows n row row found)

-- behind others
pub one_more : {A : Type 0} (first rows : List A) (n : ℕ) (row : A) (now : List A) → slice_get rows n ≡ Some row → now ≡ first ++ take n rows → now ++ row ∷ [] ≡ first ++ take (n + 1) rows
one_more first rows n row now found is =
    ap (λ l. l ++ row ∷ []) is ∙ append_assoc first (take n rows) (row ∷ []) ∙ ap (λ l. first ++ l) (sym (one_taken rows n row found))

-- ---- requests

entered_more : (events : List RequestEvent) (row : RequestRow) → entered_requests (events ++ request_event row ∷ []) ≡ entered_requests events ++ row ∷ []
entered_more [] row = refl
entered_more (request_event first ∷ events) row = ap (λ l. first ∷ l) (entered_more events row)
entered_more (decline_event id ∷ events) row = entered_more events row

entered_same : (events : List RequestEvent) (id : ℕ) → entered_requests (events ++ decline_event id ∷ []) ≡ entered_requests events
entered_same [] id = refl
entered_same (request_event first ∷ events) id = ap (λ l. first ∷ l) (entered_same events id)
entered_same (decline_event other ∷ events) id = entered_same events id

declined_more : (events : List RequestEvent) (id : ℕ) → declined_requests (events ++ decline_event id ∷ []) ≡ declined_requests events ++ id ∷ []
declined_more [] id = refl
declined_more (request_event first ∷ events) id = declined_more events id
declined_more (decline_event other ∷ events) id = ap (λ l. other ∷ l) (declined_more events id)

declined_same : (events : List RequestEvent) (row : RequestRow) → declined_requests (events ++ request_event row ∷ []) ≡ declined_requests events
declined_same [] row = refl
declined_same (request_event first ∷ events) row = declined_same events row
declined_same (decline_event other ∷ events) row = ap (λ l. other ∷ l) (declined_same events row)

after_entered : (events : List RequestEvent) (row : RequestRow) (before : List RequestRow) → requests_after (events ++ request_event row ∷ []) before ≡ requests_after events before ++ row ∷ []
after_entered [] row before = refl
after_entered (request_event first ∷ events) row before = after_entered events row (before ++ first ∷ [])
after_entered (decline_event id ∷ events) row before = after_entered events row (map (declined_if id) before)

after_declined : (events : List RequestEvent) (id : ℕ) (before : List RequestRow) → requests_after (events ++ decline_event id ∷ []) before ≡ map (declined_if id) (requests_after events before)
after_declined [] id before = refl
after_declined (request_event first ∷ events) id before = after_declined events id (before ++ first ∷ [])
after_declined (decline_event other ∷ events) id before = after_declined events id (map (declined_if other) before)

later_entered : (events : List RequestEvent) (row : RequestRow) (before : List RequestRow) → AreDeclinedLater events before → AreDeclinedLater (events ++ request_event row ∷ []) before
later_entered [] row before later = tt
later_entered (request_event first ∷ events) row before later = later_entered events row (before ++ first ∷ []) later
later_entered (decline_event id ∷ events) row before later = (later.0, later_entered events row (map (declined_if id) before) later.1)

later_declined : (events : List RequestEvent) (id : ℕ) (before : List RequestRow) → AreDeclinedLater events before → IsSome (request_in (requests_after events before) id)
    → AreDeclinedLater (events ++ decline_event id ∷ []) before
later_declined [] id before later some = (some, tt)
later_declined (request_event first ∷ events) id before later some = later_declined events id (before ++ first ∷ []) later some
later_declined (decline_event other ∷ events) id before later some = (later.0, later_declined events id (map (declined_if other) before) later.1 some)

-- a request is entered
adds_request : {rows : List RequestRow} {ids : List ℕ} {before after : List RequestRow} (row : RequestRow) → AddsRequests rows ids before after → AddsRequests (rows ++ row ∷ []) ids before (after ++ row ∷ [])
adds_request {before = before} row adds = record {
  events = adds.events ++ request_event row ∷ [];
  entered = entered_more adds.events row ∙ ap (λ l. l ++ row ∷ []) adds.entered;
  declined = declined_same adds.events row ∙ adds.declined;
  later = later_entered adds.events row before adds.later;
  reached = ap (λ l. l ++ row ∷ []) adds.reached ∙ sym (after_entered adds.events row before);
}

-- or declined
adds_decline : {rows : List RequestRow} {ids : List ℕ} {before after : List RequestRow} (id : ℕ) → IsSome (request_in after id) → AddsRequests rows ids before after → AddsRequests rows (ids ++ id ∷ []) before (map (declined_if id) after)
adds_decline {before = before} id some adds = record {
  events = adds.events ++ decline_event id ∷ [];
  entered = entered_same adds.events id ∙ adds.entered;
  declined = declined_more adds.events id ∙ ap (λ l. l ++ id ∷ []) adds.declined;
  later = later_declined adds.events id before adds.later (subst (λ l. IsSome (request_in l id)) adds.reached some);
  reached = ap (map (declined_if id)) adds.reached ∙ sym (after_declined adds.events id before);
}

requests_more : (rows : List RequestRow) (n : ℕ) (row : RequestRow) {ids : List ℕ} {before after : List RequestRow} → slice_get rows n ≡ Some row → AddsRequests (take n rows) ids before after
    → AddsRequests (take (n + 1) rows) ids before (after ++ row ∷ [])
requests_more rows n row {ids = ids} {before = before} {after = after} found adds =
    subst (λ l. AddsRequests l ids before (after ++ row ∷ [])) (sym (one_taken rows n row found)) (adds_request row adds)

declines_more : (ids : List ℕ) (n : ℕ) (id : ℕ) {rows before after : List RequestRow} → slice_get ids n ≡ Some id → IsSome (request_in after id) → AddsRequests rows (take n ids) before after
    → AddsRequests rows (take (n + 1) ids) before (map (declined_if id) after)
declines_more ids n id {rows = rows} {before = before} {after = after} found some adds =
    subst (λ l. AddsRequests rows l before (map (declined_if id) after)) (sym (one_taken ids n id found)) (adds_decline id some adds)

-- ---- one row

module _ (rows : RowLists) (pages : List ReceivedPage) (done : Replayed) (at : ℕ) (before origin : Records) (has : HasReplayed rows pages done origin before) where
  abbrev Has : Replayed → Records → Type 0
  Has next records = HasReplayed rows pages next origin records

  row_enters : (row : FeedRow) (next : Replayed) → IsNextFeedRow rows done row next → HasRequest row before → Has next (with_feed_row before at row)
  row_enters (Subscriber row) next (found, is) there = subst (λ (n : Replayed). Has n (with_feed_row before at (Subscriber row))) (sym is) (record {
    subscribers = one_more origin.subscribers rows.subscribers done.subscribers row before.subscribers found has.subscribers;
    orders = has.orders;
    certificates = has.certificates;
    requests = has.requests;
    revocations = has.revocations;
    crls = has.crls;
    issuer = has.issuer;
    policy = has.policy;
  })
  row_enters (Order row) next (found, is) there = subst (λ (n : Replayed). Has n (with_feed_row before at (Order row))) (sym is) (record {
    orders = one_more origin.orders rows.orders done.orders row before.orders found has.orders;
    subscribers = has.subscribers;
    certificates = has.certificates;
    requests = has.requests;
    revocations = has.revocations;
    crls = has.crls;
    issuer = has.issuer;
    policy = has.policy;
  })
  row_enters (Certificate row) next (found, is) there = subst (λ (n : Replayed). Has n (with_feed_row before at (Certificate row))) (sym is) (record {
    certificates = one_more origin.certificates rows.certificates done.certificates row before.certificates found has.certificates;
    subscribers = has.subscribers;
    orders = has.orders;
    requests = has.requests;
    revocations = has.revocations;
    crls = has.crls;
    issuer = has.issuer;
    policy = has.policy;
  })
  row_enters (Request row) next (found, is) there = subst (λ (n : Replayed). Has n (with_feed_row before at (Request row))) (sym is) (record {
    requests = requests_more rows.requests done.requests row found has.requests;
    subscribers = has.subscribers;
    orders = has.orders;
    certificates = has.certificates;
    revocations = has.revocations;
    crls = has.crls;
    issuer = has.issuer;
    policy = has.policy;
  })
  row_enters (Declined id) next (found, is) there = subst (λ (n : Replayed). Has n (with_feed_row before at (Declined id))) (sym is) (record {
    requests = declines_more rows.declined done.declined id found there has.requests;
    subscribers = has.subscribers;
    orders = has.orders;
    certificates = has.certificates;
    revocations = has.revocations;
    crls = has.crls;
    issuer = has.issuer;
    policy = has.policy;
  })
  row_enters (Revocation row) next (found, is) there = subst (λ (n : Replayed). Has n (with_feed_row before at (Revocation row))) (sym is) (record {
    revocations = one_more origin.revocations rows.revocations done.revocations row before.revocations found has.revocations;
    subscribers = has.subscribers;
    orders = has.orders;
    certificates = has.certificates;
    requests = has.requests;
    crls = has.crls;
    issuer = has.issuer;
    policy = has.policy;
  })

  -- a request that was declined already is as if it were declined again
  row_stays : (id : ℕ) (next : Replayed) → IsNextFeedRow rows done (Declined id) next → IsSome (request_in before.requests id) → map (declined_if id) before.requests ≡ before.requests → Has next before
  row_stays id next (found, is) there same = subst (λ (n : Replayed). Has n before) (sym is) (record {
    requests = subst (λ l. AddsRequests (take done.requests rows.requests) (take (done.declined + 1) rows.declined) origin.requests l) same (declines_more rows.declined done.declined id found there has.requests);
    subscribers = has.subscribers;
    orders = has.orders;
    certificates = has.certificates;
    revocations = has.revocations;
    crls = has.crls;
    issuer = has.issuer;
    policy = has.policy;
  })

  row_or_stays : (row : FeedRow) (next : Replayed) (after : Records) → IsNextFeedRow rows done row next → EntersFeedRow at row before after → Has next after
  row_or_stays row next after is (there, inl entered) = subst (λ (r : Records). Has next r) (sym entered) (row_enters row next is there)
  row_or_stays (Declined id) next after is (there, inr (stays, same)) = subst (λ (r : Records). Has next r) (sym stays) (row_stays id next is there same)
  row_or_stays (Subscriber row) next after is (there, inr (stays, none)) = absurd none
  row_or_stays (Order row) next after is (there, inr (stays, none)) = absurd none
  row_or_stays (Certificate row) next after is (there, inr (stays, none)) = absurd none
  row_or_stays (Request row) next after is (there, inr (stays, none)) = absurd none
  row_or_stays (Revocation row) next after is (there, inr (stays, none)) = absurd none

  -- the CRLs of one page more
  crls_more : (page : ReceivedPage) → slice_get pages done.pages ≡ Some page → page_crls (take (done.pages + 1) pages) ≡ page_crls (take done.pages pages) ++ listed_crl page.crl
  crls_more page found =
      ap page_crls (one_taken pages done.pages page found)
      ∙ flat_map-append (λ (p : ReceivedPage). listed_crl p.crl) (take done.pages pages) (page ∷ [])
      ∙ ap (λ l. page_crls (take done.pages pages) ++ l) (append-nil (listed_crl page.crl))

  page_none : (page : ReceivedPage) → slice_get pages done.pages ≡ Some page → page.crl ≡ None → Has (record done { pages = done.pages + 1 }) before
  page_none page found none = record {
    crls = has.crls ∙ ap (λ l. origin.crls ++ l) (sym (append-nil _) ∙ ap (λ (o : Option FeedCrl). page_crls (take done.pages pages) ++ listed_crl o) (sym none) ∙ sym (crls_more page found));
    subscribers = has.subscribers;
    orders = has.orders;
    certificates = has.certificates;
    requests = has.requests;
    revocations = has.revocations;
    issuer = has.issuer;
    policy = has.policy;
  }

  page_crl : (page : ReceivedPage) (crl : FeedCrl) → slice_get pages done.pages ≡ Some page → page.crl ≡ Some crl → Has (record done { pages = done.pages + 1 }) (with_crl before at (feed_crl_of crl))
  page_crl page crl found some = record {
    crls = ap (λ l. l ++ feed_crl_of crl ∷ []) has.crls ∙ append_assoc origin.crls (page_crls (take done.pages pages)) (feed_crl_of crl ∷ [])
        ∙ ap (λ l. origin.crls ++ l) (ap (λ (o : Option FeedCrl). page_crls (take done.pages pages) ++ listed_crl o) (sym some) ∙ sym (crls_more page found));
    subscribers = has.subscribers;
    orders = has.orders;
    certificates = has.certificates;
    requests = has.requests;
    revocations = has.revocations;
    issuer = has.issuer;
    policy = has.policy;
  }

-- a row that is no decline needs no request
pub no_decline : (row : FeedRow) (records : Records) → ((id : ℕ) → row ≡ Declined id → ⊥) → HasRequest row records
no_decline (Declined id) records none = absurd (none id refl)
no_decline (Subscriber row) records none = tt
no_decline (Order row) records none = tt
no_decline (Certificate row) records none = tt
no_decline (Request row) records none = tt
no_decline (Revocation row) records none = tt

-- a row more is an advance
pub row_advances : (rows : RowLists) (pages : List ReceivedPage) (done next : Replayed) (at : ℕ) (row : FeedRow) → IsNextFeedRow rows done row next → (before after : Records) → EntersFeedRow at row before after
    → ReplaysMore rows pages done next before after
row_advances rows pages done next at row is before after enters origin has = row_or_stays rows pages done at before origin has row next after is enters

page_advances : (rows : RowLists) (pages : List ReceivedPage) (done : Replayed) (page : ReceivedPage) → slice_get pages done.pages ≡ Some page → page.crl ≡ None → (before : Records)
    → ReplaysMore rows pages done (record done { pages = done.pages + 1 }) before before
page_advances rows pages done page found none before origin has = page_none rows pages done 0 before origin has page found none

crl_advances : (rows : RowLists) (pages : List ReceivedPage) (done : Replayed) (page : ReceivedPage) (crl : FeedCrl) (at : ℕ) → slice_get pages done.pages ≡ Some page → page.crl ≡ Some crl → (before : Records)
    → ReplaysMore rows pages done (record done { pages = done.pages + 1 }) before (with_crl before at (feed_crl_of crl))
crl_advances rows pages done page crl at found some before origin has = page_crl rows pages done at before origin has page crl found some

-- the CRL of a page, or none
pub page_crl_advances : (rows : RowLists) (pages : List ReceivedPage) (done : Replayed) (page : ReceivedPage) → slice_get pages done.pages ≡ Some page → (before after : Records) → EntersPageCrl page.crl before after
    → ReplaysMore rows pages done (record done { pages = done.pages + 1 }) before after
page_crl_advances rows pages done page found before after = go page.crl refl
  where
    go : (o : Option FeedCrl) → page.crl ≡ o → EntersPageCrl o before after → ReplaysMore rows pages done (record done { pages = done.pages + 1 }) before after
    go None is stays = subst (λ (r : Records). ReplaysMore rows pages done (record done { pages = done.pages + 1 }) before r) (sym stays) (page_advances rows pages done page found is before)
    go (Some crl) is enters =
        subst (λ (r : Records). ReplaysMore rows pages done (record done { pages = done.pages + 1 }) before r) (sym enters) (crl_advances rows pages done page crl crl.row.this_update found is before)

-- ---- from the first row to the last

pub none_advanced : (rows : RowLists) (pages : List ReceivedPage) (records : Records) → HasReplayed rows pages none_replayed records records
none_advanced rows pages records = record {
  subscribers = sym (append-nil records.subscribers);
  orders = sym (append-nil records.orders);
  certificates = sym (append-nil records.certificates);
  requests = record { events = []; entered = refl; declined = refl; later = tt; reached = refl };
  revocations = sym (append-nil records.revocations);
  crls = sym (append-nil records.crls);
  issuer = refl;
  policy = refl;
}

-- all of a list
whole : {A : Type 0} (n : ℕ) (rows : List A) → n ≡ length rows → take n rows ≡ rows
whole n rows is = take_all n rows (omega (arith, is))

pub all_advanced : (pages : List ReceivedPage) (done : Replayed) (before after : Records) → AreAllReplayed (joined_rows pages) (length pages) done → HasReplayed (joined_rows pages) pages done before after
    → HasReplayedAll pages before after
all_advanced pages done before after all has =
    let rows = joined_rows pages in
    record {
      rows = record {
        subscribers = has.subscribers ∙ ap (λ l. before.subscribers ++ l) (whole done.subscribers rows.subscribers all.subscribers);
        orders = has.orders ∙ ap (λ l. before.orders ++ l) (whole done.orders rows.orders all.orders);
        certificates = has.certificates ∙ ap (λ l. before.certificates ++ l) (whole done.certificates rows.certificates all.certificates);
        requests = subst (λ l. AddsRequests l rows.declined before.requests after.requests) (whole done.requests rows.requests all.requests)
            (subst (λ l. AddsRequests (take done.requests rows.requests) l before.requests after.requests) (whole done.declined rows.declined all.declined) has.requests);
        revocations = has.revocations ∙ ap (λ l. before.revocations ++ l) (whole done.revocations rows.revocations all.revocations);
        crls = has.crls ∙ ap (λ l. before.crls ++ page_crls l) (whole done.pages pages all.pages);
      };
      issuer = has.issuer;
      policy = has.policy;
    }
