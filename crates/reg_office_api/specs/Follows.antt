-- The calls by which a register copies another one: the positions of its records in their own changes feed, and pages of the other register's feed
-- that are entered.
use Rattle.std.specs.Prelude.{◌≡◌, ◌⊎◌, ℕ, ◌≤◌, List, [], ◌∷◌, ◌++◌, length, map, filter, flat_map, Option, Some, None, IsSome, Result, Ok, Err}
use Rattle.reg_core.specs.Changes.{declined_if}
use Rattle.reg_core.specs.Records.{Records, Crl, request_in}
use Rattle.reg_core.specs.declared.rows.RequestRow.{RequestRow}
use Rattle.reg_core_lists.specs.Feed.{IsInHistory, RowLists, declines_after, feed_crl_of, feed_rows_of, no_declines}
use Rattle.reg_core_lists.specs.declared.feed.FeedCrl.{FeedCrl}
use Rattle.reg_core_lists.specs.declared.feed_reader.FeedHead.{FeedHead}
use Rattle.reg_core_lists.specs.declared.feed_reader.ReceivedPage.{ReceivedPage}
use Rattle.reg_core_lists.specs.declared.positions.Declines.{Declines}
use Rattle.reg_core_lists.specs.declared.positions.Positions.{Positions}
use Rattle.reg_core_lists.specs.declared.positions.RowCounts.{RowCounts}
use Rattle.reg_crl.specs.Signing.{Identity}
use Rattle.reg_der.specs.Authority.{key_identifier_at, name_of}
use Rattle.reg_office_api.specs.Signers.{Signs}
use Rattle.reg_office_api.specs.declared.follow.FollowFault.{FollowFault}

-- ---- positions

-- how many rows each table has
abbrev pub counts_of_records : Records → RowCounts
counts_of_records records = record {
  subscribers = length records.subscribers;
  orders = length records.orders;
  certificates = length records.certificates;
  requests = length records.requests;
  revocations = length records.revocations;
  crls = length records.crls;
}

-- the declined requests
abbrev pub declines_of_records : Records → Declines
declines_of_records records =
    declines_after no_declines (map (λ row. row.id) (filter (λ row. row.declined) records.requests))

-- the positions of the records in their own changes feed: after all of them
pub record ArePositionsOf (records : Records) (positions : Positions) : Type 0 where
  pub counts : positions.counts ≡ counts_of_records records
  pub declines : positions.declines ≡ declines_of_records records
  pub history : IsInHistory (name_of records.issuer) records positions

-- ---- the rows of pages

-- the rows of one table
abbrev pub page_rows : {Row : Type 0} → (RowLists → List Row) → List ReceivedPage → List Row
page_rows table pages = flat_map (λ page. table (feed_rows_of page.rows)) pages

-- the CRL, if there is one
abbrev pub listed_crl : Option FeedCrl → List Crl
listed_crl None = []
listed_crl (Some crl) = feed_crl_of crl ∷ []

abbrev pub page_crls : List ReceivedPage → List Crl
page_crls pages = flat_map (λ page. listed_crl page.crl) pages

-- a request is entered, or the request with an id is declined
pub data RequestEvent : Type 0 where
  request_event : RequestRow → RequestEvent
  decline_event : ℕ → RequestEvent

-- the requests after these events, in their order
abbrev pub requests_after : List RequestEvent → List RequestRow → List RequestRow
requests_after [] rows = rows
requests_after (request_event row ∷ events) rows = requests_after events (rows ++ row ∷ [])
requests_after (decline_event id ∷ events) rows = requests_after events (map (declined_if id) rows)

-- the requests that are entered
abbrev pub entered_requests : List RequestEvent → List RequestRow
entered_requests [] = []
entered_requests (request_event row ∷ events) = row ∷ entered_requests events
entered_requests (decline_event id ∷ events) = entered_requests events

-- the ids of the requests that are declined
abbrev pub declined_requests : List RequestEvent → List ℕ
declined_requests [] = []
declined_requests (request_event row ∷ events) = declined_requests events
declined_requests (decline_event id ∷ events) = id ∷ declined_requests events

-- each request that is declined is among these, or was entered before
abbrev pub AreDeclinedLater : List RequestEvent → List RequestRow → Type 0
AreDeclinedLater [] rows = Unit {0}
AreDeclinedLater (request_event row ∷ events) rows = AreDeclinedLater events (rows ++ row ∷ [])
AreDeclinedLater (decline_event id ∷ events) rows =
    IsSome (request_in rows id) × AreDeclinedLater events (map (declined_if id) rows)

-- the requests were entered in this order, and those with these ids were declined in this order, each some time after it was entered
pub record AddsRequests (rows : List RequestRow) (ids : List ℕ) (before after : List RequestRow) : Type 0 where
  pub events : List RequestEvent
  pub entered : entered_requests events ≡ rows
  pub declined : declined_requests events ≡ ids
  pub later : AreDeclinedLater events before
  pub reached : after ≡ requests_after events before

-- the rows of the pages were added behind those before, and requests were declined; nothing else happened to a row
pub record AddsRows (pages : List ReceivedPage) (before after : Records) : Type 0 where
  pub subscribers : after.subscribers ≡ before.subscribers ++ page_rows (λ rows. rows.subscribers) pages
  pub orders : after.orders ≡ before.orders ++ page_rows (λ rows. rows.orders) pages
  pub certificates : after.certificates ≡ before.certificates ++ page_rows (λ rows. rows.certificates) pages
  pub requests : AddsRequests (page_rows (λ rows. rows.requests) pages) (page_rows (λ rows. rows.declined) pages)
      before.requests after.requests
  pub revocations : after.revocations ≡ before.revocations ++ page_rows (λ rows. rows.revocations) pages
  pub crls : after.crls ≡ before.crls ++ page_crls pages

-- ---- settings

-- the issuer's Name and key stay, and so do the key identifiers of issued CRLs, the lives and the cap
pub record KeepsSettings (before after : Records) : Type 0 where
  pub name : name_of after.issuer ≡ name_of before.issuer
  pub key : after.issuer.key ≡ before.issuer.key
  pub identifiers : (number : ℕ) → 1 ≤ number → number ≤ length before.crls
      → key_identifier_at after.issuer number ≡ key_identifier_at before.issuer number
  pub crl_life : after.policy.crl_life ≡ before.policy.crl_life
  pub ocsp_life : after.policy.ocsp_life ≡ before.policy.ocsp_life
  pub cap : after.policy.cap ≡ before.policy.cap

-- the issuer, the policy and the last accepted moment are those of the head of a page
pub record HasFeedHead (head : FeedHead) (records : Records) : Type 0 where
  pub name : records.issuer.name ≡ head.stored_name.items
  pub key : records.issuer.key ≡ head.key.items
  pub policy : records.policy ≡ head.policy
  pub last : records.last ≡ head.last

-- ---- the calls

-- the page is the last of these
abbrev pub IsLastOf : List ReceivedPage → ReceivedPage → Type 0
IsLastOf pages page = (earlier : List ReceivedPage) × (pages ≡ earlier ++ page ∷ [])

-- pages were entered: the records after have their rows, the head of the last page, and its positions
pub record FollowsPages (pages : List ReceivedPage) (reached : Positions) (before after : Records) : Type 0 where
  pub page : ReceivedPage
  pub is_last : IsLastOf pages page
  pub rows : AddsRows pages before after
  pub kept : KeepsSettings before after
  pub head : HasFeedHead page.head after
  pub positions : reached ≡ page.positions
  pub history : IsInHistory (name_of after.issuer) after reached

-- no row
abbrev pub no_feed_rows : RowLists
no_feed_rows = record {
  subscribers = [];
  orders = [];
  certificates = [];
  requests = [];
  declined = [];
  revocations = [];
}

-- the page has no row and no CRL, and the head of the records
pub record IsWithoutNews (page : ReceivedPage) (records : Records) : Type 0 where
  pub rows : feed_rows_of page.rows ≡ no_feed_rows
  pub crl : page.crl ≡ None
  pub head : HasFeedHead page.head records

-- pages are entered; at a fault the records stay
abbrev pub EntersPages : List ReceivedPage → Result Positions FollowFault → Records → Records → Type 0
EntersPages pages (Ok reached) before after = FollowsPages pages reached before after
EntersPages pages (Err fault) before after = after ≡ before

-- there is only one page, without news, and nothing changes
pub record StaysWithoutNews (from : Positions) (pages : List ReceivedPage)
    (result : Result Positions FollowFault) (before after : Records) : Type 0 where
  pub page : ReceivedPage
  pub alone : pages ≡ page ∷ []
  pub without : IsWithoutNews page before
  pub same : result ≡ Ok from
  pub stays : after ≡ before

-- pages of the feed of a register, which go on from the positions of these records: they are entered, unless they have no news
abbrev pub FollowStep : Positions → List ReceivedPage → Result Positions FollowFault → Records → Records → Type 0
FollowStep from pages result before after =
    EntersPages pages result before after ⊎ StaysWithoutNews from pages result before after

-- Each signature that has the form of one counts as one. `follow` verifies no signature: if the CRLs of a page were signed by the issuer's key, the
-- records after it are sound.
abbrev pub FormsSign : Signs → Signs → Type 0
FormsSign signs forms =
    (identity : Identity) (message signature : List ℕ) → forms identity message signature
    → signs identity message signature
