-- The replay of the commands that entered the rows of pages of the changes feed, inside one transaction.
use Rattle.std.specs.Prelude.{◌≡◌, ◌⊎◌, ℕ, ◌+◌, ◌≤◌, List, ◌++◌, length, map, take, Option, None, Some, IsSome}
use Rattle.std.specs.List.{slice_get}
use Rattle.sqlite_trees.specs.declared.store.Store.{Ghosts}
use Rattle.sqlite.specs.Held.{Held, state}
use Rattle.sqlite.specs.State.{HasCleanDisk}
use Rattle.reg_core.specs.Crls.{CertList, cert_list, latest}
use Rattle.reg_core.specs.Changes.{declined_if, touched, with_certificate, with_crl, with_declined, with_order, with_request, with_revocation, with_schedule, with_subscriber}
use Rattle.reg_core.specs.Issuer.{Issuer}
use Rattle.reg_core.specs.Policy.{Terms}
use Rattle.reg_core.specs.Records.{Records, Crl, request_in}
use Rattle.reg_core.specs.Schedule.{one_step}
use Rattle.reg_core.specs.declared.rows.CrlRow.{CrlRow}
use Rattle.reg_core_lists.specs.Feed.{RowLists, feed_crl_of, feed_rows_of}
use Rattle.reg_core_lists.specs.declared.feed.FeedCrl.{FeedCrl}
use Rattle.reg_core_lists.specs.declared.feed_reader.FeedHead.{FeedHead}
use Rattle.reg_core_lists.specs.declared.feed_reader.ReceivedPage.{ReceivedPage}
use Rattle.reg_crl.specs.Crl.{certificate_list, tbs_of}
use Rattle.reg_crl.specs.Signing.{Identity, has_placeholder_digest, signed_by}
use Rattle.reg_der.specs.Authority.{key_identifier_at, name_of}
use Rattle.reg_der.specs.Issuers.{with_issuer}
use Rattle.reg_office_api.specs.Follows.{AddsRequests, AddsRows, no_feed_rows, page_crls, page_rows}
use Rattle.reg_office_api.specs.Signers.{Signs}
use Rattle.reg_office.specs.Batches.{StandsWithin}
use Rattle.reg_office.specs.Issuing.{IsNextOf}
use Rattle.reg_office.specs.declared.feed_row.FeedRow.{FeedRow}
use Rattle.reg_office.specs.declared.feed_row.FeedRow.TheVariants.{Subscriber, Order, Certificate, Request, Declined, Revocation}
use Rattle.reg_office.specs.declared.replay_order.Replayed.{Replayed}
use Rattle.reg_store_changes.specs.WithinTransactions.{IsInTransaction}

-- Steps inside a transaction, if the disk returned what was written: they lead from records that stand in it to others, as `Did` says.
abbrev pub LeadsWithin
    : {C : Type 0} → Ghosts C → Signs → Identity → Held C → Held C → (Records → Records → Type 0) → Type 0
LeadsWithin g signs identity old new Did =
    IsInTransaction (state g old) → HasCleanDisk (state g new)
    → (before : Records) → StandsWithin signs identity (state g old) before
    → (after : Records) × Did before after × StandsWithin signs identity (state g new) after

-- `LeadsWithin`, from records of which `May` holds
abbrev pub LeadsIf
    : {C : Type 0} → Ghosts C → Signs → Identity → (Records → Type 0) → Held C → Held C
    → (Records → Records → Type 0) → Type 0
LeadsIf g signs identity May old new Did =
    IsInTransaction (state g old) → HasCleanDisk (state g new)
    → (before : Records) → StandsWithin signs identity (state g old) before → May before
    → (after : Records) × Did before after × StandsWithin signs identity (state g new) after

-- ---- one row

-- the records after the command that enters a row; a request is declined by its id
abbrev pub with_feed_row : Records → ℕ → FeedRow → Records
with_feed_row records now (Subscriber row) = with_subscriber records now row
with_feed_row records now (Order row) = with_order records now row
with_feed_row records now (Certificate row) = with_certificate records now row
with_feed_row records now (Request row) = with_request records now row
with_feed_row records now (Declined id) = with_declined records now id
with_feed_row records now (Revocation row) = with_revocation records now row

-- the row is a decline, and to decline the request with that id changes no request
abbrev pub IsDeclinedAlready : FeedRow → Records → Type 0
IsDeclinedAlready (Declined id) records = map (declined_if id) records.requests ≡ records.requests
IsDeclinedAlready row records = ⊥

-- if the row is a decline, there is a request with that id
abbrev pub HasRequest : FeedRow → Records → Type 0
HasRequest (Declined id) records = IsSome (request_in records.requests id)
HasRequest (Subscriber row) records = Unit {0}
HasRequest (Order row) records = Unit {0}
HasRequest (Certificate row) records = Unit {0}
HasRequest (Request row) records = Unit {0}
HasRequest (Revocation row) records = Unit {0}

-- the row is entered at a moment; a request that was declined already stays
abbrev pub EntersFeedRow : ℕ → FeedRow → Records → Records → Type 0
EntersFeedRow at row before after =
    HasRequest row before
    × ((after ≡ with_feed_row before at row) ⊎ ((after ≡ before) × IsDeclinedAlready row before))

-- the row is the next one of its table, and `next` counts it too
abbrev pub IsNextFeedRow : RowLists → Replayed → FeedRow → Replayed → Type 0
IsNextFeedRow rows done (Subscriber row) next =
    (slice_get rows.subscribers done.subscribers ≡ Some row)
    × (next ≡ record done { subscribers = done.subscribers + 1 })
IsNextFeedRow rows done (Order row) next =
    (slice_get rows.orders done.orders ≡ Some row) × (next ≡ record done { orders = done.orders + 1 })
IsNextFeedRow rows done (Certificate row) next =
    (slice_get rows.certificates done.certificates ≡ Some row)
    × (next ≡ record done { certificates = done.certificates + 1 })
IsNextFeedRow rows done (Request row) next =
    (slice_get rows.requests done.requests ≡ Some row) × (next ≡ record done { requests = done.requests + 1 })
IsNextFeedRow rows done (Declined id) next =
    (slice_get rows.declined done.declined ≡ Some id) × (next ≡ record done { declined = done.declined + 1 })
IsNextFeedRow rows done (Revocation row) next =
    (slice_get rows.revocations done.revocations ≡ Some row)
    × (next ≡ record done { revocations = done.revocations + 1 })

-- ---- one CRL

-- the CRL of a page is entered at its moment; without one, nothing changes
abbrev pub EntersPageCrl : Option FeedCrl → Records → Records → Type 0
EntersPageCrl None before after = after ≡ before
EntersPageCrl (Some crl) before after = after ≡ with_crl before crl.row.this_update (feed_crl_of crl)

-- the bytes are a CRL with this algorithm, whatever its fields and its signature (RFC 5280 5.1.1.2)
abbrev pub HasAlgorithm : List ℕ → List ℕ → Type 0
HasAlgorithm bytes algorithm =
    (list : CertList) × (signature : List ℕ)
    × (bytes ≡ certificate_list (tbs_of algorithm list) algorithm signature)

-- there is no CRL, or the latest one does not have this algorithm
abbrev pub IsBeforeKey : List ℕ → Records → Type 0
IsBeforeKey algorithm records = (crl : Crl) → latest records.crls ≡ Some crl → ¬ HasAlgorithm crl.bytes algorithm

-- The bytes are the CRL that the records give for this row, signed by the signer; or with the placeholder digest, if the signer has signed none yet.
abbrev pub MayBeNextCrl : Signs → Identity → Records → CrlRow → List ℕ → Type 0
MayBeNextCrl signs identity records row bytes =
    signed_by signs identity (cert_list records row.number row.this_update) bytes
    ⊎ (IsBeforeKey identity.algorithm records
    × has_placeholder_digest (cert_list records row.number row.this_update) bytes)

-- A received CRL has this row, and is entered over records whose next CRL at its moment has this row and this nextUpdate.
abbrev pub EntersDecidedCrl
    : {C : Type 0} → Ghosts C → Signs → Identity → Held C → Held C → FeedCrl → CrlRow → ℕ → Type 0
EntersDecidedCrl g signs identity old new crl row next_update =
    (row ≡ crl.row)
    × LeadsIf g signs identity (λ records. IsNextOf records row.this_update (row, next_update)) old new
    (λ before after. after ≡ with_crl before row.this_update (feed_crl_of crl))

-- ---- so many rows

-- the records have so many rows of each table behind those of `origin`, and the settings of `origin`
pub record HasReplayed (rows : RowLists) (pages : List ReceivedPage) (done : Replayed) (origin records : Records) : Type 0 where
  pub subscribers : records.subscribers ≡ origin.subscribers ++ take done.subscribers rows.subscribers
  pub orders : records.orders ≡ origin.orders ++ take done.orders rows.orders
  pub certificates : records.certificates ≡ origin.certificates ++ take done.certificates rows.certificates
  pub requests : AddsRequests (take done.requests rows.requests) (take done.declined rows.declined)
      origin.requests records.requests
  pub revocations : records.revocations ≡ origin.revocations ++ take done.revocations rows.revocations
  pub crls : records.crls ≡ origin.crls ++ page_crls (take done.pages pages)
  pub issuer : records.issuer ≡ origin.issuer
  pub policy : records.policy ≡ origin.policy

-- steps that lead from so many replayed rows to so many others
abbrev pub ReplaysMore : RowLists → List ReceivedPage → Replayed → Replayed → Records → Records → Type 0
ReplaysMore rows pages done next before after =
    (origin : Records) → HasReplayed rows pages done origin before → HasReplayed rows pages next origin after

-- nothing was replayed yet
abbrev pub none_replayed : Replayed
none_replayed = record {
  subscribers = 0;
  orders = 0;
  certificates = 0;
  requests = 0;
  declined = 0;
  revocations = 0;
  pages = 0;
}

-- all rows were replayed, and the CRLs of so many pages
pub record AreAllReplayed (rows : RowLists) (page_count : ℕ) (done : Replayed) : Type 0 where
  pub subscribers : done.subscribers ≡ length rows.subscribers
  pub orders : done.orders ≡ length rows.orders
  pub certificates : done.certificates ≡ length rows.certificates
  pub requests : done.requests ≡ length rows.requests
  pub declined : done.declined ≡ length rows.declined
  pub revocations : done.revocations ≡ length rows.revocations
  pub pages : done.pages ≡ page_count

-- the rows of all pages, table by table
abbrev pub joined_rows : List ReceivedPage → RowLists
joined_rows pages = record {
  subscribers = page_rows (λ rows. rows.subscribers) pages;
  orders = page_rows (λ rows. rows.orders) pages;
  certificates = page_rows (λ rows. rows.certificates) pages;
  requests = page_rows (λ rows. rows.requests) pages;
  declined = page_rows (λ rows. rows.declined) pages;
  revocations = page_rows (λ rows. rows.revocations) pages;
}

-- all rows of the pages were replayed, and the settings stayed
pub record HasReplayedAll (pages : List ReceivedPage) (before after : Records) : Type 0 where
  pub rows : AddsRows pages before after
  pub issuer : after.issuer ≡ before.issuer
  pub policy : after.policy ≡ before.policy

-- the rows of a page behind others, table by table
abbrev pub rows_and : RowLists → RowLists → RowLists
rows_and rows more = record {
  subscribers = rows.subscribers ++ more.subscribers;
  orders = rows.orders ++ more.orders;
  certificates = rows.certificates ++ more.certificates;
  requests = rows.requests ++ more.requests;
  declined = rows.declined ++ more.declined;
  revocations = rows.revocations ++ more.revocations;
}

-- ---- the head of the last page

-- The issuer of a head may replace `own`, after so many CRLs: it has the same Name and key, and the same key identifiers in these CRLs; and the head
-- has the lives and the cap of these terms.
pub record MayReplace (head : FeedHead) (own : Issuer) (terms : Terms) (crls : ℕ) (issuer : Issuer) : Type 0 where
  pub name_is : issuer.name ≡ head.stored_name.items
  pub key_is : issuer.key ≡ head.key.items
  pub name : name_of issuer ≡ name_of own
  pub key : issuer.key ≡ own.key
  pub identifiers : (number : ℕ) → 1 ≤ number → number ≤ crls
      → key_identifier_at issuer number ≡ key_identifier_at own number
  pub crl_life : head.policy.crl_life ≡ terms.crl_life
  pub ocsp_life : head.policy.ocsp_life ≡ terms.ocsp_life
  pub cap : head.policy.cap ≡ terms.cap

-- it may replace the issuer of the records
abbrev pub MayTakeHead : FeedHead → Records → Issuer → Type 0
MayTakeHead head records issuer = MayReplace head records.issuer records.policy (length records.crls) issuer

-- The head's issuer replaces the one before, and a schedule that allows the most days replaces the one before: orders and certificates may have been
-- entered under an earlier schedule than the head's.
pub record TakesIssuer (head : FeedHead) (before after : Records) : Type 0 where
  pub issuer : Issuer
  pub may : MayTakeHead head before issuer
  pub after_is : after ≡ with_schedule (with_issuer before issuer) (one_step 398)

-- the schedule and the last accepted moment of the head replace those before
abbrev pub TakesMoment : FeedHead → Records → Records → Type 0
TakesMoment head before after = after ≡ with_schedule (touched before head.last) head.policy.schedule

-- ---- news

-- the page has no row and no CRL, and its head has this issuer, these terms and this last accepted moment
pub record IsPageWithout (page : ReceivedPage) (issuer : Issuer) (terms : Terms) (last : ℕ) : Type 0 where
  pub rows : feed_rows_of page.rows ≡ no_feed_rows
  pub crl : page.crl ≡ None
  pub name : issuer.name ≡ page.head.stored_name.items
  pub key : issuer.key ≡ page.head.key.items
  pub policy : terms ≡ page.head.policy
  pub moment : last ≡ page.head.last
