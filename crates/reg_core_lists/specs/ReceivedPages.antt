-- A page of the changes feed as it is received: its text, and which pages can be read.
use Rattle.std.specs.Prelude.{◌≡◌, ℕ, ◌^◌, ◌<◌, false, List, [], ◌∷◌, ◌++◌, codes, flat_map, length, Option, Some, None, option_map, Result, Ok, Err, IfOk, IfSome, MatchOption}
use Rattle.std.specs.List.{AllByRecursion}
use Rattle.hex.specs.Hex.{IsBytes, encode_lower}
use Rattle.reg_core.specs.Calendar.{IsMoment}
use Rattle.reg_core.specs.Label.{IsLabel, IsName}
use Rattle.reg_core.specs.Policy.{IsPolicy, Terms}
use Rattle.reg_core.specs.Records.{Crl}
use Rattle.reg_core.specs.Serial.{IsSerial}
use Rattle.reg_core.specs.declared.rows.SubscriberRow.{SubscriberRow}
use Rattle.reg_core.specs.declared.rows.OrderRow.{OrderRow}
use Rattle.reg_core.specs.declared.rows.CertRow.{CertRow}
use Rattle.reg_core.specs.declared.rows.RequestRow.{RequestRow}
use Rattle.reg_core.specs.declared.rows.RevocationRow.{RevocationRow}
use Rattle.reg_core_lists.specs.Feed.{PageParts, RowLists, crl_behind, feed_crl_of, feed_rows_of, page_parts_text}
use Rattle.reg_core_lists.specs.FeedLines.{page_head, step_text}
use Rattle.reg_core_lists.specs.FeedReading.{HasNoneOf, HeadFields, ReadsItems, certificate_row_of, declined_id_of, order_row_of, request_row_of, revocation_row_of, row_read, subscriber_row_of}
use Rattle.reg_core_lists.specs.declared.feed_fields.HeadFields.{HeadFields as DeclaredFields}
use Rattle.reg_core_lists.specs.declared.feed_reader.FeedHead.{FeedHead}
use Rattle.reg_core_lists.specs.declared.feed_reader.PageFault.{PageFault}
use Rattle.reg_core_lists.specs.declared.feed_reader.PageFault.TheVariants.{Memory}
use Rattle.reg_core_lists.specs.declared.feed_reader.ReceivedPage.{ReceivedPage}
use Rattle.reg_core_lists.specs.declared.positions.Positions.{Positions}

-- what the lines before the rows say
pub record HeadTerms : Type 0 where
  pub name : List ℕ
  pub key : List ℕ
  pub policy : Terms
  pub last : ℕ

abbrev pub head_terms_of : FeedHead → HeadTerms
head_terms_of head = record { name = head.stored_name.items; key = head.key.items; policy = head.policy; last = head.last }

-- their text
abbrev pub head_terms_text : HeadTerms → List ℕ
head_terms_text head = page_head head.name head.key head.policy head.last

-- a page: what its head says, its parts, and the digest of the positions after it
pub record Received : Type 0 where
  pub head : HeadTerms
  pub parts : PageParts
  pub digest : List ℕ

abbrev pub received_of : ReceivedPage → Received
received_of page = record {
  head = head_terms_of page.head;
  parts = record {
    rows = feed_rows_of page.rows;
    crl = option_map feed_crl_of page.crl;
    ends = page.ends;
    counts = page.positions.counts;
    declines = page.positions.declines;
  };
  digest = page.positions.digest;
}

-- its text, as the leader writes it
abbrev pub received_text : Received → List ℕ
received_text page = head_terms_text page.head ++ page_parts_text page.parts page.digest

-- the fields of the lines before the rows
abbrev pub head_fields_of : DeclaredFields → HeadFields
head_fields_of fields = record {
  name = fields.name.now;
  key = fields.key.now;
  crl_life = fields.crl_life;
  ocsp_life = fields.ocsp_life;
  cap = fields.cap;
  steps = fields.steps.now;
  last = fields.last;
}

abbrev pub fields_of_terms : HeadTerms → HeadFields
fields_of_terms head = record {
  name = encode_lower head.name;
  key = encode_lower head.key;
  crl_life = head.policy.crl_life;
  ocsp_life = head.policy.ocsp_life;
  cap = head.policy.cap;
  steps = flat_map step_text head.policy.schedule;
  last = head.last;
}

-- ---- what can be read: values of their types; numbers below 10^18; names that the register allows

abbrev pub IsReadableNumber : ℕ → Type 0
IsReadableNumber number = number < 10 ^ 18

pub record IsReadableHead (head : HeadTerms) : Type 0 where
  pub name : IsBytes head.name
  pub key : IsBytes head.key
  pub policy : IsPolicy head.policy
  pub moments : AllByRecursion (λ step. IsMoment step.0) head.policy.schedule
  pub last : IsMoment head.last

pub record IsReadableSubscriber (row : SubscriberRow) : Type 0 where
  pub id : IsReadableNumber row.id
  pub label : IsLabel row.name
  pub name : IsName row.name

pub record IsReadableOrder (row : OrderRow) : Type 0 where
  pub id : IsReadableNumber row.id
  pub subscriber : IsReadableNumber row.subscriber
  pub days : IsReadableNumber row.days

pub record IsReadableCertificate (row : CertRow) : Type 0 where
  pub serial : IsSerial row.serial
  pub order : IsReadableNumber row.order
  pub not_before : IsMoment row.not_before
  pub not_after : IsMoment row.not_after

-- a line does not say that a request is declined
pub record IsReadableRequest (row : RequestRow) : Type 0 where
  pub id : IsReadableNumber row.id
  pub serial : IsSerial row.serial
  pub received : IsMoment row.received
  pub declined : row.declined ≡ false

pub record IsReadableRevocation (row : RevocationRow) : Type 0 where
  pub serial : IsSerial row.serial
  pub at : IsMoment row.at
  pub reason : row.reason < 256
  pub request : IsReadableNumber row.request
  pub first : IsReadableNumber row.first

pub record IsReadableRows (rows : RowLists) : Type 0 where
  pub subscribers : AllByRecursion IsReadableSubscriber rows.subscribers
  pub orders : AllByRecursion IsReadableOrder rows.orders
  pub certificates : AllByRecursion IsReadableCertificate rows.certificates
  pub requests : AllByRecursion IsReadableRequest rows.requests
  pub declined : AllByRecursion IsReadableNumber rows.declined
  pub revocations : AllByRecursion IsReadableRevocation rows.revocations

pub record IsReadableCrl (crl : Crl) : Type 0 where
  pub number : IsReadableNumber crl.number
  pub this_update : IsMoment crl.this_update
  pub octets : IsReadableNumber (length crl.bytes)

abbrev pub IsReadableCrlPart : Option Crl → Type 0
IsReadableCrlPart None = Unit {0}
IsReadableCrlPart (Some crl) = IsReadableCrl crl

pub record IsReadablePositions (positions : Positions) : Type 0 where
  pub subscribers : IsReadableNumber positions.counts.subscribers
  pub orders : IsReadableNumber positions.counts.orders
  pub certificates : IsReadableNumber positions.counts.certificates
  pub requests : IsReadableNumber positions.counts.requests
  pub revocations : IsReadableNumber positions.counts.revocations
  pub crls : IsReadableNumber positions.counts.crls
  pub count : IsReadableNumber positions.declines.count
  pub last : IsReadableNumber positions.declines.last
  pub digest : IsBytes positions.digest
  pub octets : length positions.digest ≡ 32

abbrev pub positions_of : Received → Positions
positions_of page = record { counts = page.parts.counts; declines = page.parts.declines; digest = page.digest }

-- a full page has no CRL
abbrev pub HasRoomForCrl : PageParts → Type 0
HasRoomForCrl parts = crl_behind parts.rows parts.crl ≡ parts.crl

pub record IsReadable (page : Received) : Type 0 where
  pub head : IsReadableHead page.head
  pub rows : IsReadableRows page.parts.rows
  pub crl : IsReadableCrlPart page.parts.crl
  pub room : HasRoomForCrl page.parts
  pub positions : IsReadablePositions (positions_of page)

-- ---- what follows rows

-- no row of any kind
abbrev pub HasNoRow : List ℕ → Type 0
HasNoRow =
    HasNoneOf (
    codes "revocation"
    ∷ codes "declined" ∷ codes "request" ∷ codes "certificate" ∷ codes "order" ∷ codes "subscriber" ∷ []
    )

-- the rows that are read from a text, table after table
pub record ReadsRows (rows : RowLists) (text : List ℕ) : Type 0 where
  pub after_subscribers : List ℕ
  pub after_orders : List ℕ
  pub after_certificates : List ℕ
  pub after_requests : List ℕ
  pub after_declined : List ℕ
  pub rest : List ℕ
  pub subscribers : ReadsItems (row_read (codes "subscriber") subscriber_row_of) rows.subscribers text after_subscribers
  pub orders : ReadsItems (row_read (codes "order") order_row_of) rows.orders after_subscribers after_orders
  pub certificates : ReadsItems (row_read (codes "certificate") certificate_row_of) rows.certificates after_orders after_certificates
  pub requests : ReadsItems (row_read (codes "request") request_row_of) rows.requests after_certificates after_requests
  pub declined : ReadsItems (row_read (codes "declined") declined_id_of) rows.declined after_requests after_declined
  pub revocations : ReadsItems (row_read (codes "revocation") revocation_row_of) rows.revocations after_declined rest

-- the page that is read, unless memory runs out
abbrev pub ReadsAs : Result ReceivedPage PageFault → Received → Type 0
ReadsAs (Ok read) page = received_of read ≡ page
ReadsAs (Err fault) page = fault ≡ Memory

-- what a reader of a part has read, if it has read one
abbrev pub IfRead : {A E : Type 0} → Result (Option A) E → (A → Type 0) → Type 0
IfRead result P = IfOk result (λ found. IfSome found P)

-- a reader has read a part, unless memory runs out; and what that part is
abbrev pub MustRead : {A E : Type 0} → Result (Option A) E → (A → Type 0) → Type 0
MustRead result P = IfOk result (λ found. MatchOption found ⊥ P)
