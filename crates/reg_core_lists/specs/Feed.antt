-- The changes feed of records: the rows after positions, the pages that have them, and whether positions are in the history of the records.
use Rattle.std.specs.Prelude.{◌≡◌, ℕ, ◌+◌, ◌-◌, Bool, ◌==◌, ◌&&◌, List, [], ◌∷◌, ◌++◌, map, filter, take, drop, length, flat_map, min, nat_le, nat_lt, cond, codes, Option, Some, None, is_none, option_map, unwrap_or}
use Rattle.std.specs.List.{before_first, slice_get}
use Rattle.sha2.specs.Sha256.{sha256}
use Rattle.reg_core.specs.Crls.{row_of}
use Rattle.reg_core.specs.Records.{Records, Crl, crl_in}
use Rattle.reg_core.specs.declared.rows.SubscriberRow.{SubscriberRow}
use Rattle.reg_core.specs.declared.rows.OrderRow.{OrderRow}
use Rattle.reg_core.specs.declared.rows.CertRow.{CertRow}
use Rattle.reg_core.specs.declared.rows.RequestRow.{RequestRow}
use Rattle.reg_core.specs.declared.rows.RevocationRow.{RevocationRow}
use Rattle.reg_core_lists.specs.FeedLines.{certificate_line, crl_feed_text, declined_line, order_line, page_head, request_line, revocation_line, subscriber_line}
use Rattle.reg_core_lists.specs.Positions.{positions_text, window_head}
use Rattle.reg_core_lists.specs.declared.feed.FeedCrl.{FeedCrl}
use Rattle.reg_core_lists.specs.declared.feed.FeedPage.{FeedPage}
use Rattle.reg_core_lists.specs.declared.feed.FeedRows.{FeedRows}
use Rattle.reg_core_lists.specs.declared.positions.Declines.{Declines}
use Rattle.reg_core_lists.specs.declared.positions.Positions.{Positions}
use Rattle.reg_core_lists.specs.declared.positions.RowCounts.{RowCounts}

-- ---- rows

-- rows of the feed, but for CRLs; `declined` has ids of requests
pub record RowLists : Type 0 where
  pub subscribers : List SubscriberRow
  pub orders : List OrderRow
  pub certificates : List CertRow
  pub requests : List RequestRow
  pub declined : List ℕ
  pub revocations : List RevocationRow

abbrev pub feed_rows_of : FeedRows → RowLists
feed_rows_of rows = record {
  subscribers = rows.subscribers.items;
  orders = rows.orders.items;
  certificates = rows.certificates.items;
  requests = rows.requests.items;
  declined = rows.declined.items;
  revocations = rows.revocations.items;
}

abbrev pub feed_crl_of : FeedCrl → Crl
feed_crl_of it = record { number = it.row.number; this_update = it.row.this_update; bytes = it.der.items }

-- their lines: each row comes after those that it refers to
unfoldable pub feed_rows_text : RowLists → List ℕ
feed_rows_text rows =
    flat_map subscriber_line rows.subscribers ++ flat_map order_line rows.orders
    ++ flat_map certificate_line rows.certificates ++ flat_map request_line rows.requests
    ++ flat_map declined_line rows.declined ++ flat_map revocation_line rows.revocations

-- ---- positions

-- nothing was received yet
abbrev pub zero_counts : RowCounts
zero_counts = record { subscribers = 0; orders = 0; certificates = 0; requests = 0; revocations = 0; crls = 0 }

abbrev pub no_declines : Declines
no_declines = record { count = 0; last = 0 }

-- the last 32 of the first `count` rows
abbrev pub window : {A : Type 0} → ℕ → List A → List A
window count rows = take (min count 32) (drop (count - 32) rows)

abbrev pub windows : RowCounts → Records → RowLists
windows counts records = record {
  subscribers = window counts.subscribers records.subscribers;
  orders = window counts.orders records.orders;
  certificates = window counts.certificates records.certificates;
  requests = window counts.requests records.requests;
  declined = [];
  revocations = window counts.revocations records.revocations;
}

-- the last 64 octets of a CRL, in which its signature ends; none if there is no CRL
abbrev pub crl_ending : Option (List ℕ) → List ℕ
crl_ending None = []
crl_ending (Some der) = drop (length der - 64) der

-- the text of the last rows of tables and the DER of the last CRL, after the Name and the key of the issuer and the counts
unfoldable pub digest_text : List ℕ → List ℕ → RowCounts → RowLists → Option (List ℕ) → List ℕ
digest_text name key counts rows der = window_head name key counts ++ feed_rows_text rows ++ crl_ending der

-- The text whose digest positions have. If a table has fewer rows, the text has the counts but not so many lines: it is that of no positions that a
-- page has.
abbrev pub window_text : List ℕ → Records → RowCounts → List ℕ
window_text name records counts =
    digest_text name records.issuer.key counts (windows counts records)
    (option_map (λ crl. crl.bytes) (crl_in records.crls counts.crls))

-- the positions are in the history of records whose issuer has this Name: the first rows have their digest
abbrev pub IsInHistory : List ℕ → Records → Positions → Type 0
IsInHistory name records positions = positions.digest ≡ sha256 (window_text name records positions.counts)

-- ---- pages

-- The declines that a page continues, of those up to an id: those given, if the records have as many; else none. The order in which requests were
-- declined is not recorded.
abbrev pub declines_from : List RequestRow → Declines → Declines
declines_from requests declines =
    cond
    (length (filter (λ row. row.declined && nat_le row.id declines.last) requests) == declines.count)
    declines no_declines

-- how many rows more fit into a page, which has at most 1,000
abbrev pub room : RowLists → ℕ
room rows =
    1000 - length rows.subscribers - length rows.orders - length rows.certificates - length rows.requests
    - length rows.declined - length rows.revocations

-- its first CRL is after the next one
abbrev pub is_later : ℕ → RevocationRow → Bool
is_later crls row = nat_lt crls (row.first - 1)

-- The rows of the page after counts and declines: table after table, as many as fit. A revocation comes after each CRL that was issued before it.
pub record ArePageRows (records : Records) (counts : RowCounts) (from : Declines) (rows : RowLists) : Type 0 where
  pub subscribers : rows.subscribers ≡ take 1000 (drop counts.subscribers records.subscribers)
  pub orders : rows.orders ≡ take (1000 - length rows.subscribers) (drop counts.orders records.orders)
  pub certificates : rows.certificates
      ≡ take (1000 - length rows.subscribers - length rows.orders) (drop counts.certificates records.certificates)
  pub requests : rows.requests
      ≡ take (1000 - length rows.subscribers - length rows.orders - length rows.certificates)
      (drop counts.requests records.requests)
  pub declined : rows.declined
      ≡ take
      (1000 - length rows.subscribers - length rows.orders - length rows.certificates - length rows.requests)
      (filter (nat_lt from.last) (map (λ row. row.id) (filter (λ row. row.declined) records.requests)))
  pub revocations : rows.revocations
      ≡ before_first (is_later counts.crls)
      (take
      (1000 - length rows.subscribers - length rows.orders - length rows.certificates - length rows.requests
      - length rows.declined)
      (drop counts.revocations records.revocations))

-- The next CRL, if the page is not full. Then no revocation that this CRL can list is on a later page.
abbrev pub crl_behind : RowLists → Option Crl → Option Crl
crl_behind rows next = cond (nat_lt 0 (room rows)) next None

abbrev pub crl_part : Option Crl → List ℕ
crl_part None = []
crl_part (Some crl) = crl_feed_text (row_of crl) crl.bytes

abbrev pub crl_count : Option Crl → ℕ
crl_count None = 0
crl_count (Some crl) = 1

-- the counts after a page
abbrev pub counts_after : RowCounts → RowLists → ℕ → RowCounts
counts_after counts rows crls = record {
  subscribers = counts.subscribers + length rows.subscribers;
  orders = counts.orders + length rows.orders;
  certificates = counts.certificates + length rows.certificates;
  requests = counts.requests + length rows.requests;
  revocations = counts.revocations + length rows.revocations;
  crls = counts.crls + crls;
}

-- the declines after more ids
abbrev pub declines_after : Declines → List ℕ → Declines
declines_after declines ids = record {
  count = declines.count + length ids;
  last = unwrap_or (slice_get ids (length ids - 1)) declines.last;
}

-- the last line of a page: `end` if there is nothing after it, and the positions after it
unfoldable pub last_line : Bool → Positions → List ℕ
last_line ends positions = cond ends (codes "end ") (codes "more ") ++ positions_text positions ++ 10 ∷ []

-- the parts of a page after its head: its rows, perhaps a CRL, whether there is nothing after it, and the positions after it but for their digest
pub record PageParts : Type 0 where
  pub rows : RowLists
  pub crl : Option Crl
  pub ends : Bool
  pub counts : RowCounts
  pub declines : Declines

abbrev pub page_parts_of : FeedPage → PageParts
page_parts_of page = record {
  rows = feed_rows_of page.rows;
  crl = option_map feed_crl_of page.crl;
  ends = page.ends;
  counts = page.counts;
  declines = page.declines;
}

-- the parts of the page with these rows and perhaps the next CRL, after counts and declines
abbrev pub page_parts : RowLists → Option Crl → RowCounts → Declines → PageParts
page_parts rows next counts from = record {
  rows = rows;
  crl = crl_behind rows next;
  ends = is_none next && nat_lt 0 (room rows);
  counts = counts_after counts rows (crl_count (crl_behind rows next));
  declines = declines_after from rows.declined;
}

unfoldable pub page_parts_text : PageParts → List ℕ → List ℕ
page_parts_text page digest =
    feed_rows_text page.rows ++ crl_part page.crl
    ++ last_line page.ends (record { counts = page.counts; declines = page.declines; digest = digest })

-- the text of a page
abbrev pub feed_text : List ℕ → Records → PageParts → List ℕ
feed_text name records page =
    page_head records.issuer.name records.issuer.key records.policy records.last
    ++ page_parts_text page (sha256 (window_text name records page.counts))

-- the page of these records after counts and declines
pub record HasParts (records : Records) (counts : RowCounts) (declines : Declines) (page : PageParts) : Type 0 where
  pub are_rows : ArePageRows records counts (declines_from records.requests declines) page.rows
  pub are_parts : page
      ≡ page_parts page.rows (slice_get records.crls counts.crls) counts (declines_from records.requests declines)

-- its text, if the issuer has this Name
abbrev pub IsPage : List ℕ → Records → RowCounts → Declines → List ℕ → Type 0
IsPage name records counts declines text =
    (page : PageParts) × HasParts records counts declines page × (text ≡ feed_text name records page)
