-- The text of a leader's page is also that of the page as it is read.
use Rattle.std.proofs.Common.{◌≡◌, ◌∙◌, ℕ, List, [], ◌∷◌, ◌++◌, map, Result, Ok, Err, refl, ap}
use Rattle.std.specs.Prelude.{IfOk, flat_map}
use Rattle.reg_core.specs.Records.{Records}
use Rattle.reg_core.specs.declared.rows.RequestRow.{RequestRow}
use Rattle.reg_core_lists.specs.Feed.{HasParts, PageParts, RowLists, crl_part, feed_rows_text, last_line, page_parts_text}
use Rattle.reg_core_lists.specs.FeedLines.{certificate_line, declined_line, order_line, page_head, request_line, revocation_line, subscriber_line}
use Rattle.reg_core_lists.specs.ReceivedPages.{ReadsAs, Received, received_text}
use Rattle.reg_core_lists.specs.declared.feed_reader.PageFault.{PageFault}
use Rattle.reg_core_lists.specs.declared.feed_reader.ReceivedPage.{ReceivedPage}
use Rattle.reg_core_lists.specs.declared.positions.Declines.{Declines}
use Rattle.reg_core_lists.specs.declared.positions.RowCounts.{RowCounts}
use Rattle.reg_office_api.specs.FollowedLeaders.{IsPageOf, ReadsLeadersPage, as_read, page_read, undeclined}

-- no line says that a request is declined
requests_text : (rows : List RequestRow) → flat_map request_line rows ≡ flat_map request_line (map undeclined rows)
requests_text [] = refl
requests_text (row ∷ rows) = ap (λ l. request_line row ++ l) (requests_text rows)

rows_text : (made : PageParts) → feed_rows_text made.rows ≡ feed_rows_text (as_read made).rows
unfolding feed_rows_text
rows_text made =
    let rows : RowLists = made.rows in
    ap
    (λ l. flat_map subscriber_line rows.subscribers ++ flat_map order_line rows.orders
    ++ flat_map certificate_line rows.certificates ++ l
    ++ flat_map declined_line rows.declined ++ flat_map revocation_line rows.revocations)
    (requests_text rows.requests)

parts_text : (made : PageParts) (digest : List ℕ) → page_parts_text made digest ≡ page_parts_text (as_read made) digest
unfolding page_parts_text
parts_text made digest =
    ap (λ l. l ++ crl_part made.crl ++ last_line made.ends (record { counts = made.counts; declines = made.declines; digest = digest })) (rows_text made)

page_text : (records : Records) (made : PageParts) (digest : List ℕ)
    → page_head records.issuer.name records.issuer.key records.policy records.last ++ page_parts_text made digest ≡ received_text (page_read records made digest)
page_text records made digest = ap (λ l. page_head records.issuer.name records.issuer.key records.policy records.last ++ l) (parts_text made digest)

read_of : (records : Records) (counts : RowCounts) (declines : Declines) (made : PageParts) (digest : List ℕ) (result : Result ReceivedPage PageFault)
    → HasParts records counts declines made → ReadsAs result (page_read records made digest) → IfOk result (IsPageOf records counts declines)
read_of records counts declines made digest (Ok read) has_parts same = record {
  made = made;
  has_parts = has_parts;
  head = ap (λ (page : Received). page.head) same;
  parts = ap (λ (page : Received). page.parts) same;
}
read_of records counts declines made digest (Err fault) has_parts fails = tt

pub reads_leaders_page : ReadsLeadersPage
reads_leaders_page records counts declines text result (made, has_parts, same) readable reads =
    let is_text = same ∙ page_text records made _ in
    read_of records counts declines made _ result has_parts (reads (page_read records made _) (readable made _ is_text) is_text)
