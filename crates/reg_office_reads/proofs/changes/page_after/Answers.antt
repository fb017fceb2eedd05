use Rattle.std.proofs.Common.{◌∙◌, ◌++◌, ap}
use Rattle.sha2.specs.Sha256.{sha256}
use Rattle.reg_core_lists.specs.Feed.{page_parts_of, page_parts_text, window_text}
use Rattle.reg_core_lists.specs.FeedLines.{page_head}
use Rattle.reg_core_lists.specs.declared.positions.RowCounts.{RowCounts}
use Rattle.reg_der.specs.Authority.{name_of}
use Rattle.reg_store_tables.proofs.PublicLaws.{and_so, looked_then, not_found, so}
use Rattle.reg_office_reads.proofs.changes.page_after.Goals as goal

pub returns-in_err-digest : goal.returns-in_err-digest
returns-in_err-digest g c =
    not_found _ c.from_residual-in_err-digest.result c.from_residual-in_err-digest.ensures.0 (looked_then c.page_in.ensures.looked c.digest_at.ensures.looked)

pub returns-in_err-text : goal.returns-in_err-text
returns-in_err-text g c =
    not_found _ c.from_residual-in_err-text.result c.from_residual-in_err-text.ensures.0 (looked_then (looked_then c.page_in.ensures.looked c.digest_at.ensures.looked) c.head_in.ensures.looked)

pub returns-in_err-put : goal.returns-in_err-put
returns-in_err-put g c =
    not_found _ c.from_residual-in_err-put.result c.from_residual-in_err-put.ensures.0 (looked_then (looked_then c.page_in.ensures.looked c.digest_at.ensures.looked) c.head_in.ensures.looked)

pub returns : goal.returns
returns g c =
    so (and_so (and_so c.in_ok-page.ensures c.in_ok-digest.ensures) c.in_ok-text.ensures)
    (λ records sound it issuer.
    let digest = it.0.1 issuer ∙ ap (λ (counts : RowCounts). sha256 (window_text (name_of records.issuer) records counts)) c.counts.ensures in
    let head = it.1 ∙ (λ i. page_head (issuer i).name (issuer i).key records.policy records.last) in
    (page_parts_of c.in_ok-page.page, it.0.0, c.in_ok-put.ensures ∙ (λ i. head i ++ page_parts_text (page_parts_of c.in_ok-page.page) (digest i))))
