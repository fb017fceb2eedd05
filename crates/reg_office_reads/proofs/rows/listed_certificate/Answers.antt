use Rattle.reg_store_tables.proofs.PublicLaws.{and_so, by_finding, looked_then, not_found, so}
use Rattle.reg_office_reads.proofs.ListedRows.{line_is}
use Rattle.reg_office_reads.proofs.rows.listed_certificate.Goals as goal

pub returns-in_err-revocation : goal.returns-in_err-revocation
returns-in_err-revocation g c = not_found _ c.from_residual.result c.from_residual.ensures.0 c.revocation.ensures.looked

pub returns-in_err-subscriber : goal.returns-in_err-subscriber
returns-in_err-subscriber g c =
    not_found _ c.from_residual-in_err-subscriber.result c.from_residual-in_err-subscriber.ensures.0 (looked_then c.revocation.ensures.looked c.subscriber_of.ensures.looked)

pub returns-in_err-listing : goal.returns-in_err-listing
returns-in_err-listing g c =
    not_found _ c.from_residual-in_err-listing.result c.from_residual-in_err-listing.ensures.0
    (looked_then (looked_then c.revocation.ensures.looked c.subscriber_of.ensures.looked) c.listing_of.ensures.looked)

pub returns : goal.returns
returns g c =
    so (and_so (and_so (by_finding c.in_ok-revocation.ensures) c.in_ok-subscriber.ensures) c.in_ok-listing.ensures)
    (λ records sound it.
    line_is records c.args.now c.args.certificate c.listed_certificate_from.result c.in_ok-revocation.revocation c.in_ok-subscriber.subscriber c.in_ok-listing.listing c.listed_certificate_from.ensures it.0.1 (it.1 it.0.0) it.0.0)
