use Rattle.reg_store_tables.proofs.PublicLaws.{and_so, by_finding, by_none, looked_none, looked_then, not_found, so}
use Rattle.reg_office_reads.proofs.ListedRows.{declined_none, open_is, open_none, open_some}
use Rattle.reg_office_reads.proofs.rows.open_row.Goals as goal

pub returns-then-request : goal.returns-then-request
returns-then-request g c = by_none looked_none (λ records. declined_none records c.args.now c.args.request c.if-request.true)

pub returns-in_err-certificate : goal.returns-in_err-certificate
returns-in_err-certificate g c = not_found _ c.from_residual.result c.from_residual.ensures.0 c.certificate_at.ensures.looked

pub returns-in_err-revocation : goal.returns-in_err-revocation
returns-in_err-revocation g c =
    not_found _ c.from_residual-in_err-revocation.result c.from_residual-in_err-revocation.ensures.0 (looked_then c.certificate_at.ensures.looked c.revocation.ensures.looked)

pub returns-in_err-listed : goal.returns-in_err-listed
returns-in_err-listed g c =
    not_found _ c.from_residual-in_err-listed.result c.from_residual-in_err-listed.ensures.0
    (looked_then (looked_then c.certificate_at.ensures.looked c.revocation.ensures.looked) c.listed_request.ensures.looked)

pub returns-in_ok-listed : goal.returns-in_ok-listed
returns-in_ok-listed g c =
    so (and_so (and_so c.in_ok-certificate.ensures (by_finding c.in_ok-revocation.ensures)) c.in_ok-listed.ensures)
    (λ records sound it.
    let is = open_is records c.args.now c.args.request c.in_ok-certificate.certificate c.in_ok-revocation.revocation c.is_good.result c.if-request.false it.0.0 it.0.1 c.is_good.ensures in
    open_some records c.args.now c.args.request c.is_good.result c.in_ok-listed.listed is c.if-is_good.true (it.1 it.0.0))

pub returns-else-is_good : goal.returns-else-is_good
returns-else-is_good g c =
    so (and_so c.in_ok-certificate.ensures (by_finding c.in_ok-revocation.ensures))
    (λ records sound it.
    let is = open_is records c.args.now c.args.request c.in_ok-certificate.certificate c.in_ok-revocation.revocation c.is_good.result c.if-request.false it.0 it.1 c.is_good.ensures in
    open_none records c.args.now c.args.request c.is_good.result is c.if-is_good.false)
