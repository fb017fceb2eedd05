use Rattle.std.proofs.Common.{refl}
use Rattle.reg_store_tables.proofs.PublicLaws.{and_so, by_finding, looked_then, not_found, so}
use Rattle.reg_office_reads.proofs.ListedRows.{history_is}
use Rattle.reg_office_reads.proofs.rows.history_row.Goals as goal

pub returns-in_err-certificate : goal.returns-in_err-certificate
returns-in_err-certificate g c = not_found _ c.from_residual.result c.from_residual.ensures.0 c.certificate_at.ensures.looked

pub returns-in_err-revocation : goal.returns-in_err-revocation
returns-in_err-revocation g c =
    not_found _ c.from_residual-in_err-revocation.result c.from_residual-in_err-revocation.ensures.0 (looked_then c.certificate_at.ensures.looked c.revocation.ensures.looked)

pub returns-in_err-listed : goal.returns-in_err-listed
returns-in_err-listed g c =
    not_found _ c.from_residual-in_err-listed.result c.from_residual-in_err-listed.ensures.0
    (looked_then (looked_then c.certificate_at.ensures.looked c.revocation.ensures.looked) c.listed_request.ensures.looked)

pub returns-in_err-lateness : goal.returns-in_err-lateness
returns-in_err-lateness g c =
    not_found _ c.from_residual-in_err-lateness.result c.from_residual-in_err-lateness.ensures.0
    (looked_then (looked_then c.certificate_at.ensures.looked c.revocation.ensures.looked) c.listed_request.ensures.looked)

pub returns : goal.returns
returns g c =
    so (and_so (and_so c.in_ok-certificate.ensures (by_finding c.in_ok-revocation.ensures)) c.in_ok-listed.ensures)
    (λ records sound it.
    history_is records c.args.now c.args.request c.in_ok-listed.listed c.in_ok-certificate.certificate c.in_ok-revocation.revocation _ refl
    c.status_of-status.ensures c.in_ok-lateness.ensures (it.1 it.0.0) it.0.0 it.0.1)
