use Rattle.std.proofs.Common.{refl}
use Rattle.reg_store_tables.proofs.PublicLaws.{and_so, looked_then, not_found, so}
use Rattle.reg_office_reads.proofs.ListedRows.{revoked_is}
use Rattle.reg_office_reads.proofs.rows.revoked_row.Goals as goal

pub returns-in_err-request : goal.returns-in_err-request
returns-in_err-request g c = not_found _ c.from_residual.result c.from_residual.ensures.0 c.request_at.ensures.looked

pub returns-in_err-registered : goal.returns-in_err-registered
returns-in_err-registered g c =
    not_found _ c.from_residual-in_err-registered.result c.from_residual-in_err-registered.ensures.0 (looked_then c.request_at.ensures.looked c.certificate_at.ensures.looked)

pub returns-in_err-certificate : goal.returns-in_err-certificate
returns-in_err-certificate g c =
    not_found _ c.from_residual-in_err-certificate.result c.from_residual-in_err-certificate.ensures.0
    (looked_then (looked_then c.request_at.ensures.looked c.certificate_at.ensures.looked) c.listed_certificate.ensures.looked)

pub returns-in_err-due : goal.returns-in_err-due
returns-in_err-due g c =
    not_found _ c.from_residual-in_err-due.result c.from_residual-in_err-due.ensures.0
    (looked_then (looked_then c.request_at.ensures.looked c.certificate_at.ensures.looked) c.listed_certificate.ensures.looked)

pub returns : goal.returns
returns g c =
    so (and_so (and_so c.in_ok-request.ensures c.in_ok-registered.ensures) c.in_ok-certificate.ensures)
    (λ records sound it. revoked_is records c.args.now c.args.revocation c.in_ok-request.request c.in_ok-registered.registered _ refl refl c.in_ok-due.ensures.due it.0.0 it.0.1 it.1)
