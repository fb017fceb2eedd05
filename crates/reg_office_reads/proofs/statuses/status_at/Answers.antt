use Rattle.std.proofs.Common.{◌≡◌, ◌∙◌}
use Rattle.reg_core.specs.Status.{status_by}
use Rattle.reg_store_tables.proofs.PublicLaws.{and_so, by_finding, looked_then, not_found, so}
use Rattle.reg_office_reads.proofs.statuses.status_at.Goals as goal

pub returns-in_err-certificate : goal.returns-in_err-certificate
returns-in_err-certificate g c = not_found _ c.from_residual.result c.from_residual.ensures.0 c.cert.ensures.looked

pub returns-in_err-revocation : goal.returns-in_err-revocation
returns-in_err-revocation g c =
    not_found _ c.from_residual-in_err-revocation.result c.from_residual-in_err-revocation.ensures.0 (looked_then c.cert.ensures.looked c.revocation.ensures.looked)

-- What is told comes first, so that another status is refused by it.
pub returns : goal.returns
returns g c =
    let status_is : c.status_of.result ≡ status_by c.args.now c.in_ok-certificate.certificate c.in_ok-revocation.revocation = c.status_of.ensures in
    so (and_so (by_finding c.in_ok-certificate.ensures) (by_finding c.in_ok-revocation.ensures)) (λ records sound it. status_is ∙ (λ i. status_by c.args.now (it.0 i) (it.1 i)))
