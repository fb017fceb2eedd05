use Rattle.std.proofs.Common.{refl, sym, ◌∙◌}
use Rattle.reg_store_tables.proofs.PublicLaws.{and_so, by_finding, looked_then, not_found, so}
use Rattle.reg_office_reads.proofs.requests.case_of.Goals as goal

pub returns-in_err-request : goal.returns-in_err-request
returns-in_err-request g c = not_found _ c.from_residual.result c.from_residual.ensures.0 c.request.ensures.looked

pub returns-in-None : goal.returns-in-None
returns-in-None g c =
    so (by_finding c.in_ok-request.ensures)
    (λ records sound it. record { request = sym c.in-None.is ∙ it; certificate = refl; revocation = refl })

pub returns-in_err-certificate-in-Some : goal.returns-in_err-certificate-in-Some
returns-in_err-certificate-in-Some g c =
    not_found _ c.from_residual-in_err-certificate-in-Some.result c.from_residual-in_err-certificate-in-Some.ensures.0 (looked_then c.request.ensures.looked c.certificate_of.ensures.looked)

pub returns-in_ok-certificate-in-Some : goal.returns-in_ok-certificate-in-Some
returns-in_ok-certificate-in-Some g c =
    so (and_so (by_finding c.in_ok-request.ensures) c.in_ok-certificate-in-Some.ensures)
    (λ records sound it. record { request = sym c.in-Some.is ∙ it.0; certificate = it.1.0; revocation = it.1.1 })
