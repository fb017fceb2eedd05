use Rattle.reg_store_tables.proofs.PublicLaws.{and_so, by_finding, looked_then, not_found}
use Rattle.reg_office_reads.proofs.decision_head.certificate_of.Goals as goal

pub returns-in_err-revocation : goal.returns-in_err-revocation
returns-in_err-revocation g c =
    not_found _ c.from_residual-in_err-revocation.result c.from_residual-in_err-revocation.ensures.0 (looked_then c.cert.ensures.looked c.revocation.ensures.looked)

pub returns : goal.returns
returns g c = and_so (by_finding c.in_ok-certificate.ensures) (by_finding c.in_ok-revocation.ensures)
