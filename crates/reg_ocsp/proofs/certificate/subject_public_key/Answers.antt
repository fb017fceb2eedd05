use Rattle.std.proofs.Common.{arith}
use Rattle.reg_ocsp.proofs.CertificateLaws.{is_found, is_only}
use Rattle.reg_ocsp.proofs.certificate.subject_public_key.Goals as goal

pub returns-clause-found : goal.returns-clause-found
returns-clause-found c =
    is_found c.args.certificate.now c.read_certificate.result (λ i. omega (arith, c.type_inv.certificate i)) c.read_certificate.ensures

pub returns-clause-only : goal.returns-clause-only
returns-clause-only c = is_only c.args.certificate.now c.read_certificate.result c.read_certificate.ensures
