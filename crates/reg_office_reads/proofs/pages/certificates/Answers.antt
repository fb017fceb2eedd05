use Rattle.reg_store_tables.proofs.PublicLaws.{and_so, by_finding_sound, looked_then, not_found, so}
use Rattle.reg_office_reads.proofs.Paging.{certificates_page}
use Rattle.reg_office_reads.proofs.pages.certificates.Goals as goal

pub returns-in_err-found : goal.returns-in_err-found
returns-in_err-found g c = not_found _ c.from_residual.result c.from_residual.ensures.0 c.certs_after.ensures.looked

pub returns-in_err-rows : goal.returns-in_err-rows
returns-in_err-rows g c = not_found _ c.from_residual-in_err-rows.result c.from_residual-in_err-rows.ensures.0 (looked_then c.certs_after.ensures.looked c.certificate_rows.ensures.looked)

pub returns : goal.returns
returns g c =
    so (and_so (by_finding_sound c.in_ok-found.ensures) c.in_ok-rows.ensures)
    (λ records sound it.
    let is = certificates_page records c.args.now c.args.most c.args.before c.args.after
    c.in_ok-found.found.items c.deref.result.now c.deref-2.result.now c.in_ok-rows.rows.items c.last_certificate-last.result c.next_certificates-next.result it.0 c.deref.ensures.value c.deref-2.ensures.value it.1
    c.last_certificate-last.ensures c.next_certificates-next.ensures in
    record { rows = is.0; next = is.1 })
