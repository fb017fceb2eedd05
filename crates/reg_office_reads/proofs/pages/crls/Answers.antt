use Rattle.reg_store_tables.proofs.PublicLaws.{by_finding, by_none, gives_none, so}
use Rattle.reg_office_reads.proofs.Paging.{crls_page}
use Rattle.reg_office_reads.proofs.pages.crls.Goals as goal

pub returns-in_err-found : goal.returns-in_err-found
returns-in_err-found g c = by_none c.crls_after.ensures.looked (λ records now. gives_none _ c.from_residual.result c.from_residual.ensures.0)

pub returns-in_err-rows : goal.returns-in_err-rows
returns-in_err-rows g c = by_none c.crls_after.ensures.looked (λ records now. gives_none _ c.from_residual-in_err-rows.result c.from_residual-in_err-rows.ensures.0)

pub returns : goal.returns
returns g c =
    so (by_finding c.in_ok-found.ensures)
    (λ records sound it now.
    let is = crls_page records c.args.after c.args.most c.in_ok-found.found.items c.deref.result.now c.deref-2.result.now c.in_ok-rows.rows.items c.last_crl-last.result c.next_crls-next.result
    it c.deref.ensures.value c.deref-2.ensures.value c.in_ok-rows.ensures.found c.last_crl-last.ensures c.next_crls-next.ensures now in
    record { rows = is.0; next = is.1 })
