use Rattle.std.proofs.Common.{◌∙◌, ap}
use Rattle.std.specs.Prelude.{filter_map}
use Rattle.std.proofs.lemmas.List.{take_all}
use Rattle.reg_store_tables.proofs.PublicLaws.{and_so, by_none, looked_none, looked_then, not_found, so}
use Rattle.reg_office_reads.specs.ListById.{certificate_listed}
use Rattle.reg_office_reads.proofs.Paging.{row_more}
use Rattle.reg_office_reads.proofs.pages.certificate_rows.Goals as goal

pub loop-certificate-init : goal.loop-certificate-init
loop-certificate-init g c = by_none looked_none (λ records. c.new-rows.ensures.items)

pub loop-certificate-preserved : goal.loop-certificate-preserved
loop-certificate-preserved g c =
    so (and_so c.loop-certificate.invariant c.in_ok-row.ensures)
    (λ records sound it. row_more (certificate_listed records c.args.now c.args.before.now) c.args.found.now c.loop-certificate.certificate-index c.certificate-item.result c.in_ok-row.row c.loop-certificate.rows.items c.put.new.rows.items
    c.loop-certificate-test.true c.certificate-item.is it.1 it.0 c.in_ok-put.ensures.ok)

pub returns-in_err-row : goal.returns-in_err-row
returns-in_err-row g c = not_found _ c.from_residual.result c.from_residual.ensures.0 (looked_then c.loop-certificate.invariant.looked c.certificate_listed.ensures.looked)

pub returns-in_err-put : goal.returns-in_err-put
returns-in_err-put g c = not_found _ c.from_residual-in_err-put.result c.from_residual-in_err-put.ensures.0 (looked_then c.loop-certificate.invariant.looked c.certificate_listed.ensures.looked)

pub returns : goal.returns
returns g c =
    so c.loop-certificate.invariant
    (λ records sound it. it ∙ ap (filter_map (certificate_listed records c.args.now c.args.before.now)) (take_all c.loop-certificate.certificate-index c.args.found.now c.loop-certificate-test.false))
