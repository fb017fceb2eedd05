use Rattle.std.proofs.Common.{◌∙◌, ap}
use Rattle.std.specs.Prelude.{filter_map}
use Rattle.std.proofs.lemmas.List.{take_all}
use Rattle.reg_core_lists.specs.Lists.{revoked_row}
use Rattle.reg_store_tables.proofs.PublicLaws.{and_so, by_none, looked_none, looked_then, not_found, so}
use Rattle.reg_office_reads.proofs.Paging.{row_more}
use Rattle.reg_office_reads.proofs.pages.revoked_rows.Goals as goal

pub loop-revocation-init : goal.loop-revocation-init
loop-revocation-init g c = by_none looked_none (λ records. c.new-rows.ensures.items)

pub loop-revocation-preserved : goal.loop-revocation-preserved
loop-revocation-preserved g c =
    so (and_so c.loop-revocation.invariant c.in_ok-row.ensures)
    (λ records sound it. row_more (revoked_row records c.args.now) c.args.found.now c.loop-revocation.revocation-index c.revocation-item.result c.in_ok-row.row c.loop-revocation.rows.items c.put.new.rows.items
    c.loop-revocation-test.true c.revocation-item.is it.1 it.0 c.in_ok-put.ensures.ok)

pub returns-in_err-row : goal.returns-in_err-row
returns-in_err-row g c = not_found _ c.from_residual.result c.from_residual.ensures.0 (looked_then c.loop-revocation.invariant.looked c.revoked_row.ensures.looked)

pub returns-in_err-put : goal.returns-in_err-put
returns-in_err-put g c = not_found _ c.from_residual-in_err-put.result c.from_residual-in_err-put.ensures.0 (looked_then c.loop-revocation.invariant.looked c.revoked_row.ensures.looked)

pub returns : goal.returns
returns g c =
    so c.loop-revocation.invariant
    (λ records sound it. it ∙ ap (filter_map (revoked_row records c.args.now)) (take_all c.loop-revocation.revocation-index c.args.found.now c.loop-revocation-test.false))
