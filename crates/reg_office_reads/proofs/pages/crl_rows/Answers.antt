use Rattle.std.proofs.Common.{Some, refl}
use Rattle.reg_core.specs.declared.rows.CrlRow.{CrlRow}
use Rattle.reg_core_lists.specs.declared.rows.Row.TheVariants.{Crl}
use Rattle.reg_office_reads.proofs.Paging.{row_more}
use Rattle.reg_office_reads.proofs.pages.crl_rows.Goals as goal

pub loop-crl-preserved : goal.loop-crl-preserved
loop-crl-preserved c =
    row_more (λ (crl : CrlRow). Some (Crl crl)) c.args.found.now c.loop-crl.crl-index c.crl-item.result (Some (Crl c.crl-item.result)) c.loop-crl.rows.items c.put.new.rows.items
    c.loop-crl-test.true c.crl-item.is refl c.loop-crl.invariant c.in_ok-put.ensures.ok
