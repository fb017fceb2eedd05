use Rattle.std.proofs.Common.{sym, ap, subst, ◌∙◌, arith}
use Rattle.reg_ocsp.specs.Views.{answered}
use Rattle.reg_store_tables.proofs.PublicLaws.{and_so, by_none, gives_none, looked_none, looked_then, so}
use Rattle.reg_office_reads.proofs.Responding.{AreStatuses, answered_push, statuses_push}
use Rattle.reg_office_reads.proofs.statuses.answers.Goals as goal

pub loop-id-init : goal.loop-id-init
loop-id-init g c = record {
  ids = ap answered c.new-answers.ensures.items;
  looks = by_none looked_none (λ records issuer. subst (AreStatuses records c.args.now) (sym c.new-answers.ensures.items) tt);
}

pub loop-id-preserved : goal.loop-id-preserved
loop-id-preserved g c =
    let it = c.loop-id.invariant in
    let items = c.in_ok-extend_from_slice.ensures.items in
    record {
      ids = ap answered items ∙ answered_push c.loop-id.answers.items c.args.ids.now c.loop-id.id-index _ c.in_ok-status.status it.ids (omega (arith, c.loop-id-test.true, c.loop-id.auto.id-index-end));
      looks = so (and_so it.looks c.in_ok-status.ensures.looks)
          (λ records sound status_so issuer. subst (AreStatuses records c.args.now) (sym items) (statuses_push records c.args.now c.loop-id.answers.items _ c.in_ok-status.status (status_so.0 issuer) (status_so.1 issuer)));
    }

pub returns-in_err-status-clause-looks : goal.returns-in_err-status-clause-looks
returns-in_err-status-clause-looks g c =
    by_none (looked_then c.loop-id.invariant.looks.looked c.status_for_id.ensures.looks.looked) (λ records issuer. gives_none _ c.from_residual.result c.from_residual.ensures.0)

pub returns-in_err-extend_from_slice-clause-looks : goal.returns-in_err-extend_from_slice-clause-looks
returns-in_err-extend_from_slice-clause-looks g c =
    by_none (looked_then c.loop-id.invariant.looks.looked c.status_for_id.ensures.looks.looked)
    (λ records issuer. gives_none _ c.from_residual-in_err-extend_from_slice.result c.from_residual-in_err-extend_from_slice.ensures.0)

pub returns-clause-looks : goal.returns-clause-looks
returns-clause-looks g c = so c.loop-id.invariant.looks (λ records sound it issuer. it issuer)
