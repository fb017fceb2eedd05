use Rattle.std.proofs.Common.{◌≡◌, ◌+◌, ◌∙◌, map, take, refl, sym, ap}
use Rattle.std.specs.List.{filter}
use Rattle.reg_core.specs.Due.{overdue_report}
use Rattle.reg_office_cache.specs.Undecided.{is_late_row}
use Rattle.reg_office_cache.specs.declared.undecided.UndecidedRequest.{UndecidedRequest}
use Rattle.reg_office_cache.proofs.UndecidedRows.{report_few, row_kept, row_left}
use Rattle.reg_office_cache.proofs.undecided.UndecidedRequests.overdue.Goals as goal
use Rattle.reg_office_cache.proofs.undecided.UndecidedRequests.overdue.Goals.{then-is_overdue, else-is_overdue}

pub loop-row-preserved : goal.loop-row-preserved
loop-row-preserved c =
    let rows = c.deref-row-items.result.now in
    let index = c.loop-row.row-index in
    let late = is_late_row c.args.now in
    let reported : c.if-is_overdue.report ≡ overdue_report (map (λ (it : UndecidedRequest). it.request) (filter late (take (index + 1) rows))) = elim c.if-is_overdue.branch [
      | then-is_overdue w ↦
          w.report-is ∙ w.one_more-report.ensures (map (λ (it : UndecidedRequest). it.request) (filter late (take index rows))) c.row-item.result.request c.loop-row.invariant.reported refl
          ∙ ap overdue_report (sym (row_kept late rows index c.row-item.result c.loop-row-test.true c.row-item.is (sym c.is_overdue.ensures ∙ w.if-is_overdue.true)))
      | else-is_overdue w ↦
          w.report-is ∙ c.loop-row.invariant.reported
          ∙ ap overdue_report (sym (row_left late rows index c.row-item.result c.loop-row-test.true c.row-item.is (sym c.is_overdue.ensures ∙ w.if-is_overdue.false)))
    ] in
    record { few = report_few late rows (index + 1) c.if-is_overdue.report reported; reported = reported }
