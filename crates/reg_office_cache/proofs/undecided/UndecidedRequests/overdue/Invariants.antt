use Rattle.std.proofs.Common.{◌≡◌, ◌≤◌, take, map}
use Rattle.std.specs.Prelude.{IfSome}
use Rattle.std.specs.List.{filter}
use Rattle.reg_core.specs.Due.{overdue_report}
use Rattle.reg_office_cache.specs.Undecided.{is_late_row}
use Rattle.reg_office_cache.specs.declared.undecided.UndecidedRequest.{UndecidedRequest}
use Rattle.reg_office_cache.proofs.undecided.UndecidedRequests.overdue.Given as goal

abbrev pub invariant-loop-row : goal.invariant-loop-row
invariant-loop-row l = record {
  few : IfSome l.report (λ it. it.count ≤ l.row-index);
  reported : l.report ≡ overdue_report (map (λ (row : UndecidedRequest). row.request) (filter (is_late_row l.now) (take l.row-index l.row-items)));
}
