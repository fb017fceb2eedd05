use Rattle.std.proofs.Common.{◌≡◌, take, Ok}
use Rattle.std.specs.List.{filter}
use Rattle.reg_core.specs.Due.{overdue_report}
use Rattle.reg_store_tables.specs.LookUps.{Finds}
use Rattle.reg_store_tables.proofs.OverdueLemmas.{late, undeclined}
use Rattle.reg_store_tables.proofs.tables.Tables.open_past_due.Given as goal

abbrev pub invariant-loop-request : goal.invariant-loop-request
invariant-loop-request g l =
    Finds g.S.Store l.fn.self l.self (Ok l.report)
    (λ records report. (l.request-items ≡ filter undeclined records.requests) × (report ≡ overdue_report (filter (late records l.now) (take l.request-index l.request-items))))
