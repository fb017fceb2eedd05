use Rattle.std.proofs.Common.{sym}
use Rattle.reg_desk_jobs.proofs.EachRow.{leads_on}
use Rattle.reg_desk_jobs.specs.RowTasks.{OrdersRow}
use Rattle.reg_desk_jobs.proofs.row_job.register_row.Goals as goal

pub returns-clause-ok : goal.returns-clause-ok
returns-clause-ok g c =
    rw c.in-Some.is (leads_on _ _ _ _ _ _ _ _ c.in_ok-status.status.items (λ unknown. OrdersRow c.args.terms c.in-Some.row) c.order_row.result
    (rw (c.deref.ensures.value, c.in-Ok.ensures) at c.in_ok-status.ensures.sent)
    c.in_ok-status.ensures.incoming
    (sym (rw c.deref-2.ensures.value at c.if-not-has_first_word.ensures))
    c.order_row.ensures.ok)
