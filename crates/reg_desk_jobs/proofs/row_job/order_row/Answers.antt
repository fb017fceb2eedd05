use Rattle.std.proofs.Common.{sym}
use Rattle.reg_desk_jobs.proofs.EachRow.{leads_on, sent_alone}
use Rattle.reg_desk_jobs.specs.RowTasks.{Sends, row_registration}
use Rattle.reg_desk_jobs.proofs.row_job.order_row.Goals as goal

pub returns-clause-ok : goal.returns-clause-ok
returns-clause-ok g c =
    leads_on _ _ _ _ _ _ _ _ c.in_ok-ordered.ordered.items (λ ordered. Sends (row_registration c.args.row.now ordered)) c.request_reply-2.result
    (rw (c.deref.ensures.value, c.in-Ok.ensures) at c.in_ok-ordered.ensures.sent)
    c.in_ok-ordered.ensures.incoming
    (sym (rw c.deref-2.ensures.value at c.if-not-has_first_word.ensures))
    (sent_alone _ _ c.request_reply-2.result
    (rw (c.deref-4.ensures.value, c.in-Ok-registration_line.ensures, c.deref-3.ensures.value) at c.request_reply-2.ensures.sent)
    c.request_reply-2.ensures.incoming)
