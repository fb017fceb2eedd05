use Rattle.std.proofs.Common.{Ok, Err}
use Rattle.reg_store_tables.proofs.PublicLaws.{and_so, by_finding, looked_then, so}
use Rattle.reg_office_reads.proofs.Deciding.{subscriber_to_do}
use Rattle.reg_office_reads.proofs.Looking.{decided_against, decided_for, not_decided}
use Rattle.reg_office_reads.proofs.subscribers.enter_subscriber.Goals as goal

pub returns-in_err-head : goal.returns-in_err-head
returns-in_err-head g c = not_decided c.from_residual.result c.in_err-head.field-0.0 c.from_residual.ensures.1 c.head_at.ensures.looked

pub returns-in_err-by_name : goal.returns-in_err-by_name
returns-in_err-by_name g c =
    not_decided c.from_residual-in_err-by_name.result c.in_err-by_name.field-0.0 c.from_residual-in_err-by_name.ensures.1 (looked_then c.head_at.ensures.looked c.subscriber_by_name.ensures.looked)

pub returns-in_err-row : goal.returns-in_err-row
returns-in_err-row g c =
    decided_against c.from_residual-in_err-row.result c.in_err-row.field-0.0 c.from_residual-in_err-row.ensures.1
    (so (and_so c.in_ok-head.ensures (by_finding c.in_ok-by_name.ensures))
    (λ records sound it. subscriber_to_do records c.args.now c.in_ok-head.head c.args.name c.in_ok-by_name.by_name (Err c.in_err-row.field-0.0) it.0 it.1 c.in_err-row.ensures))

pub returns : goal.returns
returns g c =
    decided_for _
    (so (and_so c.in_ok-head.ensures (by_finding c.in_ok-by_name.ensures))
    (λ records sound it. subscriber_to_do records c.args.now c.in_ok-head.head c.args.name c.in_ok-by_name.by_name (Ok c.in_ok-row.row) it.0 it.1 c.in_ok-row.ensures))
