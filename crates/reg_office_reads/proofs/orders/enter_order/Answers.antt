use Rattle.std.proofs.Common.{Ok, Err}
use Rattle.reg_store_tables.proofs.PublicLaws.{and_so, by_finding, looked_then, so}
use Rattle.reg_office_reads.proofs.Deciding.{order_to_do}
use Rattle.reg_office_reads.proofs.Looking.{decided_against, decided_for, not_decided}
use Rattle.reg_office_reads.proofs.orders.enter_order.Goals as goal

pub returns-in_err-head : goal.returns-in_err-head
returns-in_err-head g c = not_decided c.from_residual.result c.in_err-head.field-0.0 c.from_residual.ensures.1 c.head_at.ensures.looked

pub returns-in_err-known : goal.returns-in_err-known
returns-in_err-known g c =
    not_decided c.from_residual-in_err-known.result c.in_err-known.field-0.0 c.from_residual-in_err-known.ensures.1 (looked_then c.head_at.ensures.looked c.subscriber.ensures.looked)

pub returns-in_err-row : goal.returns-in_err-row
returns-in_err-row g c =
    decided_against c.from_residual-in_err-row.result c.in_err-row.field-0.0 c.from_residual-in_err-row.ensures.1
    (so (and_so c.in_ok-head.ensures (by_finding c.in_ok-known.ensures))
    (λ records sound it. order_to_do records c.args.now c.in_ok-head.head c.args.subscriber c.args.days c.in_ok-known.known (Err c.in_err-row.field-0.0) it.0 it.1 c.in_err-row.ensures))

pub returns : goal.returns
returns g c =
    decided_for _
    (so (and_so c.in_ok-head.ensures (by_finding c.in_ok-known.ensures))
    (λ records sound it. order_to_do records c.args.now c.in_ok-head.head c.args.subscriber c.args.days c.in_ok-known.known (Ok c.in_ok-row.row) it.0 it.1 c.in_ok-row.ensures))
