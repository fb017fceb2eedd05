use Rattle.reg_store_tables.proofs.PublicLaws.{and_so, not_found, so}
use Rattle.reg_office_reads.proofs.ListedRows.{owner_is}
use Rattle.reg_office_reads.proofs.rows.subscriber_of.Goals as goal

pub returns-in_err-order : goal.returns-in_err-order
returns-in_err-order g c = not_found _ c.from_residual.result c.from_residual.ensures.0 c.order_at.ensures.looked

pub returns : goal.returns
returns g c =
    so (and_so c.in_ok-order.ensures c.subscriber_at.ensures) (λ records sound it. owner_is records c.args.id c.in_ok-order.order c.subscriber_at.result it.0 it.1)
