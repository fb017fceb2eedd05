use Rattle.std.proofs.Common.{ap}
use Rattle.std.specs.Prelude.{option_and_then}
use Rattle.reg_core.specs.Records.{order_in, request_in}
use Rattle.reg_core_lists.specs.Lists.{history_row, open_row, order_row, overdue_row, subscriber_row}
use Rattle.reg_store_tables.proofs.PublicLaws.{and_so, not_found, so}
use Rattle.reg_office_reads.proofs.ListedRows.{row_found}
use Rattle.reg_office_reads.proofs.pages.row_at.Goals as goal

pub returns-in_err-maybe_open-in-OpenRequests : goal.returns-in_err-maybe_open-in-OpenRequests
returns-in_err-maybe_open-in-OpenRequests g c = not_found _ c.from_residual.result c.from_residual.ensures.0 c.request_at.ensures.looked

pub returns-in_ok-maybe_open-in-OpenRequests : goal.returns-in_ok-maybe_open-in-OpenRequests
returns-in_ok-maybe_open-in-OpenRequests g c =
    so (and_so c.in_ok-maybe_open-in-OpenRequests.ensures c.open_row.ensures)
    (λ records sound it. rw c.in-OpenRequests.is
    (row_found (open_row records c.args.now) (request_in records.requests c.args.id) c.in_ok-maybe_open-in-OpenRequests.maybe_open c.open_row.result it.0 it.1))

pub returns-in_err-maybe_overdue-in-Overdue : goal.returns-in_err-maybe_overdue-in-Overdue
returns-in_err-maybe_overdue-in-Overdue g c =
    not_found _ c.from_residual-in_err-maybe_overdue-in-Overdue.result c.from_residual-in_err-maybe_overdue-in-Overdue.ensures.0 c.request_at-in-Overdue.ensures.looked

pub returns-in_ok-maybe_overdue-in-Overdue : goal.returns-in_ok-maybe_overdue-in-Overdue
returns-in_ok-maybe_overdue-in-Overdue g c =
    so (and_so c.in_ok-maybe_overdue-in-Overdue.ensures c.overdue_row.ensures)
    (λ records sound it. rw c.in-Overdue.is
    (row_found (overdue_row records c.args.now) (request_in records.requests c.args.id) c.in_ok-maybe_overdue-in-Overdue.maybe_overdue c.overdue_row.result it.0 it.1))

pub returns-in_err-request-in-Requests : goal.returns-in_err-request-in-Requests
returns-in_err-request-in-Requests g c =
    not_found _ c.from_residual-in_err-request-in-Requests.result c.from_residual-in_err-request-in-Requests.ensures.0 c.request_at-in-Requests.ensures.looked

pub returns-in_ok-request-in-Requests : goal.returns-in_ok-request-in-Requests
returns-in_ok-request-in-Requests g c =
    so (and_so c.in_ok-request-in-Requests.ensures c.history_row.ensures)
    (λ records sound it. rw c.in-Requests.is
    (row_found (history_row records c.args.now) (request_in records.requests c.args.id) c.in_ok-request-in-Requests.request c.history_row.result it.0 it.1))

pub returns-in_err-subscriber_at-in-Subscribers : goal.returns-in_err-subscriber_at-in-Subscribers
returns-in_err-subscriber_at-in-Subscribers g c =
    not_found _ c.from_residual-in_err-subscriber_at-in-Subscribers.result c.from_residual-in_err-subscriber_at-in-Subscribers.ensures.0
    c.subscriber_at.ensures.looked

pub returns-in_ok-subscriber_at-in-Subscribers : goal.returns-in_ok-subscriber_at-in-Subscribers
returns-in_ok-subscriber_at-in-Subscribers g c =
    so c.in_ok-subscriber_at-in-Subscribers.ensures (λ records sound is. rw c.in-Subscribers.is (ap (option_and_then subscriber_row) is))

pub returns-in_err-order-in-Orders : goal.returns-in_err-order-in-Orders
returns-in_err-order-in-Orders g c =
    not_found _ c.from_residual-in_err-order-in-Orders.result c.from_residual-in_err-order-in-Orders.ensures.0 c.order_at.ensures.looked

pub returns-in_ok-order-in-Orders : goal.returns-in_ok-order-in-Orders
returns-in_ok-order-in-Orders g c =
    so (and_so c.in_ok-order-in-Orders.ensures c.order_row.ensures)
    (λ records sound it. rw c.in-Orders.is
    (row_found (order_row records) (order_in records.orders c.args.id) c.in_ok-order-in-Orders.order c.order_row.result it.0 it.1))
