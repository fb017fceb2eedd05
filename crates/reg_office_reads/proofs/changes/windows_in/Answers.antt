use Rattle.reg_store_tables.proofs.PublicLaws.{and_so, looked_then, not_found, so}
use Rattle.reg_office_reads.proofs.changes.windows_in.Goals as goal

pub returns-in_err-orders : goal.returns-in_err-orders
returns-in_err-orders g c =
    not_found _ c.from_residual-in_err-orders.result c.from_residual-in_err-orders.ensures.0 (looked_then c.window_in.ensures.looked c.window_in-2.ensures.looked)

pub returns-in_err-certificates : goal.returns-in_err-certificates
returns-in_err-certificates g c =
    not_found _ c.from_residual-in_err-certificates.result c.from_residual-in_err-certificates.ensures.0 (looked_then (looked_then c.window_in.ensures.looked c.window_in-2.ensures.looked) c.window_in-3.ensures.looked)

pub returns-in_err-requests : goal.returns-in_err-requests
returns-in_err-requests g c =
    not_found _ c.from_residual-in_err-requests.result c.from_residual-in_err-requests.ensures.0 (looked_then (looked_then (looked_then c.window_in.ensures.looked c.window_in-2.ensures.looked) c.window_in-3.ensures.looked) c.window_in-4.ensures.looked)

pub returns-in_err-revocations : goal.returns-in_err-revocations
returns-in_err-revocations g c =
    not_found _ c.from_residual-in_err-revocations.result c.from_residual-in_err-revocations.ensures.0 (looked_then (looked_then (looked_then (looked_then c.window_in.ensures.looked c.window_in-2.ensures.looked) c.window_in-3.ensures.looked) c.window_in-4.ensures.looked) c.window_in-5.ensures.looked)

pub returns : goal.returns
returns g c =
    so
    (and_so (and_so (and_so (and_so c.in_ok-subscribers.ensures c.in_ok-orders.ensures) c.in_ok-certificates.ensures) c.in_ok-requests.ensures)
    c.in_ok-revocations.ensures)
    (λ records sound it i. record {
      subscribers = it.0.0.0.0 i;
      orders = it.0.0.0.1 i;
      certificates = it.0.0.1 i;
      requests = it.0.1 i;
      declined = c.new-declined.ensures.items i;
      revocations = it.1 i;
    })
