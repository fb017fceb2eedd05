use Rattle.reg_store_tables.proofs.PublicLaws.{and_so, by_finding, looked_then, not_found, so}
use Rattle.reg_office_reads.proofs.register_state.table_rows.Goals as goal

pub returns-in_err-orders : goal.returns-in_err-orders
returns-in_err-orders g c =
    not_found _ c.from_residual-in_err-orders.result c.from_residual-in_err-orders.ensures.0
    (looked_then c.held.ensures.looked c.held-2.ensures.looked)

pub returns-in_err-certificates : goal.returns-in_err-certificates
returns-in_err-certificates g c =
    not_found _ c.from_residual-in_err-certificates.result c.from_residual-in_err-certificates.ensures.0
    (looked_then (looked_then c.held.ensures.looked c.held-2.ensures.looked) c.held-3.ensures.looked)

pub returns-in_err-requests : goal.returns-in_err-requests
returns-in_err-requests g c =
    not_found _ c.from_residual-in_err-requests.result c.from_residual-in_err-requests.ensures.0
    (looked_then (looked_then (looked_then c.held.ensures.looked c.held-2.ensures.looked) c.held-3.ensures.looked)
    c.held-4.ensures.looked)

pub returns-in_err-crls : goal.returns-in_err-crls
returns-in_err-crls g c =
    not_found _ c.from_residual-in_err-crls.result c.from_residual-in_err-crls.ensures.0
    (looked_then (looked_then (looked_then (looked_then c.held.ensures.looked c.held-2.ensures.looked) c.held-3.ensures.looked)
    c.held-4.ensures.looked) c.held-5.ensures.looked)

pub returns : goal.returns
returns g c =
    so
    (and_so (and_so (and_so (and_so (by_finding c.in_ok-subscribers.ensures) (by_finding c.in_ok-orders.ensures)) (by_finding c.in_ok-certificates.ensures))
    (by_finding c.in_ok-requests.ensures)) (by_finding c.in_ok-crls.ensures))
    (λ records sound it i. record { subscribers = it.0.0.0.0 i; orders = it.0.0.0.1 i; certificates = it.0.0.1 i; requests = it.0.1 i; crls = it.1 i })
