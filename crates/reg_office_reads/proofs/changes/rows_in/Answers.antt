use Rattle.std.proofs.Common.{◌∙◌, ◌-◌, ℕ, ap, length, take, drop}
use Rattle.std.specs.Prelude.{filter, map, nat_lt}
use Rattle.std.specs.List.{before_first}
use Rattle.reg_core.specs.declared.rows.RequestRow.{RequestRow}
use Rattle.reg_core_lists.specs.Feed.{is_later}
use Rattle.reg_store_tables.proofs.PublicLaws.{and_so, by_finding, looked_then, not_found, so}
use Rattle.reg_office_reads.proofs.changes.rows_in.Goals as goal

pub returns-in_err-orders : goal.returns-in_err-orders
returns-in_err-orders g c =
    not_found _ c.from_residual-in_err-orders.result c.from_residual-in_err-orders.ensures.0 (looked_then c.entered_after.ensures.looked c.entered_after-2.ensures.looked)

pub returns-in_err-certificates : goal.returns-in_err-certificates
returns-in_err-certificates g c =
    not_found _ c.from_residual-in_err-certificates.result c.from_residual-in_err-certificates.ensures.0 (looked_then (looked_then c.entered_after.ensures.looked c.entered_after-2.ensures.looked) c.entered_after-3.ensures.looked)

pub returns-in_err-requests : goal.returns-in_err-requests
returns-in_err-requests g c =
    not_found _ c.from_residual-in_err-requests.result c.from_residual-in_err-requests.ensures.0 (looked_then (looked_then (looked_then c.entered_after.ensures.looked c.entered_after-2.ensures.looked) c.entered_after-3.ensures.looked) c.entered_after-4.ensures.looked)

pub returns-in_err-declined : goal.returns-in_err-declined
returns-in_err-declined g c =
    not_found _ c.from_residual-in_err-declined.result c.from_residual-in_err-declined.ensures.0 (looked_then (looked_then (looked_then (looked_then c.entered_after.ensures.looked c.entered_after-2.ensures.looked) c.entered_after-3.ensures.looked) c.entered_after-4.ensures.looked) c.declined_after.ensures.looked)

pub returns-in_err-entered : goal.returns-in_err-entered
returns-in_err-entered g c =
    not_found _ c.from_residual-in_err-entered.result c.from_residual-in_err-entered.ensures.0 (looked_then (looked_then (looked_then (looked_then (looked_then c.entered_after.ensures.looked c.entered_after-2.ensures.looked) c.entered_after-3.ensures.looked) c.entered_after-4.ensures.looked) c.declined_after.ensures.looked) c.entered_after-5.ensures.looked)

pub returns : goal.returns
returns g c =
    let orders = c.left-room.ensures in
    let certificates = c.left-room-2.ensures ∙ ap (λ (n : ℕ). n - length c.in_ok-orders.orders.items) orders in
    let requests = c.left-room-3.ensures ∙ ap (λ (n : ℕ). n - length c.in_ok-certificates.certificates.items) certificates in
    let declined = c.left-room-4.ensures ∙ ap (λ (n : ℕ). n - length c.in_ok-requests.requests.items) requests in
    let revocations = c.left-room-5.ensures ∙ ap (λ (n : ℕ). n - length c.in_ok-declined.declined.items) declined in
    so
    (and_so (and_so (and_so (and_so (and_so (by_finding c.in_ok-subscribers.ensures) (by_finding c.in_ok-orders.ensures)) (by_finding c.in_ok-certificates.ensures))
    (by_finding c.in_ok-requests.ensures)) (by_finding c.in_ok-declined.ensures)) (by_finding c.in_ok-entered.ensures))
    (λ records sound it. record {
      subscribers = it.0.0.0.0.0;
      orders = it.0.0.0.0.1 ∙ ap (λ (n : ℕ). take n (drop c.args.counts.now.orders records.orders)) orders;
      certificates = it.0.0.0.1 ∙ ap (λ (n : ℕ). take n (drop c.args.counts.now.certificates records.certificates)) certificates;
      requests = it.0.0.1 ∙ ap (λ (n : ℕ). take n (drop c.args.counts.now.requests records.requests)) requests;
      declined = it.0.1 ∙ ap (λ (n : ℕ). take n (filter (nat_lt c.args.from.now.last) (map (λ (row : RequestRow). row.id) (filter (λ (row : RequestRow). row.declined) records.requests)))) declined;
      revocations =
          c.revocations_until_next_crl-revocations.ensures
          ∙ ap (before_first (is_later c.args.counts.now.crls)) (it.1 ∙ ap (λ (n : ℕ). take n (drop c.args.counts.now.revocations records.revocations)) revocations);
    })
