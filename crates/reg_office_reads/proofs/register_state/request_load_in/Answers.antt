use Rattle.std.proofs.Common.{ap, ◌∙◌}
use Rattle.reg_core.specs.Policy.{Terms}
use Rattle.reg_store_tables.proofs.PublicLaws.{and_so, by_finding, looked_then, not_found, so}
use Rattle.reg_office_reads.proofs.register_state.request_load_in.Goals as goal

pub returns-in_err-policy-clause-looks : goal.returns-in_err-policy-clause-looks
returns-in_err-policy-clause-looks g c =
    not_found _ c.from_residual-in_err-policy.result c.from_residual-in_err-policy.ensures.0 (looked_then c.last.ensures.looked c.policy.ensures.looked)

pub returns-in_err-requests-clause-looks : goal.returns-in_err-requests-clause-looks
returns-in_err-requests-clause-looks g c =
    not_found _ c.from_residual-in_err-requests.result c.from_residual-in_err-requests.ensures.0
    (looked_then (looked_then c.last.ensures.looked c.policy.ensures.looked) c.held.ensures.looked)

pub returns-in_err-waiting-clause-looks : goal.returns-in_err-waiting-clause-looks
returns-in_err-waiting-clause-looks g c =
    not_found _ c.from_residual-in_err-waiting.result c.from_residual-in_err-waiting.ensures.0
    (looked_then (looked_then (looked_then c.last.ensures.looked c.policy.ensures.looked) c.held.ensures.looked) c.open_of.ensures.looked)

pub returns-clause-looks : goal.returns-clause-looks
returns-clause-looks g c =
    so
    (and_so (and_so (and_so (by_finding c.in_ok-last.ensures) (by_finding c.in_ok-policy.ensures))
    (by_finding c.in_ok-requests.ensures)) (by_finding c.in_ok-waiting.ensures))
    (λ records sound it.
    let cap = c.cap.ensures.rows ∙ ap (λ (terms : Terms). terms.cap) it.0.0.1 in
    λ i. record { last = it.0.0.0 i; cap = cap i; requests = it.0.1 i; waiting = it.1 i })
