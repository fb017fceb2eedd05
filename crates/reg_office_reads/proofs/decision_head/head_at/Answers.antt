use Rattle.reg_core_laws.proofs.PublicLaws.{head_from}
use Rattle.reg_store_tables.proofs.PublicLaws.{and_so, by_finding, looked_then, not_found, so}
use Rattle.reg_office_reads.proofs.decision_head.head_at.Goals as goal

pub returns-in_err-policy : goal.returns-in_err-policy
returns-in_err-policy g c = not_found _ c.from_residual-in_err-policy.result c.from_residual-in_err-policy.ensures.0 (looked_then c.last.ensures.looked c.policy.ensures.looked)

pub returns-in_err-held : goal.returns-in_err-held
returns-in_err-held g c =
    not_found _ c.from_residual-in_err-held.result c.from_residual-in_err-held.ensures.0 (looked_then (looked_then c.last.ensures.looked c.policy.ensures.looked) c.held.ensures.looked)

pub returns : goal.returns
returns g c =
    so (and_so (and_so (by_finding c.in_ok-last.ensures) (by_finding c.in_ok-policy.ensures)) (by_finding c.in_ok-held.ensures))
    (λ records sound it. head_from records it.0.0 it.0.1 it.1)
