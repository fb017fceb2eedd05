use Rattle.reg_store_tables.proofs.PublicLaws.{and_so, by_finding, looked_then, not_found, so}
use Rattle.reg_office.proofs.FollowLookUps.{in_records}
use Rattle.reg_office.proofs.follow.issuer_of_head.Goals as goal

pub returns-in_err-policy : goal.returns-in_err-policy
returns-in_err-policy g c = not_found _ c.from_residual-in_err-policy.result c.from_residual-in_err-policy.ensures.0 (looked_then c.issuer.ensures.looked c.policy.ensures.looked)

pub returns-in_err-crls : goal.returns-in_err-crls
returns-in_err-crls g c =
    not_found _ c.from_residual-in_err-crls.result c.from_residual-in_err-crls.ensures.0 (looked_then (looked_then c.issuer.ensures.looked c.policy.ensures.looked) c.held.ensures.looked)

pub returns : goal.returns
returns g c =
    so (and_so (and_so (by_finding c.in_ok-own.ensures) (by_finding c.in_ok-policy.ensures)) (by_finding c.in_ok-crls.ensures))
    (λ records sound it. in_records c.args.head.now c.in_ok-own.own c.in_ok-policy.policy c.in_ok-crls.crls records c.issuer_after.result it.0.0 it.0.1 it.1 c.issuer_after.ensures)
