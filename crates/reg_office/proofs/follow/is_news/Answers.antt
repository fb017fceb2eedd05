use Rattle.reg_store_changes.proofs.PublicLaws.{is_under_way}
use Rattle.reg_store_tables.proofs.PublicLaws.{and_so, by_finding, looked_then, not_found, so}
use Rattle.reg_office.proofs.FollowLookUps.{without_news}
use Rattle.reg_office.proofs.follow.is_news.Goals as goal

pub returns-in_err-issuer : goal.returns-in_err-issuer
returns-in_err-issuer g c = not_found _ c.from_residual-in_err-issuer.result c.from_residual-in_err-issuer.ensures.0 (looked_then c.last.ensures.looked c.issuer.ensures.looked)

pub returns-in_err-policy : goal.returns-in_err-policy
returns-in_err-policy g c =
    not_found _ c.from_residual-in_err-policy.result c.from_residual-in_err-policy.ensures.0 (looked_then (looked_then c.last.ensures.looked c.issuer.ensures.looked) c.policy.ensures.looked)

pub returns : goal.returns
returns g c =
    so (and_so (and_so (by_finding c.in_ok-last.ensures) (by_finding c.in_ok-issuer.ensures)) (by_finding c.in_ok-policy.ensures))
    (λ records sound it none.
    without_news c.args.page.now c.in_ok-issuer.issuer c.in_ok-policy.policy c.in_ok-last.last records it.0.1 it.1 it.0.0 (c.is_without_news.ensures (is_under_way _ none)))
