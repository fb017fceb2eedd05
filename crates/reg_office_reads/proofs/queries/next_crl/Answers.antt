use Rattle.std.proofs.Common.{◌∙◌}
use Rattle.reg_core.specs.Due.{due_by}
use Rattle.reg_store_tables.proofs.PublicLaws.{and_so, by_finding, looked_then, not_found, so}
use Rattle.reg_office_reads.proofs.queries.next_crl.Goals as goal

pub returns-in_err-policy : goal.returns-in_err-policy
returns-in_err-policy g c = not_found _ c.from_residual.result c.from_residual.ensures.0 c.policy.ensures.looked

pub returns-in_err-latest : goal.returns-in_err-latest
returns-in_err-latest g c =
    not_found _ c.from_residual-in_err-latest.result c.from_residual-in_err-latest.ensures.0 (looked_then c.policy.ensures.looked c.latest_crl.ensures.looks.looked)

pub returns-in_err-earliest : goal.returns-in_err-earliest
returns-in_err-earliest g c =
    not_found _ c.from_residual-in_err-earliest.result c.from_residual-in_err-earliest.ensures.0
    (looked_then (looked_then c.policy.ensures.looked c.latest_crl.ensures.looks.looked) c.earliest_unlisted.ensures.looks.looked)

pub returns : goal.returns
returns g c =
    so (and_so (and_so (by_finding c.in_ok-policy.ensures) c.in_ok-latest.ensures.looks) c.in_ok-earliest.ensures.looks)
    (λ records sound it. c.due_of.ensures ∙ (λ i. due_by (it.0.0 i) (it.0.1 i) (it.1 i)))
