use Rattle.std.proofs.Common.{ap, ◌∙◌}
use Rattle.reg_core.specs.Policy.{Terms}
use Rattle.reg_store_tables.proofs.PublicLaws.{and_so, by_finding, looked_then, not_found, so}
use Rattle.reg_office_reads.proofs.register_state.summary_in.Goals as goal

pub returns-in_err-latest-clause-looks : goal.returns-in_err-latest-clause-looks
returns-in_err-latest-clause-looks g c =
    not_found _ c.from_residual-in_err-latest.result c.from_residual-in_err-latest.ensures.0 (looked_then c.last.ensures.looked c.latest_crl.ensures.looked)

pub returns-in_err-policy-clause-looks : goal.returns-in_err-policy-clause-looks
returns-in_err-policy-clause-looks g c =
    not_found _ c.from_residual-in_err-policy.result c.from_residual-in_err-policy.ensures.0
    (looked_then (looked_then c.last.ensures.looked c.latest_crl.ensures.looked) c.policy.ensures.looked)

pub returns-in_err-rows-clause-looks : goal.returns-in_err-rows-clause-looks
returns-in_err-rows-clause-looks g c =
    not_found _ c.from_residual-in_err-rows.result c.from_residual-in_err-rows.ensures.0
    (looked_then (looked_then (looked_then c.last.ensures.looked c.latest_crl.ensures.looked) c.policy.ensures.looked) c.table_rows.ensures.looked)

pub returns-clause-looks : goal.returns-clause-looks
returns-clause-looks g c =
    so
    (and_so (and_so (and_so (by_finding c.in_ok-last.ensures) (by_finding c.in_ok-latest.ensures))
    (by_finding c.in_ok-policy.ensures)) c.in_ok-rows.ensures)
    (λ records sound it. (
      it.0.0.0,
      it.0.0.1,
      c.crl_life.ensures.seconds ∙ ap (λ (terms : Terms). terms.crl_life) it.0.1,
      c.cap.ensures.rows ∙ ap (λ (terms : Terms). terms.cap) it.0.1,
      it.1,
    ))
