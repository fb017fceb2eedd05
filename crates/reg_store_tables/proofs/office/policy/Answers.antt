use Rattle.std.proofs.Common.{◌∙◌, sym, rules, subst}
use Rattle.reg_core.specs.Policy.{IsPolicy}
use Rattle.reg_store_tables.proofs.LookingUp.{finds_both, finds_made, passed_on}
use Rattle.reg_store_tables.proofs.office.policy.Goals as goal

pub returns-in_err-crl_life : goal.returns-in_err-crl_life
returns-in_err-crl_life g c = passed_on _ _ (search rules) (λ records written may. may) c.in_err-crl_life.ensures

pub returns-in_err-schedule : goal.returns-in_err-schedule
returns-in_err-schedule g c = passed_on _ _ (search rules) (λ records written may. may) (finds_both c.in_ok-crl_life.ensures c.in_err-schedule.ensures)

pub returns : goal.returns
returns g c =
    finds_made (finds_both c.in_ok-crl_life.ensures c.in_ok-schedule.ensures) c.ok_or.result c.with.result _ c.ok_or.ensures.value c.with.ensures.value
    (λ records it policy is. is ∙ (λ i. record { schedule = it.1 i; crl_life = it.0.0 i; ocsp_life = it.0.1 i; cap = it.0.2 i }))
    (λ records written it.
    c.with.ensures.some.1 (subst IsPolicy (λ i. record { schedule = sym it.1 i; crl_life = sym it.0.0 i; ocsp_life = sym it.0.1 i; cap = sym it.0.2 i }) written.policy))
