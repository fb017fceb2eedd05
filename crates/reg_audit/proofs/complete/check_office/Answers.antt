use Rattle.std.proofs.Common.{ℕ, List, subst}
use Rattle.reg_core.specs.Policy.{IsPolicy}
use Rattle.reg_audit.proofs.Gathered.{on_ok}
use Rattle.reg_audit.proofs.OfficeRows.{office_holds}
use Rattle.reg_audit.proofs.complete.check_office.Goals as goal

pub returns-in-Some-clause-hold : goal.returns-in-Some-clause-hold
returns-in-Some-clause-hold c db are reads reads_steps =
    on_ok c.check_policy.result c.check_policy.ensures.hold (λ policy.
    office_holds db are c.args.office.now c.args.steps.now reads reads_steps c.in-Some.terms c.in-Some.ensures c.in_ok-steps.steps.items c.in_ok-steps.ensures.in_rows
    (subst (λ (steps : List (ℕ × ℕ)). IsPolicy (record { schedule = steps; crl_life = c.in-Some.terms.crl_life; ocsp_life = c.in-Some.terms.ocsp_life; cap = c.in-Some.terms.cap })) c.deref.ensures.value policy))
