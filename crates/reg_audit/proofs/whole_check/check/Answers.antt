use Rattle.reg_core_laws.proofs.PublicLaws.{reached_sound}
use Rattle.reg_audit.proofs.Results.{if_err}
use Rattle.reg_audit.proofs.whole_check.check.Goals as goal

pub returns-clause-kept : goal.returns-clause-kept
returns-clause-kept c records are columns beside =
    c.check_derived.ensures.ok c.in_ok-found.ensures.found records are (reached_sound records (c.in_ok-found.ensures.ok records are)) columns beside

pub returns-clause-broken : goal.returns-clause-broken
returns-clause-broken c records are columns beside =
    if_err c.check_derived.result (c.check_derived.ensures.broken c.in_ok-found.ensures.found records are (reached_sound records (c.in_ok-found.ensures.ok records are)) columns beside) (λ fault never is both. never is both.1)
