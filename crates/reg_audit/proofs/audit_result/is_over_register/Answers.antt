use Rattle.std.proofs.Common.{◌≡◌, false, IsTrue, sym, ◌∙◌}
use Rattle.reg_audit.proofs.audit_result.is_over_register.Goals as goal

pub returns-in-Ok-clause-is : goal.returns-in-Ok-clause-is
returns-in-Ok-clause-is g c is = record {
  schema = sym c.schema.ensures.value ∙ c.in-Ok.ensures.0 is;
  live = c.schema.ensures.live;
  saved = c.is_autocommit.ensures.settled c.if-not-is_autocommit.false;
}

pub returns-in-Ok-clause-other : goal.returns-in-Ok-clause-other
returns-in-Ok-clause-other g c idle is same =
    let so : IsTrue c.in-Ok.same = c.in-Ok.ensures.1 (c.schema.ensures.value ∙ same) in
    let not : c.in-Ok.same ≡ false = is in
    let bad : ⊥ = cc in
    bad
