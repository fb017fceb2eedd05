use Rattle.std.proofs.Common.{List, ℕ, sym, subst}
use Rattle.reg_core.specs.Crls.{cert_list}
use Rattle.reg_audit.specs.Crls.{IsCrlOf}
use Rattle.reg_audit.specs.CheckFaults.{IsBroken}
use Rattle.reg_audit.proofs.stored.check_bytes.Goals as goal

pub returns-in-None-clause-others : goal.returns-in-None-clause-others
returns-in-None-clause-others c records lists can early is bytes = c.in-None.ensures.one (cert_list records c.args.crl.now.number c.args.crl.now.this_update) bytes

pub returns-in-Err-Broken-clause-others : goal.returns-in-Err-Broken-clause-others
returns-in-Err-Broken-clause-others c records lists can early is bytes =
    let list = cert_list records c.args.crl.now.number c.args.crl.now.this_update in
    let same = c.in-Some.ensures.one list bytes in
    let whole = subst (λ (a : List ℕ). IsCrlOf a list c.args.bytes.now) (sym same) bytes.whole in
    c.in-Err-Broken.ensures.broken records lists c.in-Some.ensures.found can.differ can.few (subst IsBroken (sym c.in-Err-Broken.field-0-is) tt) whole
