use Rattle.std.proofs.Common.{◌≡◌, sym, ap, subst, ◌∙◌, rules, refl, false, true, None}
use Rattle.std.specs.Prelude.{is_some}
use Rattle.reg_core.specs.Status.{is_good, status}
use Rattle.reg_core.specs.declared.command.Status.{Status}
use Rattle.reg_core.specs.declared.command.Status.TheVariants.{Good}
use Rattle.reg_store_tables.proofs.LookingUp.{finds_both, finds_next, finds_ok, passed_on, unfound}
use Rattle.reg_store_tables.proofs.OverdueLemmas.{not_good, revoked_not_good}
use Rattle.reg_store_tables.proofs.tables.Tables.is_good_at.Goals as goal

pub returns-in_err-revoked : goal.returns-in_err-revoked
returns-in_err-revoked g c = passed_on _ _ (search rules) (λ records written exists. tt) c.in_err-revoked.ensures

pub returns-then-is_some : goal.returns-then-is_some
returns-then-is_some g c =
    let some : is_some c.in_ok-revoked.revoked ≡ true = search rules in
    finds_ok c.in_ok-revoked.ensures (λ records shows revoked. revoked_not_good c.args.now _ _ (ap is_some (sym revoked) ∙ some))

pub returns-in_err-certificate : goal.returns-in_err-certificate
returns-in_err-certificate g c = passed_on _ _ (search rules) (λ records written exists. tt) (finds_both c.in_ok-revoked.ensures c.in_err-certificate.ensures)

pub returns-then-is_none : goal.returns-then-is_none
returns-then-is_none g c =
    let none : c.in_ok-certificate.certificate ≡ None = search rules in
    unfound _ refl (finds_both c.in_ok-revoked.ensures c.in_ok-certificate.ensures) (λ records exists written it. let no : false ≡ true = ap is_some (sym none ∙ it.1) ∙ exists in cc)

pub returns-in-Good : goal.returns-in-Good
returns-in-Good g c =
    finds_next c.in_ok-revoked.ensures c.in_ok-certificate.ensures (λ records shows revoked certificate.
    let is : c.status_of.result ≡ status records c.args.serial c.args.now = search rules in
    ap is_good (sym c.in-Good.is ∙ is))

pub returns-in_default : goal.returns-in_default
returns-in_default g c =
    finds_next c.in_ok-revoked.ensures c.in_ok-certificate.ensures (λ records shows revoked certificate.
    let is : c.status_of.result ≡ status records c.args.serial c.args.now = search rules in
    not_good (status records c.args.serial c.args.now) (subst (λ (s : Status). s ≡ Good → ⊥) is c.in_default.not-Good))
