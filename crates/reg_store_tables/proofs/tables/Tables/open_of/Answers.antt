use Rattle.std.proofs.Common.{◌≡◌, ◌<◌, ◌^◌, ℕ, length, sym, ap, subst, ◌∙◌, rules}
use Rattle.std.specs.List.{filter}
use Rattle.std.specs.Prelude.{min}
use Rattle.reg_core.specs.Records.{Records}
use Rattle.reg_core.specs.Status.{is_good, status, status_by}
use Rattle.reg_core.specs.declared.command.Status.{Status}
use Rattle.reg_core.specs.declared.command.Status.TheVariants.{Good}
use Rattle.reg_store_tables.specs.LookUps.{FindsIf}
use Rattle.reg_store_tables.proofs.LookingUp.{finds_both, finds_next, finds_pair, finds_then, passed_on}
use Rattle.reg_store_tables.proofs.OverdueLemmas.{not_good}
use Rattle.reg_store_tables.proofs.WaitingLemmas.{none_waiting, undeclined_of, waiting_are}
use Rattle.reg_store_tables.proofs.tables.Tables.open_of.Goals as goal

pub returns-in_err-revoked : goal.returns-in_err-revoked
returns-in_err-revoked g c = passed_on _ _ (search rules) (λ records written below. tt) (finds_both c.in_ok-certificate.ensures c.in_err-revoked.ensures)

pub returns-in-Good : goal.returns-in-Good
returns-in-Good g c =
    let rest : FindsIf (λ _. c.args.most < 2 ^ 63) g.S.Store c.revocation.new.self c.count_undeclined.new.conn c.count_undeclined.result (λ (records : Records) (count : ℕ). count ≡ min c.args.most (length (filter (undeclined_of c.args.serial) records.requests))) =
    rw (← c.self.view_is) c.count_undeclined.ensures in
    finds_then (finds_pair c.in_ok-certificate.ensures c.in_ok-revoked.ensures) rest (λ records written looked below. below)
    (λ records shows clean looked count counted.
    let is : c.status_of.result ≡ status records c.args.serial c.args.now = c.status_of.ensures ∙ (λ i. status_by c.args.now (looked.0 i) (looked.1 i)) in
    counted ∙ ap (min c.args.most) (waiting_are records c.args.serial c.args.now (ap is_good (sym c.in-Good.is ∙ is))))

pub returns-in_default : goal.returns-in_default
returns-in_default g c =
    finds_next c.in_ok-certificate.ensures c.in_ok-revoked.ensures (λ records shows certificate revoked.
    let is : c.status_of.result ≡ status records c.args.serial c.args.now = c.status_of.ensures ∙ (λ i. status_by c.args.now (certificate i) (revoked i)) in
    none_waiting records c.args.serial c.args.now c.args.most (not_good (status records c.args.serial c.args.now) (subst (λ (s : Status). s ≡ Good → ⊥) is c.in_default.not-Good)))
