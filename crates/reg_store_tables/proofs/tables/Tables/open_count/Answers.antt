use Rattle.std.proofs.Common.{◌≡◌, ◌+◌, take, length, sym, ap, ◌∙◌, arith, rules, subst}
use Rattle.std.specs.List.{filter, AllByRecursion}
use Rattle.std.specs.Prelude.{IsSome}
use Rattle.std.proofs.lemmas.List.{take_all}
use Rattle.std.proofs.lemmas.List.Elements.{All-from_recursion}
use Rattle.reg_core.specs.Records.{certificate_in}
use Rattle.reg_core.specs.declared.rows.RequestRow.{RequestRow}
use Rattle.reg_store_tables.proofs.LookingUp.{finds_next, finds_ok, finds_then, passed_on}
use Rattle.reg_store_tables.proofs.OverdueLemmas.{good_at, none_open, one_open, open_are, undeclined}
use Rattle.reg_store_tables.proofs.Queries.{kept_have}
use Rattle.reg_store_tables.proofs.tables.Tables.open_count.Goals as goal
use Rattle.reg_store_tables.proofs.tables.Tables.open_count.Goals.{then-branch, else-branch}

pub returns-in_err-requests : goal.returns-in_err-requests
returns-in_err-requests g c = rw (← c.self.view_is) (passed_on _ _ (search rules) (λ records written may. may) c.in_err-requests.ensures)

pub loop-request-preserved : goal.loop-request-preserved
loop-request-preserved g c = record {
  few = elim c.if-branch.branch [
    | then-branch w ↦ omega (arith, w.count-is, c.loop-request.invariant.few)
    | else-branch w ↦ omega (arith, w.count-is, c.loop-request.invariant.few)
  ];
  finds = finds_next c.loop-request.invariant.finds c.in_ok-is_good_at.ensures (λ records shows before is. (
    before.0,
    elim c.if-branch.branch [
      | then-branch w ↦
          w.count-is ∙ ap (λ n. n + 1) before.1
          ∙ sym (one_open (good_at records c.args.now) c.deref-request-items.result.now c.loop-request.request-index c.request-item.result c.loop-request-test.true c.request-item.is (sym is ∙ w.if-branch.true))
      | else-branch w ↦
          w.count-is ∙ before.1
          ∙ sym (none_open (good_at records c.args.now) c.deref-request-items.result.now c.loop-request.request-index c.request-item.result c.loop-request-test.true c.request-item.is (sym is ∙ w.if-branch.false))
    ],
  ));
}

pub returns-in_err-is_good_at : goal.returns-in_err-is_good_at
returns-in_err-is_good_at g c =
    passed_on _ _ (search rules) (λ records written may. may) (finds_then c.loop-request.invariant.finds c.in_err-is_good_at.ensures
    (λ records written it may.
    let P : RequestRow → Type 0 = λ (row : RequestRow). IsSome (certificate_in records.certificates row.serial) in
    let all = subst (AllByRecursion P) (sym it.0) (kept_have P undeclined records.requests written.sound.requests.certificates_exist) in
    subst P (sym c.request-item.is) (All-from_recursion P c.deref-request-items.result.now all c.loop-request.request-index c.request-item.result c.loop-request-test.true))
    (λ records shows clean it found so. so))

pub returns : goal.returns
returns g c =
    finds_ok c.loop-request.invariant.finds (λ records shows it.
    let whole : take c.loop-request.request-index c.deref-request-items.result.now ≡ filter undeclined records.requests =
    take_all c.loop-request.request-index c.deref-request-items.result.now c.loop-request-test.false ∙ it.0 in
    it.1 ∙ ap length (ap (filter (good_at records c.args.now)) whole ∙ open_are records c.args.now))
