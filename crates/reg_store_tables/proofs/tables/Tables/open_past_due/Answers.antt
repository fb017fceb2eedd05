use Rattle.std.proofs.Common.{◌≡◌, take, refl, sym, ap, ◌∙◌, arith, rules, length, subst}
use Rattle.std.specs.List.{filter, AllByRecursion}
use Rattle.std.specs.Prelude.{IsSome}
use Rattle.std.proofs.lemmas.List.{take_all}
use Rattle.std.proofs.lemmas.List.Elements.{All-from_recursion}
use Rattle.reg_core.specs.Due.{overdue_report}
use Rattle.reg_core.specs.Records.{certificate_in}
use Rattle.reg_core.specs.declared.rows.RequestRow.{RequestRow}
use Rattle.reg_store_tables.specs.declared.sizes.Table.TheVariants.{Requests}
use Rattle.reg_store_tables.proofs.LookingUp.{finds_next, finds_ok, finds_pair, finds_then, passed_on, unfound}
use Rattle.reg_store_tables.proofs.OverdueLemmas.{late, undeclined, with_late, without_late, overdue_are, front_within}
use Rattle.reg_store_tables.proofs.Queries.{kept_have}
use Rattle.reg_store_tables.proofs.Written.{rows_few}
use Rattle.reg_store_tables.proofs.tables.Tables.open_past_due.Goals as goal
use Rattle.reg_store_tables.proofs.tables.Tables.open_past_due.Goals.{then-branch+in_ok-report, else-branch}

pub returns-in_err-requests : goal.returns-in_err-requests
returns-in_err-requests g c = rw (← c.self.view_is) (passed_on _ _ (search rules) (λ records written may. may) c.in_err-requests.ensures)

pub loop-request-preserved : goal.loop-request-preserved
loop-request-preserved g c =
    finds_next c.loop-request.invariant c.in_ok-is_overdue.ensures (λ records shows before is. (
      before.0,
      elim c.if-branch.branch [
        | then-branch+in_ok-report w ↦
            let kept = filter (late records c.args.now) (take c.loop-request.request-index c.deref-request-items.result.now) in
            w.report-is ∙ w.in_ok-report.ensures.more kept c.request-item.result before.1 refl
            ∙ ap overdue_report (sym (with_late (late records c.args.now) c.deref-request-items.result.now c.loop-request.request-index c.request-item.result c.loop-request-test.true c.request-item.is (sym is ∙ w.if-branch.true)))
        | else-branch w ↦
            w.report-is ∙ before.1
            ∙ ap overdue_report (sym (without_late (late records c.args.now) c.deref-request-items.result.now c.loop-request.request-index c.request-item.result c.loop-request-test.true c.request-item.is (sym is ∙ w.if-branch.false)))
      ],
    ))

pub returns-in_err-is_overdue : goal.returns-in_err-is_overdue
returns-in_err-is_overdue g c =
    passed_on _ _ (search rules) (λ records written may. may) (finds_then c.loop-request.invariant c.in_err-is_overdue.ensures
    (λ records written it may.
    let P : RequestRow → Type 0 = λ (row : RequestRow). IsSome (certificate_in records.certificates row.serial) in
    let all = subst (AllByRecursion P) (sym it.0) (kept_have P undeclined records.requests written.sound.requests.certificates_exist) in
    subst P (sym c.request-item.is) (All-from_recursion P c.deref-request-items.result.now all c.loop-request.request-index c.request-item.result c.loop-request-test.true))
    (λ records shows clean it found so. so))

pub returns-in_err-report : goal.returns-in_err-report
returns-in_err-report g c =
    unfound _ c.from_residual-in_err-report.ensures.0 (finds_pair c.loop-request.invariant c.in_ok-is_overdue.ensures) (λ records may written both.
    let it = both.0 in
    let kept = filter (late records c.args.now) (take c.loop-request.request-index c.deref-request-items.result.now) in
    let many = c.in_err-report.ensures.many kept it.1 in
    let front = front_within (late records c.args.now) undeclined c.loop-request.request-index records.requests in
    let sizes : length (filter (late records c.args.now) (take c.loop-request.request-index c.deref-request-items.result.now)) ≡ length (filter (late records c.args.now) (take c.loop-request.request-index (filter undeclined records.requests))) =
    ap (λ items. length (filter (late records c.args.now) (take c.loop-request.request-index items))) it.0 in
    let few = rows_few records written.sound written.policy Requests in
    omega arith)

pub returns : goal.returns
returns g c =
    finds_ok c.loop-request.invariant (λ records shows it.
    let whole : take c.loop-request.request-index c.deref-request-items.result.now ≡ filter undeclined records.requests =
    take_all c.loop-request.request-index c.deref-request-items.result.now c.loop-request-test.false ∙ it.0 in
    it.1 ∙ ap overdue_report (ap (filter (late records c.args.now)) whole ∙ overdue_are records c.args.now))
