use Rattle.std.proofs.Common.{◌≡◌, ◌<◌, ◌+◌, ℕ, inr, take, get_or, length, refl, sym, ap, subst, ◌∙◌}
use Rattle.reg_core.specs.Calendar.{IsMoment}
use Rattle.reg_store_tables.proofs.PublicLaws.{pushed}
use Rattle.reg_store_opening.specs.VersionAndOffice.{AreSteps, HaveMoments}
use Rattle.reg_store_opening.proofs.ScheduleRows.{steps_at, steps_pushed, is_step}
use Rattle.reg_store_opening.proofs.office_rows.steps_in.Goals as goal

pub returns-in-None : goal.returns-in-None
returns-in-None c = inr (
  refl,
  λ steps has.
      let rows = c.args.rows.now.items in
      let at = c.loop-row.row-index in
      let row = c.row-item.result in
      let within : at < length rows = subst (λ l. at < length l) c.deref-row-items.ensures.value c.loop-row-test.true in
      let found = steps_at rows at row steps within has.1 has.0 in
      let is : row ≡ get_or rows at row = c.row-item.is ∙ ap (λ l. get_or l at row) c.deref-row-items.ensures.value in
      c.in-None.ensures found.0 (is_step row (get_or rows at row) found.0 (sym is) found.1),
)

pub loop-row-preserved : goal.loop-row-preserved
loop-row-preserved c =
    let rows = c.args.rows.now.items in
    let at = c.loop-row.row-index in
    let row = c.row-item.result in
    let step = c.in-Some.step in
    let old = c.loop-row.steps.items in
    let within : at < length rows = subst (λ l. at < length l) c.deref-row-items.ensures.value c.loop-row-test.true in
    let is : row ≡ get_or rows at row = c.row-item.is ∙ ap (λ l. get_or l at row) c.deref-row-items.ensures.value in
    let read = is_step (get_or rows at row) row step is c.in-Some.ensures in
    subst (λ l. AreSteps (take (at + 1) rows) l × HaveMoments l) (sym c.in_ok-push-in-Some.ensures.items)
    (steps_pushed rows at row old step within c.loop-row.invariant.0 read, pushed (λ (s : ℕ × ℕ). IsMoment s.0) old step c.loop-row.invariant.1 c.in-Some.ensures.2)
