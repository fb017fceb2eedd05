use Rattle.std.proofs.Common.{◌≡◌, ◌∙◌, inr, refl, sym, subst}
use Rattle.reg_core.specs.Schedule.{IsSchedule}
use Rattle.reg_store_opening.proofs.ScheduleRows.{steps_same}
use Rattle.reg_store_opening.proofs.office_rows.schedule_in.Goals as goal

pub returns : goal.returns
returns c = inr (
  refl,
  λ steps is has.
      let one : steps ≡ c.deref.result.now = steps_same c.args.rows.now.items steps c.in_ok-steps.steps.items has.0 c.in_ok-steps.ensures.0 ∙ sym c.deref.ensures.value in
      absurd (let some = c.in-None.ensures.some.1 (subst IsSchedule one is) in cc),
)
