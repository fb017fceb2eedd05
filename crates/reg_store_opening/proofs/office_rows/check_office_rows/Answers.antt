use Rattle.std.proofs.Common.{◌∙◌, sym, subst}
use Rattle.reg_store_opening.specs.VersionAndOffice.{HasOfficeValues}
use Rattle.reg_store_opening.proofs.Judged.{judged_as}
use Rattle.reg_store_opening.proofs.ScheduleRows.{steps_same, only_row}
use Rattle.reg_store_opening.proofs.office_rows.check_office_rows.Goals as goal

pub returns-in-Some : goal.returns-in-Some
returns-in-Some c =
    let has = c.in_ok-schedule.ensures in
    let only = sym c.deref.ensures.value ∙ c.in-Some.ensures in
    judged_as c.check_office_row.result c.check_office_row.ensures (λ _ keeps. (c.in_ok-schedule.schedule, has.1, has.0, (c.in-Some.row.now, only, keeps))) (λ never are.
    let one = are.3 in
    let schedule = steps_same c.args.steps.now.items are.0 c.in_ok-schedule.schedule are.2 has.0 in
    let row = only_row c.args.rows.now.items one.0 c.in-Some.row.now one.1 only in
    never (subst (λ s. HasOfficeValues s c.in-Some.row.now) schedule (subst (HasOfficeValues are.0) row one.2)))
