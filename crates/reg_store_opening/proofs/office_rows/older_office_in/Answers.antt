use Rattle.std.proofs.Common.{◌∙◌, sym, subst}
use Rattle.reg_store_opening.specs.VersionAndOffice.{IsOlderRow}
use Rattle.reg_store_opening.proofs.Judged.{judged_as}
use Rattle.reg_store_opening.proofs.ScheduleRows.{only_row}
use Rattle.reg_store_opening.proofs.office_rows.older_office_in.Goals as goal

pub returns-in-Some : goal.returns-in-Some
returns-in-Some c =
    let only = sym c.deref.ensures.value ∙ c.in-Some.ensures in
    judged_as c.older_in.result c.older_in.ensures (λ _ its. (c.in-Some.row.now, only, its))
    (λ never days last are. never days last (subst (IsOlderRow days last) (only_row c.args.rows.now.items are.0 c.in-Some.row.now are.1 only) are.2))
