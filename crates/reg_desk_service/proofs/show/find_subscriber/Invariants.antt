use Rattle.std.proofs.Common.{◌≡◌, List, Some, None}
use Rattle.std.specs.List.{find}
use Rattle.reg_core_lists.specs.declared.cursor.Cursor.TheVariants.{Subscribers}
use Rattle.reg_core_lists.specs.declared.rows.Row.{Row}
use Rattle.reg_office_api.specs.Leads.{Leads}
use Rattle.reg_desk_service.specs.RowLookUps.{has_key}
use Rattle.reg_desk_service.specs.declared.words.RowKey.TheVariants.{Subscriber}
use Rattle.reg_desk_service.proofs.PageByPage.{IsGoing}
use Rattle.reg_desk_service.proofs.show.find_subscriber.Given as goal

-- the rows so far are those of other subscribers
abbrev pub invariant-loop : goal.invariant-loop
invariant-loop g l = (passed : List Row) × (find (has_key (Subscriber l.fn.name)) passed ≡ None)
    × Leads g.O.Office.is_clean g.O.Office.stands (IsGoing l.now (Subscribers 0) passed (Some l.from)) l.initial.office l.office
