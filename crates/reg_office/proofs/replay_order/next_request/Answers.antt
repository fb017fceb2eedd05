use Rattle.std.proofs.Common.{◌≡◌, List, Some, length, refl, subst}
use Rattle.std.specs.List.{slice_get}
use Rattle.std.proofs.lemmas.Option.{slice_get_read}
use Rattle.reg_core.specs.declared.rows.RequestRow.{RequestRow}
use Rattle.reg_office.proofs.replay_order.next_request.Goals as goal

pub returns-in-Some : goal.returns-in-Some
returns-in-Some c =
    let rows : List RequestRow = c.deref.result.now in
    let at = c.args.done.now.requests in
    let row : RequestRow = c.in-Some.row.now in
    let found : slice_get rows at ≡ Some row = slice_get_read rows (length rows) at row refl c.in-Some.ensures.lookup.3.0 c.in-Some.ensures.lookup.1 in
    (subst (λ (l : List RequestRow). slice_get l at ≡ Some row) c.deref.ensures.value found, refl)
