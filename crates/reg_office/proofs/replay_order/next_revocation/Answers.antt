use Rattle.std.proofs.Common.{◌≡◌, List, Some, length, refl, subst}
use Rattle.std.specs.List.{slice_get}
use Rattle.std.proofs.lemmas.Option.{slice_get_read}
use Rattle.reg_core.specs.declared.rows.RevocationRow.{RevocationRow}
use Rattle.reg_office.proofs.replay_order.next_revocation.Goals as goal

pub returns-in-Some : goal.returns-in-Some
returns-in-Some c =
    let rows : List RevocationRow = c.deref.result.now in
    let at = c.args.done.now.revocations in
    let row : RevocationRow = c.in-Some.row.now in
    let found : slice_get rows at ≡ Some row = slice_get_read rows (length rows) at row refl c.in-Some.ensures.lookup.3.0 c.in-Some.ensures.lookup.1 in
    (subst (λ (l : List RevocationRow). slice_get l at ≡ Some row) c.deref.ensures.value found, refl)
