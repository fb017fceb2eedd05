use Rattle.std.proofs.Common.{Some}
use Rattle.reg_core.specs.declared.rows.RevocationRow.{RevocationRow}
use Rattle.reg_core.specs.AscendingRows.{key_of}
use Rattle.reg_core_lists.specs.Lists.{revoked_row}
use Rattle.reg_core_lists.specs.declared.cursor.Cursor.TheVariants.{Revoked}
use Rattle.reg_store_tables.proofs.PublicLaws.{and_so, by_finding_sound, looked_then, not_found, so}
use Rattle.reg_office_reads.proofs.Paging.{keyed_page}
use Rattle.reg_office_reads.proofs.pages.revoked.Goals as goal

pub returns-in_err-found : goal.returns-in_err-found
returns-in_err-found g c = not_found _ c.from_residual.result c.from_residual.ensures.0 c.revocations_after.ensures.looked

pub returns-in_err-rows : goal.returns-in_err-rows
returns-in_err-rows g c = not_found _ c.from_residual-in_err-rows.result c.from_residual-in_err-rows.ensures.0 (looked_then c.revocations_after.ensures.looked c.revoked_rows.ensures.looked)

pub returns : goal.returns
returns g c =
    so (and_so (by_finding_sound c.in_ok-found.ensures) c.in_ok-rows.ensures)
    (λ records sound it.
    let is = keyed_page (λ (row : RevocationRow). row.serial) (revoked_row records c.args.now) (λ serial. Revoked (Some serial)) (key_of c.args.after) c.args.most records.revocations
    c.in_ok-found.found.items c.deref.result.now c.deref-2.result.now c.in_ok-rows.rows.items c.last_revocation-last.result c.next_revoked-next.result it.0 c.deref.ensures.value c.deref-2.ensures.value it.1
    c.last_revocation-last.ensures c.next_revoked-next.ensures in
    record { rows = is.0; next = is.1 })
