use Rattle.std.proofs.Common.{◌∙◌, ap, sym, subst}
use Rattle.reg_core_lists.specs.Feed.{ArePageRows, PageParts, RowLists, declines_from, page_parts, page_parts_of}
use Rattle.reg_core_lists.specs.declared.positions.Declines.{Declines}
use Rattle.reg_store_tables.proofs.PublicLaws.{and_so, by_none, looked_then, not_found, so}
use Rattle.reg_office_reads.proofs.changes.page_in.Goals as goal

pub returns-in_err-rows : goal.returns-in_err-rows
returns-in_err-rows g c =
    not_found _ c.from_residual-in_err-rows.result c.from_residual-in_err-rows.ensures.0 (looked_then c.declines_in.ensures.looked c.rows_in.ensures.looked)

pub returns-in_err-next : goal.returns-in_err-next
returns-in_err-next g c =
    not_found _ c.from_residual-in_err-next.result c.from_residual-in_err-next.ensures.0 (looked_then (looked_then c.declines_in.ensures.looked c.rows_in.ensures.looked) c.next_crl.ensures.looked)

pub returns-in-Some : goal.returns-in-Some
returns-in-Some g c =
    let are = c.in-Some.ensures in
    let rows = ap (λ (page : PageParts). page.rows) are in
    so (and_so (and_so c.in_ok-from.ensures c.in_ok-rows.ensures) c.in_ok-next.ensures)
    (λ records sound it. record {
      are_rows =
          subst (λ (from : Declines). ArePageRows records c.args.counts.now from (page_parts_of c.in-Some.page).rows) it.0.0
          (subst (λ (rows : RowLists). ArePageRows records c.args.counts.now c.in_ok-from.from rows) (sym rows) it.0.1);
      are_parts = are ∙ (λ i. page_parts (sym rows i) (it.1 i) c.args.counts.now (it.0.0 i));
    })

pub returns-in-None : goal.returns-in-None
returns-in-None g c =
    by_none (looked_then (looked_then c.declines_in.ensures.looked c.rows_in.ensures.looked) c.next_crl.ensures.looked) (λ records. tt)
