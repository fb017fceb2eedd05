use Rattle.std.proofs.Common.{◌≡◌, ◌∙◌, ◌+◌, ap, arith, refl}
use Rattle.std.specs.Prelude.{filter_map, min}
use Rattle.reg_core.proofs.PublicLaws.{numbers}
use Rattle.reg_store_tables.specs.Tables.{rows_of}
use Rattle.reg_store_tables.proofs.PublicLaws.{and_so, by_finding, by_none, looked_none, looked_then, not_found, so}
use Rattle.reg_office_reads.specs.ListById.{row_at, numbered_table}
use Rattle.reg_office_reads.proofs.Paging.{ended_at, id_more, no_ids, numbered_page}
use Rattle.reg_office_reads.proofs.pages.page_by_ids.Goals as goal

pub returns-in_err-held : goal.returns-in_err-held
returns-in_err-held g c = not_found _ c.from_residual.result c.from_residual.ensures.0 c.held.ensures.looked

pub loop-before-init : goal.loop-before-init
loop-before-init g c = record {
  stays = λ none. refl;
  looks = by_none looked_none (λ records. c.new-rows.ensures.items ∙ no_ids (row_at records c.args.now c.args.list) c.args.after);
}

pub loop-before-preserved : goal.loop-before-preserved
loop-before-preserved g c = record {
  stays = λ none. absurd (omega arith);
  looks = so (and_so c.loop-before.invariant.looks c.in_ok-row.ensures)
      (λ records sound it. id_more (row_at records c.args.now c.args.list) c.args.after c.loop-before.before c.in_ok-row.row c.loop-before.rows.items c.put.new.rows.items c.loop-before.auto.before
      it.1 it.0 c.in_ok-put.ensures.ok);
}

pub returns : goal.returns
returns g c =
    so (and_so (by_finding c.in_ok-held.ensures) c.loop-before.invariant.looks)
    (λ records sound it.
    let end : c.end_of-end.result ≡ min (rows_of records (numbered_table c.args.list)) (c.args.after + c.args.most) =
    c.end_of-end.ensures ∙ ap (λ rows. min rows (c.args.after + c.args.most)) (it.0 ∙ ap (rows_of records) c.table_of.ensures) in
    let reached = ended_at c.args.after c.loop-before.before c.end_of-end.result c.loop-before.auto.before-end c.loop-before-test.false c.loop-before.invariant.stays in
    let rows = it.1 ∙ ap (λ n. filter_map (row_at records c.args.now c.args.list) (numbers (c.args.after + 1) n)) reached in
    let is = numbered_page records sound c.args.now c.args.after c.args.most c.end_of-end.result c.loop-before.rows.items c.next_of-next.result c.args.list end rows c.next_of-next.ensures in
    record { rows = is.0; next = is.1 })

pub returns-in_err-row : goal.returns-in_err-row
returns-in_err-row g c = not_found _ c.from_residual-in_err-row.result c.from_residual-in_err-row.ensures.0 (looked_then (looked_then c.held.ensures.looked c.loop-before.invariant.looks.looked) c.row_at.ensures.looked)

pub returns-in_err-put : goal.returns-in_err-put
returns-in_err-put g c = not_found _ c.from_residual-in_err-put.result c.from_residual-in_err-put.ensures.0 (looked_then (looked_then c.held.ensures.looked c.loop-before.invariant.looks.looked) c.row_at.ensures.looked)
