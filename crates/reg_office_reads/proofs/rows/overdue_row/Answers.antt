use Rattle.std.proofs.Common.{◌∙◌, sym}
use Rattle.reg_store_tables.proofs.PublicLaws.{by_none, looked_none, not_found, so}
use Rattle.reg_office_reads.proofs.ListedRows.{overdue_none, overdue_some}
use Rattle.reg_office_reads.proofs.rows.overdue_row.Goals as goal

pub returns-then-is_past : goal.returns-then-is_past
returns-then-is_past g c =
    so c.open_row.ensures
    (λ records sound it. overdue_some records c.args.now c.args.request c.open_row.result c.in_ok-due.due c.in_ok-due.ensures.due (sym c.is_past.ensures ∙ c.if-is_past.true) it)
