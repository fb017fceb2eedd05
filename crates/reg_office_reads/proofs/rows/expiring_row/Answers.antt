use Rattle.std.proofs.Common.{◌∙◌, sym}
use Rattle.reg_store_tables.proofs.PublicLaws.{by_none, looked_none, so}
use Rattle.reg_office_reads.proofs.ListedRows.{ending_is, ending_none}
use Rattle.reg_office_reads.proofs.rows.expiring_row.Goals as goal

pub returns-then-ends_before : goal.returns-then-ends_before
returns-then-ends_before g c =
    so c.good_row.ensures (λ records sound it. ending_is records c.args.now c.args.before c.args.certificate c.good_row.result (sym c.ends_before.ensures ∙ c.if-ends_before.true) it)
