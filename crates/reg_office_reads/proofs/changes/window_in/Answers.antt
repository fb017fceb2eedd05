use Rattle.std.proofs.Common.{◌∙◌, take, drop}
use Rattle.reg_store_tables.proofs.PublicLaws.{by_finding, so}
use Rattle.reg_office_reads.proofs.changes.window_in.Goals as goal

pub returns : goal.returns
returns g c =
    so (by_finding c.in_ok-rows.ensures)
    (λ records sound it. it ∙ (λ i. take (c.min.ensures i) (drop (c.saturating_sub.ensures i) (g.T.Entered.entered records))))
