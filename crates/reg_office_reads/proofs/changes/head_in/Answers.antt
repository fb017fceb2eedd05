use Rattle.std.proofs.Common.{◌∙◌, ◌++◌, ap}
use Rattle.reg_core_lists.specs.FeedLines.{page_head}
use Rattle.reg_store_tables.proofs.PublicLaws.{and_so, by_finding, looked_then, not_found, so}
use Rattle.reg_office_reads.proofs.changes.head_in.Goals as goal

pub returns-in_err-last : goal.returns-in_err-last
returns-in_err-last g c =
    not_found _ c.from_residual-in_err-last.result c.from_residual-in_err-last.ensures.0 (looked_then c.policy.ensures.looked c.last.ensures.looked)

pub returns-in_err-put_head : goal.returns-in_err-put_head
returns-in_err-put_head g c =
    not_found _ c.from_residual-in_err-put_head.result c.from_residual-in_err-put_head.ensures.0 (looked_then c.policy.ensures.looked c.last.ensures.looked)

pub returns : goal.returns
returns g c =
    so (and_so (by_finding c.in_ok-policy.ensures) (by_finding c.in_ok-last.ensures))
    (λ records sound it.
    c.in_ok-put_head.ensures
    ∙ (λ i. c.new-text.ensures.items i ++ page_head (c.stored_name.ensures.stored_name i) (c.key.ensures.key i) (it.0 i) (it.1 i)))
