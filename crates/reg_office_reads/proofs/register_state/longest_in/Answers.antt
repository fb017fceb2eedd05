use Rattle.std.proofs.Common.{ℕ, ◌∙◌, Option, Some, ap, min, option_map, sym}
use Rattle.reg_core.specs.Schedule.{longest_at}
use Rattle.reg_core.specs.declared.rows.OrderRow.{OrderRow}
use Rattle.reg_store_tables.proofs.PublicLaws.{and_so, by_finding, looked_then, not_found, so}
use Rattle.reg_office_reads.proofs.register_state.longest_in.Goals as goal

pub returns-in_err-policy : goal.returns-in_err-policy
returns-in_err-policy g c =
    not_found _ c.from_residual-in_err-policy.result c.from_residual-in_err-policy.ensures.0 (looked_then c.order.ensures.looked c.policy.ensures.looked)

pub returns-in-Some : goal.returns-in-Some
returns-in-Some g c =
    so (and_so (by_finding c.in_ok-row.ensures) (by_finding c.in_ok-policy.ensures)) (λ records sound it.
    let days = rw (c.schedule.ensures.schedule, it.1) at c.longest.ensures.days in
    ap (λ (n : ℕ). Some n) (c.min.ensures ∙ ap (λ (n : ℕ). min c.in-Some.row.days n) days)
    ∙ ap (λ (found : Option OrderRow). option_map (λ (it : OrderRow). min it.days (longest_at records.policy.schedule c.args.not_before)) found) (sym c.in-Some.is ∙ it.0))

pub returns-in-None : goal.returns-in-None
returns-in-None g c =
    so (and_so (by_finding c.in_ok-row.ensures) (by_finding c.in_ok-policy.ensures)) (λ records sound it.
    ap (λ (found : Option OrderRow). option_map (λ (it : OrderRow). min it.days (longest_at records.policy.schedule c.args.not_before)) found) (sym c.in-None.is ∙ it.0))
