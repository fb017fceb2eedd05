use Rattle.std.proofs.Common.{◌==◌, ◌∙◌, ℕ, ap, arith}
use Rattle.reg_store_tables.proofs.PublicLaws.{and_so, by_finding, by_none, looked_none, looked_then, not_found, so}
use Rattle.reg_office.proofs.FollowLookUps.{halves}
use Rattle.reg_office.proofs.follow.revocations_in.Goals as goal

pub loop-init : goal.loop-init
loop-init g c = by_none looked_none (λ records few. (omega arith, few))

pub loop-preserved : goal.loop-preserved
loop-preserved g c =
    so (and_so c.loop.invariant (by_finding c.in_ok-rows.ensures))
    (λ records sound it few.
    halves c.loop.low c.loop.high _ records.revocations c.in_ok-rows.rows.items c.is_empty.result c.halved-next_low.result (it.0 few) it.1
    (c.is_empty.ensures ∙ ap (λ (n : ℕ). n == 0) c.in_ok-rows.rows.ok.0) c.halved-next_low.ensures.none c.halved-next_low.ensures.some)

pub returns : goal.returns
returns g c = by_none c.loop.invariant.looked (λ records. tt)

pub returns-then-low-high : goal.returns-then-low-high
returns-then-low-high g c = so c.loop.invariant (λ records sound it few. let was = it few in omega arith)

pub returns-in_err-rows : goal.returns-in_err-rows
returns-in_err-rows g c = not_found _ c.from_residual.result c.from_residual.ensures.0 (looked_then c.loop.invariant.looked c.entered_after.ensures.looked)
