use Rattle.std.proofs.Common.{◌≡◌, ◌∙◌, ap, arith}
use Rattle.reg_core_lists.specs.Feed.{declines_after}
use Rattle.reg_store_tables.proofs.PublicLaws.{and_so, by_finding, by_none, looked_none, looked_then, not_found, so}
use Rattle.reg_office.proofs.FollowDeclines.{first_all, first_more, first_none}
use Rattle.reg_office.proofs.follow.all_declines_in.Goals as goal

pub loop-init : goal.loop-init
loop-init g c = by_none looked_none (λ records. first_none records c.no_declines-declines.result c.no_declines-declines.ensures)

pub loop-preserved : goal.loop-preserved
loop-preserved g c =
    let ids = c.in_ok-ids.ids.items in
    let reached_is : c.in-Some.reached ≡ declines_after c.loop.declines ids = c.in-Some.ensures ∙ ap (declines_after c.loop.declines) c.deref.ensures.value in
    so (and_so c.loop.invariant (by_finding c.in_ok-ids.ensures))
    (λ records sound it. first_more records c.loop.declines c.in-Some.reached ids sound it.0 it.1 reached_is)

pub returns-then-len-lt-MOST_ROWS : goal.returns-then-len-lt-MOST_ROWS
returns-then-len-lt-MOST_ROWS g c =
    let ids = c.in_ok-ids.ids.items in
    let reached_is : c.in-Some.reached ≡ declines_after c.loop.declines ids = c.in-Some.ensures ∙ ap (declines_after c.loop.declines) c.deref.ensures.value in
    so (and_so c.loop.invariant (by_finding c.in_ok-ids.ensures))
    (λ records sound it. first_all records c.loop.declines c.in-Some.reached ids sound it.0 it.1 reached_is (omega (arith, c.in_ok-ids.ids.ok.0, c.len.ensures, c.if-len-lt-MOST_ROWS.true)))

pub returns : goal.returns
returns g c = by_none c.loop.invariant.looked (λ records. tt)

pub returns-in_err-ids : goal.returns-in_err-ids
returns-in_err-ids g c = not_found _ c.from_residual.result c.from_residual.ensures.0 (looked_then c.loop.invariant.looked c.declined_after.ensures.looked)

pub returns-in_default : goal.returns-in_default
returns-in_default g c = by_none (looked_then c.loop.invariant.looked c.declined_after.ensures.looked) (λ records. tt)
