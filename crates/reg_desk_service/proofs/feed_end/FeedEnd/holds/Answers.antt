use Rattle.std.proofs.Common.{ℕ, List, ap, sym, ◌∙◌}
use Rattle.std.proofs.lemmas.List.{take_rest}
use Rattle.reg_desk_service.specs.FeedEnds.{waits_for_changes}
use Rattle.reg_desk_service.proofs.Confirming.{waits_by}
use Rattle.reg_desk_service.proofs.feed_end.FeedEnd.holds.Goals as goal

pub returns : goal.returns
returns c =
    c.asks_after.ensures
    ∙ sym (waits_by c.args.request.now (sym c.if-not-starts_with.ensures.value) _ (take_rest c.args.request.now 19) c.as_slice-positions.result.now (sym c.if-is_empty.ensures))
    ∙ ap (λ (positions : List ℕ). waits_for_changes positions c.args.request.now) c.as_slice-positions.ensures.value
