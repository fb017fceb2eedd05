use Rattle.std.proofs.Common.{ap, sym, ◌∙◌}
use Rattle.std.proofs.lemmas.List.{take_rest}
use Rattle.reg_desk_service.specs.Confirmations.{follower_in_query}
use Rattle.reg_desk_service.proofs.Confirming.{sender_none, sender_some}
use Rattle.reg_desk_service.proofs.confirmation.follower_of.Goals as goal

pub returns-in-Some : goal.returns-in-Some
returns-in-Some c =
    c.follower_in_query.ensures ∙ ap follower_in_query c.unwaiting.ensures
    ∙ sym (sender_some c.args.request.now (sym c.if-not-starts_with.ensures.value) _ (take_rest c.args.request.now 19) c.in-Some.end (sym c.in-Some.ensures.place))

pub returns-in-None : goal.returns-in-None
returns-in-None c = sym (sender_none c.args.request.now (sym c.if-not-starts_with.ensures.value) _ (take_rest c.args.request.now 19) (sym c.in-None.ensures.place))
