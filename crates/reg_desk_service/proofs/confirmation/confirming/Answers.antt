use Rattle.std.proofs.Common.{ℕ, List, ap, sym, ◌∙◌}
use Rattle.std.proofs.lemmas.List.{take_rest}
use Rattle.reg_desk_service.specs.Confirmations.{confirming_in}
use Rattle.reg_desk_service.proofs.Confirming.{confirming_none, confirming_some}
use Rattle.reg_desk_service.proofs.confirmation.confirming.Goals as goal

pub returns-in-Some : goal.returns-in-Some
returns-in-Some c =
    c.confirming_in.ensures ∙ ap (λ (query : List ℕ). confirming_in query c.args.response.now) c.unwaiting.ensures
    ∙ sym (confirming_some c.args.request.now (sym c.if-not-starts_with.ensures.value) _ (take_rest c.args.request.now 19) c.args.response.now c.in-Some.end (sym c.in-Some.ensures.place))

pub returns-in-None : goal.returns-in-None
returns-in-None c =
    sym (confirming_none c.args.request.now (sym c.if-not-starts_with.ensures.value) _ (take_rest c.args.request.now 19) c.args.response.now (sym c.in-None.ensures.place))
