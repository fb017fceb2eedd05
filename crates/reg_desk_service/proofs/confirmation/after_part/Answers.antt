use Rattle.std.proofs.Common.{Some, ap, length, sym, ◌∙◌}
use Rattle.std.proofs.lemmas.List.{take_rest}
use Rattle.reg_desk_service.specs.PageSchedules.{after_part}
use Rattle.reg_desk_service.proofs.Confirming.{part_here, part_later}
use Rattle.reg_desk_service.proofs.confirmation.after_part.Goals as goal

pub returns-then-starts_with : goal.returns-then-starts_with
returns-then-starts_with c =
    ap Some (take_rest c.loop-rest.rest.now (length c.args.part.now))
    ∙ sym (c.loop-rest.invariant ∙ part_here c.args.part.now c.loop-rest.rest.now (sym c.loop-rest-test.ensures) (sym c.if-starts_with.ensures.value))

pub loop-rest-preserved : goal.loop-rest-preserved
loop-rest-preserved c =
    c.loop-rest.invariant ∙ part_later c.args.part.now c.loop-rest.rest.now (sym c.loop-rest-test.ensures) (sym c.if-starts_with.ensures.value)
    ∙ ap (after_part c.args.part.now) (sym (take_rest c.loop-rest.rest.now 1))
