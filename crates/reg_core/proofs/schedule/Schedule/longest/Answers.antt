use Rattle.std.proofs.Common.{◌∙◌, arith}
use Rattle.reg_core.proofs.Schedules.{longest_reached, longest_not_reached, longest_whole, longest_at_least_1, longest_at_most_greatest, greatest_at_most_398_of}
use Rattle.reg_core.proofs.schedule.Schedule.longest.Goals as goal
use Rattle.reg_core.proofs.schedule.Schedule.longest.Goals.{then-reached, else-reached}

pub loop-step-preserved : goal.loop-step-preserved
loop-step-preserved c =
    let step = c.step-item.result in
    let days = c.loop-step.days in
    elim c.if-reached.branch [
      | then-reached w ↦ w.days-is ∙ longest_reached _ _ step c.args.moment days c.loop-step-test.true c.step-item.is (cc)
      | else-reached w ↦ w.days-is ∙ longest_not_reached _ _ step c.args.moment days c.loop-step-test.true c.step-item.is (cc) c.loop-step.invariant
    ]

pub returns-clause-at_least_1 : goal.returns-clause-at_least_1
returns-clause-at_least_1 c =
    let steps = c.steps-step-items.result.now in
    rw (longest_whole steps _ c.args.moment _ c.loop-step-test.false c.loop-step.invariant)
    (longest_at_least_1 steps c.args.moment c.steps-step-items.ensures.schedule)

pub returns-clause-at_most_greatest : goal.returns-clause-at_most_greatest
returns-clause-at_most_greatest c =
    let steps = c.steps-step-items.result.now in
    rw (longest_whole steps _ c.args.moment _ c.loop-step-test.false c.loop-step.invariant, ← c.steps-step-items.ensures.steps)
    (longest_at_most_greatest steps c.args.moment)

pub returns-clause-at_most_398 : goal.returns-clause-at_most_398
returns-clause-at_most_398 c =
    let steps = c.steps-step-items.result.now in
    rw (longest_whole steps _ c.args.moment _ c.loop-step-test.false c.loop-step.invariant)
    (omega (arith, longest_at_most_greatest steps c.args.moment, greatest_at_most_398_of steps c.steps-step-items.ensures.schedule))
