use Rattle.reg_core.proofs.Schedules.{greatest_stepped}
use Rattle.reg_core.proofs.schedule.Schedule.greatest.Goals as goal

pub loop-step-preserved : goal.loop-step-preserved
loop-step-preserved c =
    greatest_stepped _ _ c.step-item.result c.loop-step.days _ c.loop-step-test.true c.step-item.is c.loop-step.invariant (cc)
