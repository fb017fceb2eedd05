use Rattle.std.proofs.Common.{◌≡◌, take}
use Rattle.reg_core.specs.Schedule.{greatest_of}
use Rattle.reg_core.proofs.schedule.Schedule.greatest.Given as goal

abbrev pub invariant-loop-step : goal.invariant-loop-step
invariant-loop-step l = l.days ≡ greatest_of (take l.step-index l.step-items)
