use Rattle.std.proofs.Common.{◌≡◌, take}
use Rattle.reg_core.specs.Schedule.{longest_at}
use Rattle.reg_core.proofs.schedule.Schedule.longest.Given as goal

abbrev pub invariant-loop-step : goal.invariant-loop-step
invariant-loop-step l = l.days ≡ longest_at (take l.step-index l.step-items) l.moment
