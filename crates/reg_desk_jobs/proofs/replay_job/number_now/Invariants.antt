use Rattle.std.proofs.Common.{◌≡◌, take}
use Rattle.reg_desk_jobs.specs.Replays.{number_now}
use Rattle.reg_desk_jobs.proofs.replay_job.number_now.Given as goal

abbrev pub invariant-loop-one : goal.invariant-loop-one
invariant-loop-one l = l.number ≡ number_now (take l.one-index l.numbers) l.logged
