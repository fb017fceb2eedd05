use Rattle.std.proofs.Common.{arith, inl, inr, refl, subst}
use Rattle.reg_desk_jobs.proofs.fill_job.Fetcher.fetch_all.Goals as goal

pub loop-init : goal.loop-init
loop-init g c = g.M.Machine.not_waited

pub returns-clause-err : goal.returns-clause-err
returns-clause-err g c =
    inl (inr (refl, inr (subst g.M.Machine.waited (omega (arith, c.loop.auto.counter-end, c.loop-test.false)) c.loop.invariant)))
