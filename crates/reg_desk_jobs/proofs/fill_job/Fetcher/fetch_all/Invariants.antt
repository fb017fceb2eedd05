use Rattle.reg_desk_jobs.proofs.fill_job.Fetcher.fetch_all.Given as goal

-- the program waited in each turn
abbrev pub invariant-loop : goal.invariant-loop
invariant-loop g l = g.M.Machine.waited l.counter
