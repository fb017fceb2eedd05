use Rattle.std.proofs.Common.{◌≡◌, None, length}
use Rattle.reg_desk_jobs.specs.Fetches.{LeadFrom}
use Rattle.reg_desk_jobs.proofs.fill_job.Fetcher.fetch_pages.Given as goal

-- the pages so far
abbrev pub invariant-loop : goal.invariant-loop
invariant-loop g l = LeadFrom None l.pages.items l.after × (length l.pages.items ≡ l.counter)
