use Rattle.std.proofs.Common.{◌≡◌, ◌-◌, length}
use Rattle.reg_store_tables.specs.LookUps.{LooksUp}
use Rattle.reg_office_cache.specs.Undecided.{TakesRequests}
use Rattle.reg_office_cache.proofs.undecided.read_requests.Given as goal

abbrev pub invariant-loop-known : goal.invariant-loop-known
invariant-loop-known g l =
    LooksUp g.C.Store l.fn.tables l.tables (λ records. (l.held ≡ length records.requests) × TakesRequests records l.fn.known l.known)

abbrev pub decreases-loop-known : goal.decreases-loop-known
decreases-loop-known g l = l.held - l.known.requests
