use Rattle.std.proofs.Common.{◌≡◌, ◌+◌, drop, take}
use Rattle.reg_store_tables.specs.LookUps.{LooksUp}
use Rattle.reg_office_cache.specs.Undecided.{TakesRequests}
use Rattle.reg_office_cache.proofs.undecided.take_requests.Given as goal

abbrev pub invariant-loop-request : goal.invariant-loop-request
invariant-loop-request g l = record {
  requests : l.known.requests ≡ l.fn.known.requests + l.request-index;
  looks : LooksUp g.C.Store l.fn.tables l.tables (λ records. l.page ≡ take 256 (drop l.fn.known.requests records.requests) → TakesRequests records l.fn.known l.known);
}
