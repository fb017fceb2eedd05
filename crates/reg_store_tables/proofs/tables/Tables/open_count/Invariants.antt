use Rattle.std.proofs.Common.{◌≡◌, ◌≤◌, take, length, Ok}
use Rattle.std.specs.List.{filter}
use Rattle.reg_store_tables.specs.LookUps.{Finds}
use Rattle.reg_store_tables.proofs.OverdueLemmas.{good_at, undeclined}
use Rattle.reg_store_tables.proofs.tables.Tables.open_count.Given as goal

abbrev pub invariant-loop-request : goal.invariant-loop-request
invariant-loop-request g l = record {
  few : l.count ≤ l.request-index;
  finds : Finds g.S.Store l.fn.self l.self (Ok l.count)
      (λ records count. (l.request-items ≡ filter undeclined records.requests) × (count ≡ length (filter (good_at records l.now) (take l.request-index l.request-items))));
}
