use Rattle.std.proofs.Common.{◌≡◌, ◌≤◌, take, length}
use Rattle.std.specs.List.{filter}
use Rattle.reg_office_cache.specs.Undecided.{ends_from}
use Rattle.reg_office_cache.proofs.undecided.UndecidedRequests.open_count.Given as goal

abbrev pub invariant-loop-row : goal.invariant-loop-row
invariant-loop-row l = record {
  few : l.count ≤ l.row-index;
  counted : l.count ≡ length (filter (ends_from l.now) (take l.row-index l.row-items));
}
