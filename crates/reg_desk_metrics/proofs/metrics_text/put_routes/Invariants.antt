use Rattle.std.proofs.Common.{◌≡◌, ◌++◌}
use Rattle.reg_desk_metrics.specs.Metrics.{routes_prefix}
use Rattle.reg_desk_metrics.proofs.metrics_text.put_routes.Given as goal

-- the text of the routes so far
abbrev pub invariant-loop-index : goal.invariant-loop-index
invariant-loop-index l = l.text.items ≡ l.initial.text.items ++ routes_prefix l.tally l.index
