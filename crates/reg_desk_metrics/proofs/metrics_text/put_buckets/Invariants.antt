use Rattle.std.proofs.Common.{◌≡◌, ◌++◌}
use Rattle.reg_desk_metrics.specs.Metrics.{buckets_text, sum_of}
use Rattle.reg_desk_metrics.proofs.metrics_text.put_buckets.Given as goal

-- the text of the buckets so far, and the sum of their counts
abbrev pub invariant-loop-index : goal.invariant-loop-index
invariant-loop-index l = (l.text.items ≡ l.initial.text.items ++ buckets_text l.buckets l.index) × (l.sum ≡ sum_of l.buckets l.index)
