use Rattle.std.proofs.Common.{◌≡◌, ◌++◌}
use Rattle.reg_desk_metrics.specs.Metrics.{answers_prefix}
use Rattle.reg_desk_metrics.proofs.metrics_text.put_answers.Given as goal

-- the text of the indexes so far
abbrev pub invariant-loop-index : goal.invariant-loop-index
invariant-loop-index l = l.text.items ≡ l.initial.text.items ++ answers_prefix l.answers l.index
