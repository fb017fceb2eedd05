use Rattle.std.proofs.Common.{◌≡◌, length, reverse}
use Rattle.reg_lines.specs.Strict.{skip_within}
use Rattle.reg_lines.proofs.strict.whole_lines.Given as goal

abbrev pub invariant-loop-text : goal.invariant-loop-text
invariant-loop-text l = skip_within (reverse l.text) ≡ skip_within (reverse l.fn.text)

abbrev pub decreases-loop-text : goal.decreases-loop-text
decreases-loop-text l = length l.text
