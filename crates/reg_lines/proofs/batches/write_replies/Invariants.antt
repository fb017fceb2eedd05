use Rattle.std.proofs.Common.{map, take}
use Rattle.std.specs.Io.KnownBytes.{Appends}
use Rattle.std.specs.List.{concat}
use Rattle.reg_lines.specs.Batches.{reply_to}
use Rattle.reg_lines.proofs.batches.write_replies.Given as goal

-- the replies so far were written
abbrev pub invariant-loop-outcome : goal.invariant-loop-outcome
invariant-loop-outcome g l =
    Appends (g.W.Write.contents l.initial.writer) (g.W.Write.contents l.writer) (concat (map reply_to (take l.outcome-index l.outcomes)))
