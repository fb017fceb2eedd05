use Rattle.std.proofs.Common.{◌-◌, ◌≤◌, false, take}
use Rattle.reg_lines.specs.Script.{longest_of}
use Rattle.reg_lines.proofs.BatchLemmas.{GoingIn}
use Rattle.reg_lines.proofs.batches.run_batches.Given as goal

-- the lines so far ran, and less than a whole buffer is held behind them
abbrev pub invariant-loop-ran : goal.invariant-loop-ran
invariant-loop-ran g l = record {
  room : l.buffered ≤ longest_of false;
  few : l.ran ≤ 1000000;
  going : GoingIn g.O.Office g.R.Source.failed g.W.Sink.failed
      l.initial.office l.office (g.R.Read.remaining l.initial.reader) (g.R.Read.remaining l.reader)
      (g.W.Write.contents l.initial.writer) (g.W.Write.contents l.writer) (take l.buffered l.buffer) l.ran;
}

abbrev pub decreases-loop-ran : goal.decreases-loop-ran
decreases-loop-ran g l = 1000000 - l.ran
