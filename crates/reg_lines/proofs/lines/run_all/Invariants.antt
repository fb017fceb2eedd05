use Rattle.std.proofs.Common.{◌≤◌, take}
use Rattle.reg_lines.specs.Answer.{HostLines}
use Rattle.reg_lines.specs.Script.{ClockFails, longest_of}
use Rattle.reg_lines.proofs.ScriptLemmas.{Going}
use Rattle.reg_lines.proofs.lines.run_all.Given as goal

-- the lines so far ran, and less than a whole buffer is held behind them
abbrev pub invariant-loop : goal.invariant-loop
invariant-loop g l = record {
  room : l.buffered ≤ longest_of (g.H.Host.clocked l.host);
  going : Going (HostLines g.O.Office g.H.Host l.host) (longest_of (g.H.Host.clocked l.host))
      g.R.Source.failed (ClockFails g.H.Host.clock_failed (g.H.Host.clocked l.host)) g.W.Sink.failed l.is_strict
      l.initial.office l.office (g.R.Read.remaining l.initial.reader) (g.R.Read.remaining l.reader)
      (g.W.Write.contents l.initial.writer) (g.W.Write.contents l.writer) (take l.buffered l.buffer) l.counter;
}
