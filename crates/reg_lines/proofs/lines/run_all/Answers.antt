use Rattle.std.proofs.Common.{◌≡◌, ◌+◌, ◌∙◌, length, arith}
use Rattle.reg_lines.specs.Answer.{HostLines}
use Rattle.reg_lines.specs.Script.{ClockFails, longest_of}
use Rattle.reg_lines.proofs.ScriptLemmas.{going_start, going_more, longest_some, run_checked, run_ended, run_failed, run_over}
use Rattle.reg_lines.proofs.lines.run_all.Goals as goal

pub loop-init : goal.loop-init
loop-init g c = record {
  room = omega arith;
  going = going_start (HostLines g.O.Office g.H.Host c.args.host.now) (longest_of (g.H.Host.clocked c.args.host.now)) g.R.Source.failed (ClockFails g.H.Host.clock_failed (g.H.Host.clocked c.args.host.now)) g.W.Sink.failed c.args.is_strict _ _ _;
}

pub run_next-requires-clause-buffered_fits : goal.run_next-requires-clause-buffered_fits
run_next-requires-clause-buffered_fits g c = omega (arith, c.loop.invariant.room, c.loop.auto.buffer, c.requires)

pub returns-in-Ok-End : goal.returns-in-Ok-End
returns-in-Ok-End g c =
    run_ended (HostLines g.O.Office g.H.Host c.args.host.now) (longest_of (g.H.Host.clocked c.args.host.now)) g.R.Source.failed (ClockFails g.H.Host.clock_failed (g.H.Host.clocked c.args.host.now)) g.W.Sink.failed c.args.is_strict
    _ _ _ _ _ _ _ _ _ _ c.run_next.new.buffer c.loop.counter c.in-Ok-End.ended c.loop.invariant.going c.loop-test.true
    (rw c.in-Ok-End.field-0-is at c.in-Ok-End.ensures)

pub returns-in-Err : goal.returns-in-Err
returns-in-Err g c =
    run_failed (HostLines g.O.Office g.H.Host c.args.host.now) (longest_of (g.H.Host.clocked c.args.host.now)) g.R.Source.failed (ClockFails g.H.Host.clock_failed (g.H.Host.clocked c.args.host.now)) g.W.Sink.failed c.args.is_strict
    _ _ _ _ _ _ _ _ _ _ c.run_next.new.buffer c.loop.counter c.in-Err.fault c.loop.invariant.going c.loop-test.true c.in-Err.ensures

pub loop-preserved : goal.loop-preserved
loop-preserved g c =
    let ends = rw c.in-Ok-Held.field-0-is at c.in-Ok-Held.ensures in
    let size : length c.run_next.new.buffer ≡ longest_of (g.H.Host.clocked c.args.host.now) + 1 =
    c.run_next.auto.buffer ∙ c.loop.auto.buffer ∙ c.requires in
    record {
      room = omega (arith, ends.0, size);
      going = going_more (HostLines g.O.Office g.H.Host c.args.host.now) (longest_of (g.H.Host.clocked c.args.host.now)) g.R.Source.failed (ClockFails g.H.Host.clock_failed (g.H.Host.clocked c.args.host.now)) g.W.Sink.failed c.args.is_strict
          _ _ _ _ _ _ _ _ _ _ c.loop.counter c.loop.invariant.going c.loop-test.true _ ends.1 ends.2;
    }

pub returns-then-buffered-gt0 : goal.returns-then-buffered-gt0
returns-then-buffered-gt0 g c =
    run_over (HostLines g.O.Office g.H.Host c.args.host.now) (longest_of (g.H.Host.clocked c.args.host.now)) g.R.Source.failed (ClockFails g.H.Host.clock_failed (g.H.Host.clocked c.args.host.now)) g.W.Sink.failed c.args.is_strict
    _ _ _ _ _ _ c.loop.buffer c.loop.buffered c.loop.counter c.loop.invariant.going (omega (arith, c.loop.auto.counter-end, c.loop-test.false))
    c.if-buffered-gt0.true c.loop.invariant.room (c.loop.auto.buffer ∙ c.requires)

pub returns : goal.returns
returns g c =
    run_checked (HostLines g.O.Office g.H.Host c.args.host.now) (longest_of (g.H.Host.clocked c.args.host.now)) g.R.Source.failed (ClockFails g.H.Host.clock_failed (g.H.Host.clocked c.args.host.now)) g.W.Sink.failed c.args.is_strict
    _ _ _ _ _ _ _ c.loop.buffer c.loop.buffered c.loop.counter _ c.loop.invariant.going (omega (arith, c.loop.auto.counter-end, c.loop-test.false))
    (omega (arith, c.if-buffered-gt0.false)) (longest_some (g.H.Host.clocked c.args.host.now)) c.end_of_input.ensures
