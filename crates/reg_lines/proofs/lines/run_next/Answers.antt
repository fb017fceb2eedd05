use Rattle.std.proofs.Common.{◌∙◌, refl}
use Rattle.std.proofs.KnownBytes.{Appends-nil}
use Rattle.reg_lines.specs.Answer.{HostLines}
use Rattle.reg_lines.specs.Script.{ClockFails, longest_of}
use Rattle.reg_lines.proofs.StepLemmas.{ended_cut, ended_last, ended_none, failed_at, failed_last, ran_on, ran_refused, reads_full, reads_short}
use Rattle.reg_lines.proofs.lines.run_next.Goals as goal

pub returns-in-Ok-On : goal.returns-in-Ok-On
returns-in-Ok-On g c =
    ran_on (HostLines g.O.Office g.H.Host c.args.host.now) (longest_of (g.H.Host.clocked c.args.host.now)) g.R.Source.failed (ClockFails g.H.Host.clock_failed (g.H.Host.clocked c.args.host.now)) g.W.Sink.failed c.args.is_strict
    _ _ _ _ _ _ c.args.buffer.now c.fill_to_delimiter.new.buf c.args.buffered (c.fill_to_delimiter.auto.buf ∙ c.requires.room)
    c.in-Ok-Delimiter.end c.in-Ok-Delimiter.buffered (rw c.in-Ok-Delimiter.field-0-is at c.in-Ok-Delimiter.ensures.ok) c.without_end-line.result.now c.rotate_left.new.self c.without_end-line.ensures
    c.rotate_left.ensures.after (rw c.in-Ok-On.field-0-is at c.in-Ok-On.ensures)

pub returns-in-Ok-Refused : goal.returns-in-Ok-Refused
returns-in-Ok-Refused g c =
    ran_refused (HostLines g.O.Office g.H.Host c.args.host.now) (longest_of (g.H.Host.clocked c.args.host.now)) g.R.Source.failed (ClockFails g.H.Host.clock_failed (g.H.Host.clocked c.args.host.now)) g.W.Sink.failed c.args.is_strict
    _ _ _ _ _ _ c.args.buffer.now c.fill_to_delimiter.new.buf c.args.buffered (c.fill_to_delimiter.auto.buf ∙ c.requires.room)
    c.in-Ok-Delimiter.end c.in-Ok-Delimiter.buffered (rw c.in-Ok-Delimiter.field-0-is at c.in-Ok-Delimiter.ensures.ok) c.without_end-line.result.now c.fill_to_delimiter.new.buf c.in-Ok-Refused.refused c.without_end-line.ensures
    (rw c.in-Ok-Refused.field-0-is at c.in-Ok-Refused.ensures)

pub returns-in-Err-answer_line : goal.returns-in-Err-answer_line
returns-in-Err-answer_line g c =
    failed_at (HostLines g.O.Office g.H.Host c.args.host.now) (longest_of (g.H.Host.clocked c.args.host.now)) g.R.Source.failed (ClockFails g.H.Host.clock_failed (g.H.Host.clocked c.args.host.now)) g.W.Sink.failed c.args.is_strict
    _ _ _ _ _ _ c.args.buffer.now c.fill_to_delimiter.new.buf c.args.buffered (c.fill_to_delimiter.auto.buf ∙ c.requires.room)
    c.in-Ok-Delimiter.end c.in-Ok-Delimiter.buffered (rw c.in-Ok-Delimiter.field-0-is at c.in-Ok-Delimiter.ensures.ok) c.without_end-line.result.now c.fill_to_delimiter.new.buf c.in-Err-answer_line.fault c.without_end-line.ensures c.in-Err-answer_line.ensures

pub returns-in-Ok-End-eq0 : goal.returns-in-Ok-End-eq0
returns-in-Ok-End-eq0 g c =
    ended_none (HostLines g.O.Office g.H.Host c.args.host.now) (longest_of (g.H.Host.clocked c.args.host.now)) g.R.Source.failed (ClockFails g.H.Host.clock_failed (g.H.Host.clocked c.args.host.now)) g.W.Sink.failed c.args.is_strict
    _ _ _ _ _ _ c.args.buffer.now c.fill_to_delimiter.new.buf c.args.buffered (c.fill_to_delimiter.auto.buf ∙ c.requires.room)
    c.in-Ok-End-eq0.field-0-0 (rw c.in-Ok-End-eq0.field-0-is at c.in-Ok-End-eq0.ensures.ok) c.fill_to_delimiter.new.buf c.in-Ok-End-eq0.field-0-0-test
    refl (Appends-nil _)

pub returns-then-is_strict : goal.returns-then-is_strict
returns-then-is_strict g c =
    ended_cut (HostLines g.O.Office g.H.Host c.args.host.now) (longest_of (g.H.Host.clocked c.args.host.now)) g.R.Source.failed (ClockFails g.H.Host.clock_failed (g.H.Host.clocked c.args.host.now)) g.W.Sink.failed c.args.is_strict
    _ _ _ _ _ _ c.args.buffer.now c.fill_to_delimiter.new.buf c.args.buffered (c.fill_to_delimiter.auto.buf ∙ c.requires.room)
    c.in-Ok-End.buffered (rw c.in-Ok-End.field-0-is at c.in-Ok-End.ensures.ok) c.fill_to_delimiter.new.buf
    c.in-Ok-End.buffered-test.1 c.if-is_strict.true refl (Appends-nil _)

pub returns-in-Ok : goal.returns-in-Ok
returns-in-Ok g c =
    ended_last (HostLines g.O.Office g.H.Host c.args.host.now) (longest_of (g.H.Host.clocked c.args.host.now)) g.R.Source.failed (ClockFails g.H.Host.clock_failed (g.H.Host.clocked c.args.host.now)) g.W.Sink.failed c.args.is_strict
    _ _ _ _ _ _ c.args.buffer.now c.fill_to_delimiter.new.buf c.args.buffered (c.fill_to_delimiter.auto.buf ∙ c.requires.room)
    c.in-Ok-End.buffered (rw c.in-Ok-End.field-0-is at c.in-Ok-End.ensures.ok) c.fill_to_delimiter.new.buf
    c.in-Ok.field-0 c.in-Ok-End.buffered-test.1 c.if-is_strict.false c.in-Ok.ensures

pub returns-in-Err-answer_line-2 : goal.returns-in-Err-answer_line-2
returns-in-Err-answer_line-2 g c =
    failed_last (HostLines g.O.Office g.H.Host c.args.host.now) (longest_of (g.H.Host.clocked c.args.host.now)) g.R.Source.failed (ClockFails g.H.Host.clock_failed (g.H.Host.clocked c.args.host.now)) g.W.Sink.failed c.args.is_strict
    _ _ _ _ _ _ c.args.buffer.now c.fill_to_delimiter.new.buf c.args.buffered (c.fill_to_delimiter.auto.buf ∙ c.requires.room)
    c.in-Ok-End.buffered (rw c.in-Ok-End.field-0-is at c.in-Ok-End.ensures.ok) c.fill_to_delimiter.new.buf
    c.in-Err-answer_line-2.fault c.in-Ok-End.buffered-test.1 c.in-Err-answer_line-2.ensures

pub returns-in-Ok-Full : goal.returns-in-Ok-Full
returns-in-Ok-Full g c =
    reads_full (HostLines g.O.Office g.H.Host c.args.host.now) (longest_of (g.H.Host.clocked c.args.host.now)) g.R.Source.failed (ClockFails g.H.Host.clock_failed (g.H.Host.clocked c.args.host.now)) g.W.Sink.failed c.args.is_strict
    _ _ _ _ _ _ c.args.buffer.now c.fill_to_delimiter.new.buf c.args.buffered (c.fill_to_delimiter.auto.buf ∙ c.requires.room)
    c.fill_to_delimiter.new.buf (rw c.in-Ok-Full.field-0-is at c.in-Ok-Full.ensures.ok) refl (Appends-nil _)

pub returns-in-Err : goal.returns-in-Err
returns-in-Err g c =
    reads_short (HostLines g.O.Office g.H.Host c.args.host.now) (longest_of (g.H.Host.clocked c.args.host.now)) g.R.Source.failed (ClockFails g.H.Host.clock_failed (g.H.Host.clocked c.args.host.now)) g.W.Sink.failed c.args.is_strict
    _ _ _ _ _ _ c.args.buffer.now c.fill_to_delimiter.new.buf c.args.buffered (c.fill_to_delimiter.auto.buf ∙ c.requires.room)
    c.fill_to_delimiter.new.buf c.in-Err.ensures.err c.in-Err.ensures.fails refl (Appends-nil _)
