use Rattle.std.proofs.Common.{◌≡◌, ◌+◌, ◌≤◌, ◌∙◌, false, length, take, refl, arith, length-take}
use Rattle.reg_lines.specs.Script.{longest_of}
use Rattle.reg_lines.proofs.BatchLemmas.{batch_stops, batch_turned, checked_in, next_ends, next_fails, next_goes, over_in, starts_in}
use Rattle.reg_lines.proofs.batches.run_batches.Goals as goal

pub loop-ran-init : goal.loop-ran-init
loop-ran-init g c = record {
  room = omega arith;
  few = omega arith;
  going = starts_in g.O.Office g.R.Source.failed g.W.Sink.failed c.args.office.now _ _;
}

pub slice_bounds-run_batch-end : goal.slice_bounds-run_batch-end
slice_bounds-run_batch-end g c = omega (arith, c.loop-ran.invariant.room, c.loop-ran.auto.buffer, c.requires)

pub slice_bounds-run_batch-end-in-loop-ran : goal.slice_bounds-run_batch-end-in-loop-ran
slice_bounds-run_batch-end-in-loop-ran g c =
    omega (arith, c.loop-ran.invariant.room, c.loop-ran.auto.buffer, c.requires, length-take c.loop-ran.buffered c.loop-ran.buffer)

pub rotate_left-requires : goal.rotate_left-requires
rotate_left-requires g c =
    omega (arith, c.in-Ok.ensures.within, c.loop-ran.invariant.room, c.loop-ran.auto.buffer, c.requires, length-take c.loop-ran.buffered c.loop-ran.buffer)

pub overflow_sub-buffered : goal.overflow_sub-buffered
overflow_sub-buffered g c =
    omega (arith, c.in-Ok.ensures.within, c.loop-ran.invariant.room, c.loop-ran.auto.buffer, c.requires, length-take c.loop-ran.buffered c.loop-ran.buffer)

pub run_next-requires-clause-buffered_fits : goal.run_next-requires-clause-buffered_fits
run_next-requires-clause-buffered_fits g c =
    omega (arith, c.loop-ran.invariant.room, c.loop-ran.auto.buffer, c.requires, c.rotate_left.auto.self)

pub returns-in-Err : goal.returns-in-Err
returns-in-Err g c =
    let size : length c.loop-ran.buffer ≡ longest_of false + 1 = c.loop-ran.auto.buffer ∙ c.requires in
    batch_stops g.O.Office g.R.Source.failed g.W.Sink.failed _ _ _ _ _ (g.R.Read.remaining c.loop-ran.reader) _ _ _ (take c.loop-ran.buffered c.loop-ran.buffer) c.loop-ran.ran
    c.loop-ran.invariant.going _ c.in-Err.fault (omega (arith, c.loop-ran-test.true))
    (omega (arith, size, c.loop-ran.invariant.room, length-take c.loop-ran.buffered c.loop-ran.buffer)) c.in-Err.ensures.leads

pub loop-ran-preserved : goal.loop-ran-preserved
loop-ran-preserved g c =
    let ends = rw c.in-Ok-Held.field-0-is at c.in-Ok-Held.ensures in
    let size : length c.loop-ran.buffer ≡ longest_of false + 1 = c.loop-ran.auto.buffer ∙ c.requires in
    let few : c.loop-ran.ran + c.in-Ok.batch.count ≤ 999999 = omega (arith, c.in-Ok.ensures.few, c.loop-ran-test.true) in
    record {
      room = omega (arith, ends.0, size, c.run_next.auto.buffer, c.rotate_left.auto.self);
      few = omega (arith, few);
      going = next_goes g.O.Office g.R.Source.failed g.W.Sink.failed _ _ _ _ _ _ _ _ _ _ (c.loop-ran.ran + c.in-Ok.batch.count)
          (batch_turned g.O.Office g.R.Source.failed g.W.Sink.failed _ _ _ _ _ (g.R.Read.remaining c.loop-ran.reader) _ _ _ (take c.loop-ran.buffered c.loop-ran.buffer) c.loop-ran.ran
          c.loop-ran.invariant.going 0 c.in-Ok.batch c.loop-ran.buffer c.rotate_left.new.self c.loop-ran.buffered refl
          (omega (arith, size, c.loop-ran.invariant.room)) size c.in-Ok.ensures.within c.rotate_left.ensures.after c.in-Ok.ensures.leads)
          (λ now. ⊥) _ _ (omega (arith, few)) ends;
    }

pub returns-in-Ok-End : goal.returns-in-Ok-End
returns-in-Ok-End g c =
    let ends = rw c.in-Ok-End.field-0-is at c.in-Ok-End.ensures in
    let size : length c.loop-ran.buffer ≡ longest_of false + 1 = c.loop-ran.auto.buffer ∙ c.requires in
    let few : c.loop-ran.ran + c.in-Ok.batch.count ≤ 999999 = omega (arith, c.in-Ok.ensures.few, c.loop-ran-test.true) in
    next_ends g.O.Office g.R.Source.failed g.W.Sink.failed _ _ _ _ _ _ _ _ _ _ (c.loop-ran.ran + c.in-Ok.batch.count)
    (batch_turned g.O.Office g.R.Source.failed g.W.Sink.failed _ _ _ _ _ (g.R.Read.remaining c.loop-ran.reader) _ _ _ (take c.loop-ran.buffered c.loop-ran.buffer) c.loop-ran.ran
    c.loop-ran.invariant.going 0 c.in-Ok.batch c.loop-ran.buffer c.rotate_left.new.self c.loop-ran.buffered refl
    (omega (arith, size, c.loop-ran.invariant.room)) size c.in-Ok.ensures.within c.rotate_left.ensures.after c.in-Ok.ensures.leads)
    (λ now. ⊥) c.run_next.new.buffer c.in-Ok-End.ended (omega (arith, few)) ends

pub returns-in-Err-run_next : goal.returns-in-Err-run_next
returns-in-Err-run_next g c =
    let size : length c.loop-ran.buffer ≡ longest_of false + 1 = c.loop-ran.auto.buffer ∙ c.requires in
    let few : c.loop-ran.ran + c.in-Ok.batch.count ≤ 999999 = omega (arith, c.in-Ok.ensures.few, c.loop-ran-test.true) in
    next_fails g.O.Office g.R.Source.failed g.W.Sink.failed _ _ _ _ _ _ _ _ _ _ (c.loop-ran.ran + c.in-Ok.batch.count)
    (batch_turned g.O.Office g.R.Source.failed g.W.Sink.failed _ _ _ _ _ (g.R.Read.remaining c.loop-ran.reader) _ _ _ (take c.loop-ran.buffered c.loop-ran.buffer) c.loop-ran.ran
    c.loop-ran.invariant.going 0 c.in-Ok.batch c.loop-ran.buffer c.rotate_left.new.self c.loop-ran.buffered refl
    (omega (arith, size, c.loop-ran.invariant.room)) size c.in-Ok.ensures.within c.rotate_left.ensures.after c.in-Ok.ensures.leads)
    (λ now. ⊥) c.run_next.new.buffer c.in-Err-run_next.fault (omega (arith, few)) c.in-Err-run_next.ensures

pub returns-then-buffered-gt0 : goal.returns-then-buffered-gt0
returns-then-buffered-gt0 g c =
    over_in g.O.Office g.R.Source.failed g.W.Sink.failed _ _ _ _ _ _ c.loop-ran.buffer c.loop-ran.buffered c.loop-ran.ran c.loop-ran.invariant.going
    (omega (arith, c.loop-ran.invariant.few, c.loop-ran-test.false)) c.if-buffered-gt0.true c.loop-ran.invariant.room (c.loop-ran.auto.buffer ∙ c.requires)

pub returns : goal.returns
returns g c =
    checked_in g.O.Office g.R.Source.failed g.W.Sink.failed _ _ _ _ _ _ _ c.loop-ran.buffer c.loop-ran.buffered c.loop-ran.ran _ c.loop-ran.invariant.going
    (omega (arith, c.loop-ran.invariant.few, c.loop-ran-test.false)) (omega (arith, c.if-buffered-gt0.false)) c.end_of_input.ensures
