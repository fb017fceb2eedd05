use Rattle.std.proofs.Common.{rules, ◌≡◌, ◌+◌, ℕ, length, arith, length-drop, length-take, refl}
use Rattle.reg_io.proofs.Buffers.{so_far_start, so_far_more}
use Rattle.reg_io.proofs.Searches.{no_delimiter_start, no_delimiter_read, no_delimiter_before, rests_full, rests_end, breaks_off}
use Rattle.reg_io.proofs.fill.fill_to_delimiter.Goals as goal

pub reading-init : goal.reading-init
reading-init g c = record {
  so_far = so_far_start _ c.args.buf.now c.args.buffered c.requires.buffered_fits;
  searched_held = omega arith;
  no_delimiter = no_delimiter_start c.args.delimiter.now c.args.buf.now c.requires.delimiter_not_empty;
  has_delimiter = λ end below ends. (refl, refl);
  is_full = λ full. (refl, refl);
}

pub returns-then-filled-buf-clause-ok : goal.returns-then-filled-buf-clause-ok
returns-then-filled-buf-clause-ok g c =
    rests_full c.args.delimiter.now _ _ c.args.buf.now c.reading.buf c.args.buffered c.reading.filled c.reading.invariant.so_far (omega arith) c.in_default.ensures

pub returns-in-Ok-eq0-clause-ok : goal.returns-in-Ok-eq0-clause-ok
returns-in-Ok-eq0-clause-ok g c =
    let whole : c.reading.filled + length c.read_once.new.buf ≡ length c.reading.buf =
    omega (arith, c.read_once.auto.buf, length-take {A = ℕ}, length-drop {A = ℕ}, c.reading.invariant.so_far.fills.within, c.reading.invariant.so_far.count) in
    rests_end c.args.delimiter.now _ _ _ c.args.buf.now c.reading.buf c.read_once.new.buf c.args.buffered c.reading.filled _ c.in-Ok-eq0.field-0
    c.reading.invariant.so_far (omega (arith, c.reading.invariant.so_far.fills.within, c.reading.invariant.so_far.count))
    whole (search rules) c.in_default.ensures c.in-Ok-eq0.field-0-test c.in-Ok-eq0.ensures.bytes

pub returns-in-Ok-eq0-clause-has_delimiter : goal.returns-in-Ok-eq0-clause-has_delimiter
returns-in-Ok-eq0-clause-has_delimiter g c end below ends =
    absurd (no_delimiter_before c.args.delimiter.now _ _ c.args.buf.now c.reading.buf c.args.buffered c.reading.filled c.reading.invariant.so_far c.requires.buffered_fits c.in_default.ensures end below ends)

pub reading-preserved : goal.reading-preserved
reading-preserved g c = record {
  so_far = so_far_more _ _ _ c.args.buf.now c.reading.buf c.read_once.new.buf c.args.buffered c.reading.filled _ c.in-Ok.count
      c.reading.invariant.so_far c.in-Ok.ensures.bound.0
      (omega (arith, c.read_once.auto.buf, length-take {A = ℕ}, length-drop {A = ℕ}))
      (search rules) c.in-Ok.ensures.bytes.0;
  searched_held = omega arith;
  no_delimiter = no_delimiter_read c.args.delimiter.now c.reading.buf c.read_once.new.buf c.reading.filled _ (search rules) c.in_default.ensures;
  has_delimiter = λ end below ends. absurd (no_delimiter_before c.args.delimiter.now _ _ c.args.buf.now c.reading.buf c.args.buffered c.reading.filled
      c.reading.invariant.so_far c.requires.buffered_fits c.in_default.ensures end below ends);
  is_full = λ full. absurd (omega (arith, c.reading.invariant.so_far.count));
}

pub returns-in-Err-clause-err : goal.returns-in-Err-clause-err
returns-in-Err-clause-err g c =
    breaks_off c.args.delimiter.now _ _ _ c.args.buf.now c.reading.buf c.read_once.new.buf c.args.buffered c.reading.filled _
    c.reading.invariant.so_far (omega (arith, c.reading.invariant.so_far.fills.within, c.reading.invariant.so_far.count))
    (search rules) c.in_default.ensures c.in-Err.ensures.bytes

pub returns-in-Err-clause-has_delimiter : goal.returns-in-Err-clause-has_delimiter
returns-in-Err-clause-has_delimiter g c end below ends =
    absurd (no_delimiter_before c.args.delimiter.now _ _ c.args.buf.now c.reading.buf c.args.buffered c.reading.filled c.reading.invariant.so_far c.requires.buffered_fits c.in_default.ensures end below ends)
