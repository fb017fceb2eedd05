use Rattle.std.proofs.Common.{rules, ℕ, arith, length-drop, length-take}
use Rattle.reg_io.proofs.Buffers.{so_far_more}
use Rattle.reg_io.proofs.fill.fill_exact.Goals as goal

pub loop-filled-preserved : goal.loop-filled-preserved
loop-filled-preserved g c = record {
  so_far = so_far_more _ _ _ c.args.buf.now c.loop-filled.buf c.read_once.new.buf c.args.buffered c.loop-filled.filled _ c.in-Ok.count
      c.loop-filled.invariant.so_far c.in-Ok.ensures.bound.0
      (omega (arith, c.read_once.auto.buf, length-take {A = ℕ}, length-drop {A = ℕ}))
      (search rules) c.in-Ok.ensures.bytes.0;
  is_full = λ full. absurd (omega (arith, c.loop-filled.invariant.so_far.count));
}
