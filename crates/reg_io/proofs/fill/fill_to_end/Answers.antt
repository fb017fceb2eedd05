use Rattle.std.proofs.Common.{rules, ℕ, arith, inr, length-drop, length-take}
use Rattle.reg_io.proofs.Buffers.{so_far_full, so_far_more}
use Rattle.reg_io.proofs.fill.fill_to_end.Goals as goal

pub loop-filled-preserved : goal.loop-filled-preserved
loop-filled-preserved g c =
    so_far_more _ _ _ c.args.buf.now c.loop-filled.buf c.read_once.new.buf 0 c.loop-filled.filled _ c.in-Ok.count
    c.loop-filled.invariant c.in-Ok.ensures.bound.0
    (omega (arith, c.read_once.auto.buf, length-take {A = ℕ}, length-drop {A = ℕ}))
    (search rules) c.in-Ok.ensures.bytes.0

pub returns-clause-fails : goal.returns-clause-fails
returns-clause-fails g c = inr (so_far_full _ _ c.args.buf.now c.loop-filled.buf c.loop-filled.filled c.loop-filled.invariant (omega arith))
