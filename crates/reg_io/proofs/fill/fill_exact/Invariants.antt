use Rattle.std.proofs.Common.{◌≡◌, ◌-◌, length}
use Rattle.reg_io.proofs.Buffers.{SoFar}
use Rattle.reg_io.proofs.fill.fill_exact.Given as goal

abbrev pub invariant-loop-filled : goal.invariant-loop-filled
invariant-loop-filled g l = record {
  so_far : SoFar (g.R.Read.remaining l.initial.reader) (g.R.Read.remaining l.reader) l.initial.buf l.buf l.buffered l.filled;
  is_full : l.buffered ≡ length l.initial.buf → (l.reader ≡ l.initial.reader) × (l.buf ≡ l.initial.buf);
}

abbrev pub decreases-loop-filled : goal.decreases-loop-filled
decreases-loop-filled g l = length l.initial.buf - l.filled
