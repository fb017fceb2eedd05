use Rattle.std.proofs.Common.{◌≡◌, ℕ, ◌-◌, ◌≤◌, length, take}
use Rattle.reg_io.specs.Delimiter.{EndsWith}
use Rattle.reg_io.proofs.Buffers.{SoFar}
use Rattle.reg_io.proofs.fill.fill_to_delimiter.Given as goal

abbrev pub invariant-reading : goal.invariant-reading
invariant-reading g l = record {
  so_far : SoFar (g.R.Read.remaining l.initial.reader) (g.R.Read.remaining l.reader) l.initial.buf l.buf l.buffered l.filled;
  searched_held : l.searched ≤ l.filled;
  no_delimiter : (n : ℕ) → n ≤ l.searched → ¬ EndsWith (take n l.buf) l.delimiter;
  has_delimiter : (end : ℕ) → end ≤ l.buffered → EndsWith (take end l.initial.buf) l.delimiter → (l.reader ≡ l.initial.reader) × (l.buf ≡ l.initial.buf);
  is_full : l.buffered ≡ length l.initial.buf → (l.reader ≡ l.initial.reader) × (l.buf ≡ l.initial.buf);
}

abbrev pub decreases-reading : goal.decreases-reading
decreases-reading g l = length l.initial.buf - l.filled
