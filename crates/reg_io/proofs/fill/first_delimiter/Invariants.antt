use Rattle.std.proofs.Common.{ℕ, ◌≤◌, take}
use Rattle.reg_io.specs.Delimiter.{EndsWith}
use Rattle.reg_io.proofs.fill.first_delimiter.Given as goal

-- no mark ends up to here
abbrev pub invariant-loop-end : goal.invariant-loop-end
invariant-loop-end l = (n : ℕ) → n ≤ l.end → ¬ EndsWith (take n l.buf) l.delimiter
