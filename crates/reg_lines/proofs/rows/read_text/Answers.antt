use Rattle.std.proofs.Common.{◌++◌, arith, inl, take, length-append}
use Rattle.std.proofs.KnownBytes.{Consumes-trans}
use Rattle.std.proofs.lemmas.Grind.{common_steps}
use Rattle.reg_lines.proofs.rows.read_text.Goals as goal

pub returns-in-Err-extend_from_slice : goal.returns-in-Err-extend_from_slice
returns-in-Err-extend_from_slice g c = (
  c.loop-piece.text.items ++ take c.in-Ok.count c.read_once.new.buf,
  Consumes-trans _ _ _ _ _ c.loop-piece.invariant.consumed c.in-Ok.ensures.bytes.0,
  grind (arith, common_steps, length-append c.loop-piece.text.items (take c.in-Ok.count c.read_once.new.buf), c.in-Ok.ensures.bound.0, c.in-Ok.ensures.bound.1, c.read_once.auto.buf),
)

pub returns : goal.returns
returns g c = (
  (c.loop-piece.text.items, c.loop-piece.invariant.consumed, c.loop-piece.invariant.small),
  inl (omega (arith, c.len.ensures, c.loop-piece-test.false, c.loop-piece.text.ok.0, c.loop-piece.invariant.small)),
)
