use Rattle.std.proofs.Common.{rules}
use Rattle.std.proofs.lemmas.List.{take_rest}
use Rattle.reg_io.proofs.Bytes.{Appends-more}
use Rattle.reg_io.proofs.put.write_whole.Goals as goal

pub loop-written-preserved : goal.loop-written-preserved
loop-written-preserved g c = (
  search rules,
  Appends-more _ _ _ c.args.bytes.now c.loop-written.written c.in-Ok.count c.loop-written.invariant.1 (simp take_rest at c.in-Ok.ensures.bytes),
)
