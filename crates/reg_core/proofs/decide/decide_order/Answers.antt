-- The answer first names what the tests of the days told.
use Rattle.std.proofs.Common.{◌<◌, arith}
use Rattle.std.proofs.lemmas.Grind.{common_steps}
use Rattle.reg_core.proofs.decide.decide_order.Goals as goal
use Rattle.reg_core.proofs.decide.decide_order.Goals.{then-days-eq0-via-then-days-eq0, then-days-eq0-via-else-days-eq0+then-days-most}

pub returns-then-days-eq0 : goal.returns-then-days-eq0
returns-then-days-eq0 c =
    elim c.then-days-eq0.branch [
      | then-days-eq0-via-then-days-eq0 w ↦ grind (arith, common_steps)
      | then-days-eq0-via-else-days-eq0+then-days-most w ↦ let more : c.greatest-most.result < c.args.days = w.if-days-most.true in grind (arith, common_steps)
    ]
