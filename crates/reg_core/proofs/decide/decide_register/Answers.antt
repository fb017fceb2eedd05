-- The answer where the certificate stands registered.
use Rattle.std.proofs.Common.{arith}
use Rattle.std.proofs.lemmas.Grind.{common_steps}
use Rattle.reg_core.proofs.Decided.{stands}
use Rattle.reg_core.proofs.decide.decide_register.Goals as goal

pub returns-then-eq : goal.returns-then-eq
returns-then-eq c =
    stands c.args.head.now c.args.wanted c.args.order c.args.by_order c.args.by_serial c.in_ok-clock.field-0 c.in_ok-clock.ensures
    (grind (arith, common_steps))
