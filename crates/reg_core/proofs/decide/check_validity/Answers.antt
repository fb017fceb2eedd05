-- Each answer first names what the tests of the validity told.
use Rattle.std.proofs.Common.{◌≡◌, ◌+◌, ◌-◌, ◌*◌, ◌≤◌, false, nat_cmp, is_lt, arith}
use Rattle.std.proofs.lemmas.Grind.{common_steps}
use Rattle.reg_core.proofs.decide.check_validity.Goals as goal

pub returns-then-lt-2 : goal.returns-then-lt-2
returns-then-lt-2 c =
    let short : (c.secs.result - c.secs-2.result) + 1 ≤ 86400 * c.min.result = c.if-seconds-min.false in
    grind (arith, common_steps)

pub returns : goal.returns
returns c =
    let short : (c.secs.result - c.secs-2.result) + 1 ≤ 86400 * c.min.result = c.if-seconds-min.false in
    let lasting : is_lt (nat_cmp c.args.wanted.now.not_after c.args.head.now.now) ≡ false = cc in
    grind (arith, common_steps)
