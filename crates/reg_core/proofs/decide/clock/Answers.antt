-- Each answer first names what the tests of the moments told.
use Rattle.std.proofs.Common.{◌≡◌, false, nat_cmp, is_ge, is_lt, rules}
use Rattle.reg_core.proofs.decide.clock.Goals as goal

pub returns-then-lt : goal.returns-then-lt
returns-then-lt c = let early : is_ge (nat_cmp c.args.now 253401436800) ≡ false = cc in search rules

pub returns : goal.returns
returns c =
    let early : is_ge (nat_cmp c.args.now 253401436800) ≡ false = cc in
    let onward : is_lt (nat_cmp c.args.now c.args.last) ≡ false = cc in
    search rules
