-- The answer first names what the test of the moment told.
use Rattle.std.proofs.Common.{◌≡◌, true, nat_cmp, is_gt, rules}
use Rattle.reg_core.proofs.decide.check_live.Goals as goal

pub returns-in-Some-certificate : goal.returns-in-Some-certificate
returns-in-Some-certificate c =
    let past : is_gt (nat_cmp c.args.now c.in-Some-certificate.certificate.not_after) ≡ true = cc in
    search rules
