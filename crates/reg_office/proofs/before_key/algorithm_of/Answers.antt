use Rattle.reg_office.proofs.BeforeKey.{algorithm_read}
use Rattle.reg_office.proofs.before_key.algorithm_of.Goals as goal

pub returns : goal.returns
returns c algorithm is has =
    algorithm_read c.args.crl.now algorithm is has (c.is_short.ensures.0 c.if-not-is_short.false) _ _ _ _ _ _ _ c.in_ok-list.ensures.exact
    c.in_ok-after_tbs.ensures.exact c.in_ok-algorithm.ensures.exact c.in_ok-algorithm.ensures.found.0.spelled
