use Rattle.reg_office.proofs.BeforeKey.{not_same}
use Rattle.reg_office.proofs.before_key.has_other_algorithm.Goals as goal

pub returns-in-Some : goal.returns-in-Some
returns-in-Some c is has = not_same c.same_octets.result _ c.same_octets.ensures.1 is (c.in-Some.ensures c.args.algorithm.now c.requires has)
