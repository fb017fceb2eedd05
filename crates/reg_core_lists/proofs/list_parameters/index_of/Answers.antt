use Rattle.std.proofs.Common.{◌==◌}
use Rattle.reg_core_lists.proofs.Places.{at_end, at_place}
use Rattle.reg_core_lists.proofs.list_parameters.index_of.Goals as goal

pub returns-in-Some-clause-index : goal.returns-in-Some-clause-index
returns-in-Some-clause-index c = at_place (λ byte. byte == c.args.wanted) c.args.text.now c.in-Some.index c.in-Some.ensures

pub returns-in-None-clause-index : goal.returns-in-None-clause-index
returns-in-None-clause-index c = at_end (λ byte. byte == c.args.wanted) c.args.text.now c.in-None.ensures
