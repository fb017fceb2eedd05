use Rattle.std.proofs.Common.{◌==◌, not}
use Rattle.reg_core_lists.proofs.Places.{at_end, at_place}
use Rattle.reg_core_lists.proofs.filter.zeros_of.Goals as goal

pub returns-in-Some-clause-zeros : goal.returns-in-Some-clause-zeros
returns-in-Some-clause-zeros c = at_place (λ byte. not (byte == 48)) c.args.text.now c.in-Some.index c.in-Some.ensures

pub returns-in-None-clause-zeros : goal.returns-in-None-clause-zeros
returns-in-None-clause-zeros c = at_end (λ byte. not (byte == 48)) c.args.text.now c.in-None.ensures
