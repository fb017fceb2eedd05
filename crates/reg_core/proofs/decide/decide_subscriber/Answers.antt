-- Each answer first names what the test of the name told.
use Rattle.std.proofs.Common.{◌≡◌, true, rules}
use Rattle.reg_core.specs.Label.{is_name}
use Rattle.reg_core.proofs.decide.decide_subscriber.Goals as goal

pub returns-in-Some : goal.returns-in-Some
returns-in-Some c = let good : is_name c.args.name ≡ true = cc in search rules

pub returns-in_err-id : goal.returns-in_err-id
returns-in_err-id c = let good : is_name c.args.name ≡ true = cc in search rules

pub returns : goal.returns
returns c = let good : is_name c.args.name ≡ true = cc in search rules
