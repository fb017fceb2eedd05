-- That commands only add rows follows from each command.
use Rattle.reg_core_laws.proofs.Extended.{runs_extend}
use Rattle.reg_core_laws.proofs.laws.additions.Goals as goal

pub returns : goal.returns
returns g c = λ signer. runs_extend (g.S.SignsCrls.signed signer)
