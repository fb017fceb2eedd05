-- What the history of CRLs says follows from the records' growth over runs.
use Rattle.reg_core_laws.proofs.RevocationsOnCrls.{history_stands}
use Rattle.reg_core_laws.proofs.laws.history.Goals as goal

pub returns : goal.returns
returns g c = λ signer. history_stands (g.S.SignsCrls.signed signer)
