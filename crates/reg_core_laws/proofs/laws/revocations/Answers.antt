-- What a revocation comes by follows from each command.
use Rattle.reg_core_laws.proofs.Revoked.{revocations_move_exactly}
use Rattle.reg_core_laws.proofs.laws.revocations.Goals as goal

pub returns : goal.returns
returns g c = λ signer. revocations_move_exactly (g.S.SignsCrls.signed signer)
