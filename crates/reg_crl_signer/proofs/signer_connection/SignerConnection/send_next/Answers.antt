use Rattle.std.proofs.Common.{refl, inl}
use Rattle.reg_crl_signer.proofs.signer_connection.SignerConnection.send_next.Goals as goal

pub returns-then-not-is_idle-clause-unsent : goal.returns-then-not-is_idle-clause-unsent
returns-then-not-is_idle-clause-unsent g c = inl (refl, inl (λ idle. cc (c.is_idle.ensures.1 idle, c.if-not-is_idle.true)))
