use Rattle.reg_crl_signer.proofs.Pairs.{rsa_found}
use Rattle.reg_crl_signer.proofs.algorithm.Algorithm.is_key.Goals as goal

pub returns-in-RsaSha256 : goal.returns-in-RsaSha256
returns-in-RsaSha256 c = rw (c.in-RsaSha256.is, c.is_some.ensures) (rsa_found c.args.key.now _ c.octets_of_pair.ensures)
