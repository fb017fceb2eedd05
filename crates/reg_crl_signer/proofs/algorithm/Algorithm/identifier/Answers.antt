use Rattle.reg_der.specs.Der.{tlv, length_octets}
use Rattle.reg_crl_signer.specs.declared.algorithm.Algorithm.TheVariants.{EcdsaSha256, EcdsaSha384, RsaSha256, Ed25519}
use Rattle.reg_crl_signer.proofs.Identifiers.{identifier_is}
use Rattle.reg_crl_signer.proofs.algorithm.Algorithm.identifier.Goals as goal

pub returns-in-EcdsaSha256-clause-within : goal.returns-in-EcdsaSha256-clause-within
unfolding tlv length_octets
returns-in-EcdsaSha256-clause-within c = identifier_is EcdsaSha256

pub returns-in-EcdsaSha384-clause-within : goal.returns-in-EcdsaSha384-clause-within
unfolding tlv length_octets
returns-in-EcdsaSha384-clause-within c = identifier_is EcdsaSha384

pub returns-in-RsaSha256-clause-within : goal.returns-in-RsaSha256-clause-within
unfolding tlv length_octets
returns-in-RsaSha256-clause-within c = identifier_is RsaSha256

pub returns-in-Ed25519-clause-within : goal.returns-in-Ed25519-clause-within
unfolding tlv length_octets
returns-in-Ed25519-clause-within c = identifier_is Ed25519
