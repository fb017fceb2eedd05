-- The signers of an office.
use Rattle.std.specs.Prelude.{ℕ, List, Option, None, unwrap_or}
use Rattle.reg_core.specs.Records.{Records}
use Rattle.reg_crl.specs.Signing.{Identity}

-- the relation of signatures: `signs identity message signature` says that the signer with this identity gave the signature for the message
abbrev pub Signs : Type 1
Signs = Identity → List ℕ → List ℕ → Type 0

-- The responder to OCSP requests for an issuer (RFC 6960 2.2, 4.2.2.2): its algorithm and key; the key that names it in the ResponderID, or
-- none if that is the issuer's; and the certificate that each response includes, if any.
pub record Responder : Type 0 where
  pub identity : Identity
  pub own_key : Option (List ℕ)
  pub certificate : Option (List ℕ)

-- the key by which a responder is named (ResponderID, RFC 6960 4.2.1): its own, or the issuer's
abbrev pub responder_key : Responder → Records → List ℕ
responder_key responder records = unwrap_or responder.own_key records.issuer.key

-- the signers of an office: of its CRLs, and of its OCSP answers
pub record OfficeSigners : Type 0 where
  pub crls : Identity
  pub answers : Responder

-- one identity signs both, and responses include no certificate
abbrev pub signs_both : Identity → OfficeSigners
signs_both identity = record {
  crls = identity;
  answers = record { identity = identity; own_key = None; certificate = None };
}
