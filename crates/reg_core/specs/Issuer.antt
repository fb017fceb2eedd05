-- The issuer of certificates and CRLs.
use Rattle.std.specs.Prelude.{ℕ, List}

-- the stored name, which begins with the DER of the issuer's Name (RFC 5280 4.1.2.4), and its public key (the contents of subjectPublicKey, 4.1.2.7)
pub record Issuer : Type 0 where
  pub name : List ℕ
  pub key : List ℕ
