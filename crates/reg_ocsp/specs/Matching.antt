-- The certificate of an issuer that a CertID identifies (RFC 6960 4.1.1).
use Rattle.std.specs.Prelude.{◌≡◌, ℕ, List, [], ◌∷◌, Some, None, ◌⊎◌}
use Rattle.sha1.specs.Sha1.{sha1}
use Rattle.sha2.specs.Sha256.{sha256}
use Rattle.reg_core.specs.Integer.{integer}
use Rattle.reg_core.specs.Issuer as core
use Rattle.reg_core.specs.Serial.{IsSerial}
use Rattle.reg_der.specs.Authority.{name_of}
use Rattle.reg_der.specs.ValueReading.{Parts}
use Rattle.reg_ocsp.specs.Request.{Id, algorithm}

-- id-sha1, 1.3.14.3.2.26 (RFC 3370 2.1)
abbrev pub sha1_identifier : List ℕ
sha1_identifier = 0x2B ∷ 0x0E ∷ 0x03 ∷ 0x02 ∷ 0x1A ∷ []

-- id-sha256, 2.16.840.1.101.3.4.2.1 (RFC 5754 2.2)
abbrev pub sha256_identifier : List ℕ
sha256_identifier = 0x60 ∷ 0x86 ∷ 0x48 ∷ 0x01 ∷ 0x65 ∷ 0x03 ∷ 0x04 ∷ 0x02 ∷ 0x01 ∷ []

-- the NULL value (X.690 8.8)
abbrev pub null : Parts
null = record { tag = 0x05; contents = [] }

-- the whole DER value of the AlgorithmIdentifier with this OID, whose parameters are left out or NULL (RFC 3370 2.1, RFC 5754 2)
abbrev pub IsHashAlgorithm : List ℕ → List ℕ → Type 0
IsHashAlgorithm identifier value =
    (value ≡ algorithm identifier None) ⊎ (value ≡ algorithm identifier (Some null))

-- the CertID has this hash algorithm, and its two hashes are those of the issuer's Name and of its key (RFC 6960 4.1.1)
pub record IsHashedBy (identifier : List ℕ) (hash : List ℕ → List ℕ) (issuer : core.Issuer)
    (id : Id) : Type 0 where
  pub algorithm : IsHashAlgorithm identifier id.algorithm
  pub name : id.name_hash ≡ hash (name_of issuer)
  pub key : id.key_hash ≡ hash issuer.key

-- the CertID identifies the issuer by SHA-1 or SHA-256
abbrev pub NamesIssuer : core.Issuer → Id → Type 0
NamesIssuer issuer id =
    IsHashedBy sha1_identifier sha1 issuer id ⊎ IsHashedBy sha256_identifier sha256 issuer id

-- the CertID identifies the issuer's certificate with this serial number, 1 to 2^159 - 1 (RFC 5280 4.1.2.2)
pub record IsMatch (issuer : core.Issuer) (id : Id) (serial : ℕ) : Type 0 where
  pub issued : NamesIssuer issuer id
  pub in_range : IsSerial serial
  pub spelled : id.serial ≡ integer serial
