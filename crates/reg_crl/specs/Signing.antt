-- Signers, and the CRLs that they sign.
use Rattle.std.specs.Prelude.{◌≡◌, ◌⊎◌, ℕ, ◌<◌, ◌≤◌, List, [], ◌∷◌, ◌++◌, length}
use Rattle.std.specs.List.{AllByRecursion}
use Rattle.sha1.specs.Sha1.{sha1}
use Rattle.reg_core.specs.Crls.{CertList}
use Rattle.reg_der.specs.Der.{IsTlv, tlv}
use Rattle.reg_crl.specs.Crl.{tbs_of, certificate_list}

-- a signer: the AlgorithmIdentifier of its signatures, and its public key, empty without a key (RFC 5280 4.1.1.2, 4.1.2.7)
pub record Identity : Type 0 where
  pub algorithm : List ℕ
  pub public_key : List ℕ

-- one SEQUENCE, as an AlgorithmIdentifier is (RFC 5280 4.1.1.2), of at most 1,024 bytes in all; its contents may be any
pub record IsAlgorithm (algorithm : List ℕ) : Type 0 where
  pub contents : List ℕ
  pub sequence : IsTlv algorithm 48 contents
  pub short : length algorithm ≤ 1024

-- the AlgorithmIdentifier of SHA-1, 1.3.14.3.2.26, with parameters NULL
abbrev pub sha1_algorithm : List ℕ
sha1_algorithm = tlv 48 (tlv 6 (43 ∷ 14 ∷ 3 ∷ 2 ∷ 26 ∷ []) ++ tlv 5 [])

-- The bytes are this CRL, signed by the signer: the CertificateList of its TBSCertList, the signer's algorithm and a
-- signature of the TBSCertList (RFC 5280 5.1.1).
abbrev pub signed_by : (Identity → List ℕ → List ℕ → Type 0) → Identity → CertList → List ℕ → Type 0
signed_by signs identity crl bytes =
    (signature : List ℕ)
    × signs identity (tbs_of identity.algorithm crl) signature
    × (bytes ≡ certificate_list (tbs_of identity.algorithm crl) identity.algorithm signature)

-- the CertificateList of a signer without a key: it has a placeholder digest, the SHA-1 of the TBSCertList, in place of a signature, and the
-- AlgorithmIdentifier of SHA-1
abbrev pub with_placeholder_digest : List ℕ → List ℕ
with_placeholder_digest tbs = certificate_list tbs sha1_algorithm (sha1 tbs)

-- the bytes are this CRL with the placeholder digest
abbrev pub has_placeholder_digest : CertList → List ℕ → Type 0
has_placeholder_digest crl bytes = bytes ≡ with_placeholder_digest (tbs_of sha1_algorithm crl)

-- The bytes are this CRL in a register that switched from the placeholder digest to a key at CRL number `since`: CRLs below it have the digest,
-- the others are signed by the signer (RFC 5280 5.2.3).
abbrev pub signed_since : ℕ → (Identity → List ℕ → List ℕ → Type 0) → Identity → CertList → List ℕ → Type 0
signed_since since signs identity crl bytes =
    ((crl.number < since) × has_placeholder_digest crl bytes)
    ⊎ ((since ≤ crl.number) × signed_by signs identity crl bytes)

-- ---- laws

-- a SEQUENCE with at most 1,000 octets of contents satisfies `IsAlgorithm` (RFC 5280 4.1.1.2)
abbrev pub SequencesAreAlgorithms : Type 0
SequencesAreAlgorithms =
    (contents : List ℕ) → AllByRecursion (λ octet. octet < 256) contents → length contents ≤ 1000
    → IsAlgorithm (tlv 48 contents)
