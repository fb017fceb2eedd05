-- The public key of a certificate (RFC 5280 4.1): the fields of a certificate as a tree, the encoding of a tree, and how the key is read.
use Rattle.std.specs.Prelude.{◌≡◌, ℕ, ◌≤◌, ◌==◌, ◌&&◌, nat_le, nat_lt, if◌then◌else◌, List, [], ◌∷◌, ◌++◌, length, Option, Some, None}
use Rattle.reg_core.specs.Integer.{IsBytes}
use Rattle.reg_core.specs.Sequence.{◌>>=◌}
use Rattle.reg_der.specs.Authority.{IsKey}
use Rattle.reg_der.specs.Der.{tlv}
use Rattle.reg_der.specs.WrittenValues.{bits_value}
use Rattle.reg_ocsp.specs.Request.{optional}
use Rattle.reg_der.specs.TaggedValues.{expect_at, whole_at, optional_at}

-- ---- the tree

-- A Certificate. `key` is the bits of subjectPublicKey, and `behind` the bytes after subjectPublicKeyInfo in the TBSCertificate (unique
-- identifiers, extensions). Every other field is the contents of a value: `version` (if it is written) to `subject`, the public key's `algorithm`,
-- signatureAlgorithm, and signatureValue (`signed`).
pub record CertificateTree : Type 0 where
  pub version : Option (List ℕ)
  pub serial : List ℕ
  pub signature : List ℕ
  pub issuer : List ℕ
  pub validity : List ℕ
  pub subject : List ℕ
  pub algorithm : List ℕ
  pub key : List ℕ
  pub behind : List ℕ
  pub signature_algorithm : List ℕ
  pub signed : List ℕ

-- SubjectPublicKeyInfo ::= SEQUENCE { algorithm AlgorithmIdentifier, subjectPublicKey BIT STRING }, without unused bits (RFC 5280 4.1.2.7)
abbrev pub key_info : CertificateTree → List ℕ
key_info c = tlv 0x30 (tlv 0x30 c.algorithm ++ bits_value c.key)

-- TBSCertificate ::= SEQUENCE { version [0] EXPLICIT Version DEFAULT v1, serialNumber INTEGER, signature AlgorithmIdentifier, issuer Name,
-- validity SEQUENCE, subject Name, subjectPublicKeyInfo, .. }
abbrev pub to_be_signed : CertificateTree → List ℕ
to_be_signed c =
    tlv 0x30 (optional 0xA0 c.version ++ (tlv 0x02 c.serial ++ (tlv 0x30 c.signature ++ (tlv 0x30 c.issuer
    ++ (tlv 0x30 c.validity ++ (tlv 0x30 c.subject ++ (key_info c ++ c.behind)))))))

-- Certificate ::= SEQUENCE { tbsCertificate, signatureAlgorithm AlgorithmIdentifier, signatureValue BIT STRING }
abbrev pub certificate : CertificateTree → List ℕ
certificate c = tlv 0x30 (to_be_signed c ++ (tlv 0x30 c.signature_algorithm ++ tlv 0x03 c.signed))

-- the bytes, at most 65,536, are a certificate whose subjectPublicKeyInfo has this AlgorithmIdentifier (its whole DER value) and this key, of 1 to
-- 2,048 bytes (RFC 5280 4.1.2.7)
pub record IsCertificateOf (bytes algorithm key : List ℕ) : Type 0 where
  pub each : IsBytes bytes
  pub short : length bytes ≤ 65536
  pub form : CertificateTree
  pub spelled : bytes ≡ certificate form
  pub under : algorithm ≡ tlv 0x30 form.algorithm
  pub of_key : key ≡ form.key
  pub is_key : IsKey key

-- a certificate: its DER, the whole DER value of its public key's AlgorithmIdentifier, and that key
pub record Certified : Type 0 where
  pub der : List ℕ
  pub algorithm : List ℕ
  pub key : List ℕ

-- ---- reading a certificate, as functions on lists of bytes

-- the bits in the contents of a BIT STRING, if none are unused (X.690 8.6.2)
abbrev pub no_unused : List ℕ → Option (List ℕ)
no_unused [] = None
no_unused (unused ∷ bits) = if unused == 0 then Some bits else None

-- the bits of a key, if they are 1 to 2,048 bytes
abbrev pub as_key : List ℕ → Option (List ℕ)
as_key bits = if nat_le 1 (length bits) && nat_le (length bits) 2048 then Some bits else None

-- the whole DER value of the algorithm, and the key, in the contents of a SubjectPublicKeyInfo
unfoldable pub key_info_at : List ℕ → Option (List ℕ × List ℕ)
key_info_at bytes = do
  algorithm ← expect_at 0x30 bytes
  string ← whole_at 0x03 algorithm.1
  bits ← no_unused string
  key ← as_key bits
  Some (tlv 0x30 algorithm.0, key)

-- the bytes after the subject, in the contents of a TBSCertificate
unfoldable pub after_subject_at : List ℕ → Option (List ℕ)
after_subject_at bytes = do
  version ← optional_at 0xA0 bytes
  serial ← expect_at 0x02 version.1
  signature ← expect_at 0x30 serial.1
  issuer ← expect_at 0x30 signature.1
  validity ← expect_at 0x30 issuer.1
  subject ← expect_at 0x30 validity.1
  Some subject.1

-- the contents of the TBSCertificate of a certificate, which is all of the bytes, at most 65,536
unfoldable pub tbs_contents_at : List ℕ → Option (List ℕ)
tbs_contents_at bytes =
    if nat_lt 65536 (length bytes) then None
    else (whole_at 0x30 bytes >>= λ outer. expect_at 0x30 outer >>= λ part. expect_at 0x30 part.1 >>= λ under.
    whole_at 0x03 under.1
    >>= λ signed. Some part.0)

-- the whole DER value of the public key's algorithm, and the key, of a certificate
unfoldable pub certificate_at : List ℕ → Option (List ℕ × List ℕ)
certificate_at bytes = do
  part ← tbs_contents_at bytes
  rest ← after_subject_at part
  info ← expect_at 0x30 rest
  key_info_at info.0
