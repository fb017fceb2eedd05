-- Signature algorithms: their names and their AlgorithmIdentifiers.
use Rattle.std.specs.Prelude.{ℕ, List, [], ◌∷◌, ◌++◌, codes, bytes_eq, Option, Some, None, if◌then◌else◌}
use Rattle.reg_der.specs.Der.{tlv}
use Rattle.reg_crl_signer.specs.declared.algorithm.Algorithm.{Algorithm}
use Rattle.reg_crl_signer.specs.declared.algorithm.Algorithm.TheVariants.{EcdsaSha256, EcdsaSha384, RsaSha256, Ed25519}

-- the name of an algorithm
abbrev pub algorithm_name : Algorithm → List ℕ
algorithm_name EcdsaSha256 = codes "ecdsa-sha256"
algorithm_name EcdsaSha384 = codes "ecdsa-sha384"
algorithm_name RsaSha256 = codes "rsa-sha256"
algorithm_name Ed25519 = codes "ed25519"

-- the algorithm with this name; `None` if none has it
abbrev pub algorithm_named : List ℕ → Option Algorithm
algorithm_named name =
    if bytes_eq name (algorithm_name EcdsaSha256) then Some EcdsaSha256
    else if bytes_eq name (algorithm_name EcdsaSha384) then Some EcdsaSha384
    else if bytes_eq name (algorithm_name RsaSha256) then Some RsaSha256
    else if bytes_eq name (algorithm_name Ed25519) then Some Ed25519
    else None

-- id-Ed25519, 1.3.101.112 (RFC 8410 3)
abbrev pub id_ed25519 : List ℕ
id_ed25519 = tlv 6 (43 ∷ 101 ∷ 112 ∷ [])

-- a NULL
abbrev pub null_value : List ℕ
null_value = tlv 5 []

-- The AlgorithmIdentifier of an algorithm (RFC 5280 4.1.1.2); only RSA has parameters: ecdsa-with-SHA256, 1.2.840.10045.4.3.2, and
-- ecdsa-with-SHA384, 1.2.840.10045.4.3.3 (RFC 5758 3.2); sha256WithRSAEncryption, 1.2.840.113549.1.1.11, and NULL (RFC 4055 5)
abbrev pub identifier_of : Algorithm → List ℕ
identifier_of EcdsaSha256 = tlv 48 (tlv 6 (42 ∷ 134 ∷ 72 ∷ 206 ∷ 61 ∷ 4 ∷ 3 ∷ 2 ∷ []))
identifier_of EcdsaSha384 = tlv 48 (tlv 6 (42 ∷ 134 ∷ 72 ∷ 206 ∷ 61 ∷ 4 ∷ 3 ∷ 3 ∷ []))
identifier_of RsaSha256 = tlv 48 (tlv 6 (42 ∷ 134 ∷ 72 ∷ 134 ∷ 247 ∷ 13 ∷ 1 ∷ 1 ∷ 11 ∷ []) ++ null_value)
identifier_of Ed25519 = tlv 48 id_ed25519

-- id-ecPublicKey, 1.2.840.10045.2.1 (RFC 5480 2.1.1)
abbrev pub id_ec_public_key : List ℕ
id_ec_public_key = tlv 6 (42 ∷ 134 ∷ 72 ∷ 206 ∷ 61 ∷ 2 ∷ 1 ∷ [])

-- The AlgorithmIdentifier of a public key of an algorithm, in a subjectPublicKeyInfo (RFC 5280 4.1.2.7): id-ecPublicKey with the curve P-256,
-- 1.2.840.10045.3.1.7, or P-384, 1.3.132.0.34 (RFC 5480 2.1.1.1); rsaEncryption, 1.2.840.113549.1.1.1, and NULL (RFC 3279 2.3.1)
abbrev pub key_identifier_of : Algorithm → List ℕ
key_identifier_of EcdsaSha256 = tlv 48 (id_ec_public_key ++ tlv 6 (42 ∷ 134 ∷ 72 ∷ 206 ∷ 61 ∷ 3 ∷ 1 ∷ 7 ∷ []))
key_identifier_of EcdsaSha384 = tlv 48 (id_ec_public_key ++ tlv 6 (43 ∷ 129 ∷ 4 ∷ 0 ∷ 34 ∷ []))
key_identifier_of RsaSha256 = tlv 48 (tlv 6 (42 ∷ 134 ∷ 72 ∷ 134 ∷ 247 ∷ 13 ∷ 1 ∷ 1 ∷ 1 ∷ []) ++ null_value)
key_identifier_of Ed25519 = tlv 48 id_ed25519
