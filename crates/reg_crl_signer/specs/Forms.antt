-- The forms of public keys and of signatures, without the mathematics of keys.
use Rattle.std.specs.Prelude.{◌≡◌, ◌⊎◌, ℕ, ◌+◌, ◌*◌, ◌^◌, ◌<◌, ◌≤◌, List, ◌++◌, length, get_or}
use Rattle.reg_core.specs.Integer.{IsInteger}
use Rattle.reg_crl.specs.Signing.{Identity}
use Rattle.reg_der.specs.Der.{IsTlv}
use Rattle.reg_crl_signer.specs.Algorithms.{identifier_of}
use Rattle.reg_crl_signer.specs.declared.algorithm.Algorithm.{Algorithm}
use Rattle.reg_crl_signer.specs.declared.algorithm.Algorithm.TheVariants.{EcdsaSha256, EcdsaSha384, RsaSha256, Ed25519}

-- the INTEGER of a number above 0, in the fewest octets (X.690 8.3)
pub record IsPositive (bytes : List ℕ) (number : ℕ) : Type 0 where
  pub octets : List ℕ
  pub integer : IsTlv bytes 2 octets
  pub spells : IsInteger octets number
  pub positive : 0 < number

-- a SEQUENCE of two INTEGERs, both above 0, and of nothing else
pub record IsPair (bytes : List ℕ) (first second : ℕ) : Type 0 where
  pub first_bytes : List ℕ
  pub second_bytes : List ℕ
  pub sequence : IsTlv bytes 48 (first_bytes ++ second_bytes)
  pub first_is : IsPositive first_bytes first
  pub second_is : IsPositive second_bytes second

-- the number is above 0, and `size` is the fewest octets that hold it
pub record HasOctets (number size : ℕ) : Type 0 where
  pub below : number < 256 ^ size
  pub no_fewer : 256 ^ size ≤ 256 * number

-- a SEQUENCE of two INTEGERs, both above 0, whose numbers have these counts of octets
pub record IsPairOfIntegers (bytes : List ℕ) (first_size second_size : ℕ) : Type 0 where
  pub first : ℕ
  pub second : ℕ
  pub pair : IsPair bytes first second
  pub first_octets : HasOctets first first_size
  pub second_octets : HasOctets second second_size

-- the bytes are the INTEGER of a number above 0 that has `size` octets, and then the rest
pub record BeginsPositive (bytes : List ℕ) (size : ℕ) (rest : List ℕ) : Type 0 where
  pub raw : List ℕ
  pub number : ℕ
  pub is : IsPositive raw number
  pub octets : HasOctets number size
  pub parts : bytes ≡ raw ++ rest

-- an RSAPublicKey: a modulus of `size` octets, and the public exponent, both above 0 (RFC 8017 A.1.1)
pub record IsRsaKey (key : List ℕ) (size : ℕ) : Type 0 where
  pub modulus : ℕ
  pub exponent : ℕ
  pub pair : IsPair key modulus exponent
  pub modulus_size : HasOctets modulus size

-- The first octet and the length of an ECPoint whose coordinates have `size` octets: 4 if uncompressed, 2 or 3 if compressed (RFC 5480 2.2;
-- SEC 1 2.3.3). Whether the point is on a curve is not stated.
abbrev pub IsPoint : ℕ → List ℕ → Type 0
IsPoint size key =
    ((get_or key 0 0 ≡ 4) × (length key ≡ 1 + 2 * size))
    ⊎ (((get_or key 0 0 ≡ 2) ⊎ (get_or key 0 0 ≡ 3)) × (length key ≡ 1 + size))

-- The form of a public key of an algorithm, the bits of a subjectPublicKey: with ECDSA that of a point of P-256 or of P-384, with RSA an
-- RSAPublicKey, with Ed25519 32 octets (RFC 8410 4)
abbrev pub HasKeyForm : Algorithm → List ℕ → Type 0
HasKeyForm EcdsaSha256 key = IsPoint 32 key
HasKeyForm EcdsaSha384 key = IsPoint 48 key
HasKeyForm RsaSha256 key = (size : ℕ) × IsRsaKey key size
HasKeyForm Ed25519 key = length key ≡ 32

-- an Ecdsa-Sig-Value: r and s, both above 0 and below this bound (RFC 3279 2.2.3)
pub record IsEcdsaValue (bound : ℕ) (signature : List ℕ) : Type 0 where
  pub r : ℕ
  pub s : ℕ
  pub pair : IsPair signature r s
  pub r_below : r < bound
  pub s_below : s < bound

-- The form of a signature of an algorithm under a key. ECDSA: an Ecdsa-Sig-Value of numbers below 2^256 or 2^384. RSA: the key is an RSAPublicKey,
-- and the signature has as many octets as its modulus (RFC 8017 8.2.1). Ed25519: 64 octets (RFC 8032 5.1.6)
abbrev pub HasSignatureForm : Algorithm → List ℕ → List ℕ → Type 0
HasSignatureForm EcdsaSha256 key signature = IsEcdsaValue (2 ^ 256) signature
HasSignatureForm EcdsaSha384 key signature = IsEcdsaValue (2 ^ 384) signature
HasSignatureForm RsaSha256 key signature = IsRsaKey key (length signature)
HasSignatureForm Ed25519 key signature = length signature ≡ 64

-- the identity of a signer with this algorithm and this key
abbrev pub identity_of : Algorithm → List ℕ → Identity
identity_of algorithm key = record { algorithm = identifier_of algorithm; public_key = key }

-- the identity's algorithm is one of the four, and the signature has the form of a signature of this algorithm under the identity's key
pub record HasForm (identity : Identity) (signature : List ℕ) : Type 0 where
  pub algorithm : Algorithm
  pub named : identity.algorithm ≡ identifier_of algorithm
  pub form : HasSignatureForm algorithm identity.public_key signature
