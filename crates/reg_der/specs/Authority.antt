-- The issuer: its Name, its key, and the key identifiers in its CRLs.
use Rattle.std.specs.Prelude.{◌≡◌, ℕ, zero, suc, ◌<◌, ◌≤◌, ◌^◌, ◌==◌, nat_le, nat_lt, ◌&&◌, List, [], ◌∷◌, ◌++◌, length, take, drop, Option, Some, None, IsSome, option_map, unwrap_or, if◌then◌else◌}
use Rattle.std.specs.Int.{bytes_high_first}
use Rattle.reg_core.specs.Integer.{IsBytes, value}
use Rattle.reg_core.specs.Issuer as core
use Rattle.reg_core.specs.Label.{IsLabel}
use Rattle.reg_core.specs.Sequence.{◌>>=◌}
use Rattle.reg_der.specs.Der.{IsTlv, tlv}
use Rattle.reg_der.specs.ValueReading.{Parts, value_at}
use Rattle.reg_der.specs.declared.identifiers.KeyIdentifier.{KeyIdentifier}

-- a Name (RFC 5280 4.1.2.4): one SEQUENCE that is not empty, of at most 1,024 bytes in all
pub record IsIssuerName (name : List ℕ) : Type 0 where
  pub contents : List ℕ
  pub sequence : IsTlv name 48 contents
  pub some : 1 ≤ length contents
  pub short : length name ≤ 1024

-- the bits of a subjectPublicKey (RFC 5280 4.1.2.7): 1 to 2,048 bytes
pub record IsKey (key : List ℕ) : Type 0 where
  pub each : IsBytes key
  pub some : 1 ≤ length key
  pub short : length key ≤ 2048

-- ---- the stored name: the Name, and after it the key identifiers that were set, the latest first

-- the Name: the value at the front; no bytes if there is none
unfoldable pub name_in : List ℕ → List ℕ
name_in kept = unwrap_or (option_map (λ x. tlv x.0.tag x.0.contents) (value_at kept)) []

-- the bytes after the Name; no bytes if there is no Name
unfoldable pub after_name : List ℕ → List ℕ
after_name kept = unwrap_or (option_map (λ x. x.1) (value_at kept)) []

-- the stored form of a key identifier (RFC 5280 4.2.1.2): tagged [0], the number of its first CRL in eight octets, and then the identifier
unfoldable pub identifier_value : ℕ → List ℕ → List ℕ
identifier_value first octets = tlv 128 (bytes_high_first 8 first ++ octets)

-- the key identifier of 1 to 64 octets at the front, and the bytes after it
unfoldable pub identifier_at : List ℕ → Option (KeyIdentifier × List ℕ)
identifier_at bytes =
    value_at bytes >>= λ x.
    if (x.0.tag == 128 && nat_lt 8 (length x.0.contents)) && nat_lt (length x.0.contents) 73
    then Some (record { first = value (take 8 x.0.contents); octets = drop 8 x.0.contents }, x.1)
    else None

-- all key identifiers in the bytes. `fuel` bounds the recursion; it is the number of bytes, because each key identifier has at least one.
abbrev pub identifiers_by : ℕ → List ℕ → Option (List KeyIdentifier)
identifiers_by fuel [] = Some []
identifiers_by zero (first ∷ rest) = None
identifiers_by (suc fuel) (first ∷ rest) =
    identifier_at (first ∷ rest) >>= λ x. identifiers_by fuel x.1 >>= λ xs. Some (x.0 ∷ xs)

-- all key identifiers in the bytes; `None` if there is anything else in them
abbrev pub identifiers_at : List ℕ → Option (List KeyIdentifier)
identifiers_at bytes = identifiers_by (length bytes) bytes

-- a stored name: a Name, and after it key identifiers and nothing else
pub record IsStoredName (kept : List ℕ) : Type 0 where
  pub each : IsBytes kept
  pub name : IsIssuerName (name_in kept)
  pub identifiers : IsSome (identifiers_at (after_name kept))

-- the stored name and the key are valid
pub record IsIssuer (issuer : core.Issuer) : Type 0 where
  pub name : IsStoredName issuer.name
  pub key : IsKey issuer.key

-- ---- the parts of an issuer

-- the issuer's Name (RFC 5280 4.1.2.4)
abbrev pub name_of : core.Issuer → List ℕ
name_of issuer = name_in issuer.name

-- the key identifiers that were set, the latest first
abbrev pub key_identifiers : core.Issuer → List KeyIdentifier
key_identifiers issuer = unwrap_or (identifiers_at (after_name issuer.name)) []

-- the key identifier of the CRL with this number: the latest (the first in the list) whose first CRL has this number or a lower one
abbrev pub identifier_for : List KeyIdentifier → ℕ → Option (List ℕ)
identifier_for [] number = None
identifier_for (identifier ∷ rest) number =
    if nat_le identifier.first number then Some identifier.octets else identifier_for rest number

-- the key identifier that was set for the CRL with this number, if one was (RFC 5280 5.2.1, 4.2.1.2)
abbrev pub key_identifier_at : core.Issuer → ℕ → Option (List ℕ)
key_identifier_at issuer number = identifier_for (key_identifiers issuer) number

-- the key identifiers, without the latest one if its first CRL is the one with this number
abbrev pub without_latest : ℕ → Option (KeyIdentifier × List ℕ) → List ℕ → List ℕ
without_latest first None bytes = bytes
without_latest first (Some latest) bytes = if latest.0.first == first then latest.1 else bytes

unfoldable pub earlier_identifiers : ℕ → List ℕ → List ℕ
earlier_identifiers first bytes = without_latest first (identifier_at bytes) bytes

-- the issuer with one more key identifier, for CRLs from this number on; it replaces the latest one if that has the same first CRL
abbrev pub with_identifier : core.Issuer → ℕ → List ℕ → core.Issuer
with_identifier issuer first octets =
    record {
      name = name_in issuer.name
          ++ (identifier_value first octets ++ earlier_identifiers first (after_name issuer.name));
      key = issuer.key;
    }

-- with one more key identifier, the issuer is valid, with the same Name and key, the new key identifier from that CRL on, and its former
-- ones in earlier CRLs
pub record HasIdentifier (issuer : core.Issuer) (first : ℕ) (octets : List ℕ) : Type 0 where
  pub within : IsIssuer (with_identifier issuer first octets)
  pub name : name_of (with_identifier issuer first octets) ≡ name_of issuer
  pub key : (with_identifier issuer first octets).key ≡ issuer.key
  pub later : (number : ℕ) → first ≤ number
      → key_identifier_at (with_identifier issuer first octets) number ≡ Some octets
  pub earlier : (number : ℕ) → number < first
      → key_identifier_at (with_identifier issuer first octets) number ≡ key_identifier_at issuer number

-- for each valid issuer, number below 2^64 and key identifier of 1 to 64 octets, `with_identifier` does as `HasIdentifier` says
abbrev pub IdentifiersFollow : Type 0
IdentifiersFollow =
    (issuer : core.Issuer) (first : ℕ) (octets : List ℕ) → IsIssuer issuer → first < 2 ^ 64 → IsLabel octets
    → HasIdentifier issuer first octets

-- the stored name is only the Name, and no key identifier was set for any CRL
pub record IsPlain (issuer : core.Issuer) : Type 0 where
  pub within : IsStoredName issuer.name
  pub name : name_of issuer ≡ issuer.name
  pub none : (number : ℕ) → key_identifier_at issuer number ≡ None

-- an issuer whose stored name is a Name and nothing else has no key identifiers that were set
abbrev pub NamesArePlain : Type 0
NamesArePlain = (issuer : core.Issuer) → IsIssuerName issuer.name → IsPlain issuer
