-- The identifier of each algorithm is an AlgorithmIdentifier (`IsAlgorithm`), and no two algorithms have the same one.
use Rattle.std.proofs.Common.{◌≡◌, ℕ, List, [], ◌∷◌, arith, rules, refl, ap, get_or}
use Rattle.reg_der.specs.Der.{tlv, length_octets}
use Rattle.reg_crl.specs.Signing.{IsAlgorithm}
use Rattle.reg_crl.proofs.PublicLaws.{sequence_is_algorithm}
use Rattle.reg_crl_signer.specs.Algorithms.{identifier_of}
use Rattle.reg_crl_signer.specs.declared.algorithm.Algorithm.{Algorithm}
use Rattle.reg_crl_signer.specs.declared.algorithm.Algorithm.TheVariants.{EcdsaSha256, EcdsaSha384, RsaSha256, Ed25519}

-- the contents of each SEQUENCE
abbrev contents_of : Algorithm → List ℕ
contents_of EcdsaSha256 = 6 ∷ 8 ∷ 42 ∷ 134 ∷ 72 ∷ 206 ∷ 61 ∷ 4 ∷ 3 ∷ 2 ∷ []
contents_of EcdsaSha384 = 6 ∷ 8 ∷ 42 ∷ 134 ∷ 72 ∷ 206 ∷ 61 ∷ 4 ∷ 3 ∷ 3 ∷ []
contents_of RsaSha256 = 6 ∷ 9 ∷ 42 ∷ 134 ∷ 72 ∷ 134 ∷ 247 ∷ 13 ∷ 1 ∷ 1 ∷ 11 ∷ 5 ∷ 0 ∷ []
contents_of Ed25519 = 6 ∷ 3 ∷ 43 ∷ 101 ∷ 112 ∷ []

pub identifier_is : (algorithm : Algorithm) → IsAlgorithm (identifier_of algorithm)
unfolding tlv length_octets
identifier_is EcdsaSha256 = sequence_is_algorithm (contents_of EcdsaSha256) (search rules) (omega arith)
identifier_is EcdsaSha384 = sequence_is_algorithm (contents_of EcdsaSha384) (search rules) (omega arith)
identifier_is RsaSha256 = sequence_is_algorithm (contents_of RsaSha256) (search rules) (omega arith)
identifier_is Ed25519 = sequence_is_algorithm (contents_of Ed25519) (search rules) (omega arith)

-- octet 11, or 0 if there is none, is another one in each identifier
pub one_algorithm : (algorithm other : Algorithm) → identifier_of algorithm ≡ identifier_of other → algorithm ≡ other
unfolding tlv length_octets
one_algorithm EcdsaSha256 EcdsaSha256 same = refl
one_algorithm EcdsaSha256 EcdsaSha384 same = let octet : ◌≡◌ {A = ℕ} 2 3 = ap (λ (l : List ℕ). get_or l 11 0) same in absurd (omega arith)
one_algorithm EcdsaSha256 RsaSha256 same = let octet : ◌≡◌ {A = ℕ} 2 1 = ap (λ (l : List ℕ). get_or l 11 0) same in absurd (omega arith)
one_algorithm EcdsaSha256 Ed25519 same = let octet : ◌≡◌ {A = ℕ} 2 0 = ap (λ (l : List ℕ). get_or l 11 0) same in absurd (omega arith)
one_algorithm EcdsaSha384 EcdsaSha256 same = let octet : ◌≡◌ {A = ℕ} 3 2 = ap (λ (l : List ℕ). get_or l 11 0) same in absurd (omega arith)
one_algorithm EcdsaSha384 EcdsaSha384 same = refl
one_algorithm EcdsaSha384 RsaSha256 same = let octet : ◌≡◌ {A = ℕ} 3 1 = ap (λ (l : List ℕ). get_or l 11 0) same in absurd (omega arith)
one_algorithm EcdsaSha384 Ed25519 same = let octet : ◌≡◌ {A = ℕ} 3 0 = ap (λ (l : List ℕ). get_or l 11 0) same in absurd (omega arith)
one_algorithm RsaSha256 EcdsaSha256 same = let octet : ◌≡◌ {A = ℕ} 1 2 = ap (λ (l : List ℕ). get_or l 11 0) same in absurd (omega arith)
one_algorithm RsaSha256 EcdsaSha384 same = let octet : ◌≡◌ {A = ℕ} 1 3 = ap (λ (l : List ℕ). get_or l 11 0) same in absurd (omega arith)
one_algorithm RsaSha256 RsaSha256 same = refl
one_algorithm RsaSha256 Ed25519 same = let octet : ◌≡◌ {A = ℕ} 1 0 = ap (λ (l : List ℕ). get_or l 11 0) same in absurd (omega arith)
one_algorithm Ed25519 EcdsaSha256 same = let octet : ◌≡◌ {A = ℕ} 0 2 = ap (λ (l : List ℕ). get_or l 11 0) same in absurd (omega arith)
one_algorithm Ed25519 EcdsaSha384 same = let octet : ◌≡◌ {A = ℕ} 0 3 = ap (λ (l : List ℕ). get_or l 11 0) same in absurd (omega arith)
one_algorithm Ed25519 RsaSha256 same = let octet : ◌≡◌ {A = ℕ} 0 1 = ap (λ (l : List ℕ). get_or l 11 0) same in absurd (omega arith)
one_algorithm Ed25519 Ed25519 same = refl
