-- The AlgorithmIdentifier of SHA-1 satisfies `IsAlgorithm`.
use Rattle.std.proofs.Common.{[], ◌∷◌, arith, rules}
use Rattle.reg_der.specs.Der.{tlv, length_octets}
use Rattle.reg_crl.specs.Signing.{IsAlgorithm}
use Rattle.reg_crl.proofs.PublicLaws.{sequence_is_algorithm}

-- OBJECT IDENTIFIER 1.3.14.3.2.26 and NULL
pub sha1_algorithm_is : IsAlgorithm (48 ∷ 9 ∷ 6 ∷ 5 ∷ 43 ∷ 14 ∷ 3 ∷ 2 ∷ 26 ∷ 5 ∷ 0 ∷ [])
unfolding tlv length_octets
sha1_algorithm_is = sequence_is_algorithm (6 ∷ 5 ∷ 43 ∷ 14 ∷ 3 ∷ 2 ∷ 26 ∷ 5 ∷ 0 ∷ []) (search rules) (omega arith)
