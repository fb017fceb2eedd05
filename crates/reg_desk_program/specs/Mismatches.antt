-- Why a signer does not fit a register.
use Rattle.std.specs.Prelude.{◌≡◌, ◌⊎◌, ℕ, List, Option, Some}
use Rattle.reg_core.specs.declared.cause.Cause.{Cause}
use Rattle.reg_core.specs.declared.cause.Cause.TheVariants as cause
use Rattle.reg_desk_service.specs.Signers.{MayFollow}
use Rattle.reg_crl_signer.specs.Algorithms.{identifier_of}
use Rattle.reg_crl_signer.specs.Signed.{IsCrlWithAlgorithm}
use Rattle.reg_crl_signer.specs.declared.algorithm.Algorithm.{Algorithm}

-- the AlgorithmIdentifier of a signature algorithm that is known here (RFC 5280 4.1.1.2)
abbrev pub IsKnownAlgorithm : List ℕ → Type 0
IsKnownAlgorithm algorithm = (known : Algorithm) × (identifier_of known ≡ algorithm)

-- a CRL with `algorithm` may not follow one with `found`, and why: `found` is another known algorithm, or it is unknown here
abbrev pub Differs : List ℕ → List ℕ → Cause → Type 0
Differs found algorithm why =
    (¬ MayFollow algorithm found)
    × (((why ≡ cause.OtherAlgorithm) × IsKnownAlgorithm found)
    ⊎ ((why ≡ cause.UnknownAlgorithm) × (¬ IsKnownAlgorithm found)))

-- why no CRL with an algorithm may follow this one, by the algorithm in it (RFC 5280 5.1.1.2)
abbrev pub IsMismatch : List ℕ → List ℕ → Cause → Type 0
IsMismatch crl algorithm cause = (other : List ℕ) → IsCrlWithAlgorithm crl other → Differs other algorithm cause

-- why no CRL with an algorithm may follow the latest one
abbrev pub IsMismatchAfter : Option (List ℕ) → List ℕ → Cause → Type 0
IsMismatchAfter latest algorithm cause = (crl : List ℕ) × (latest ≡ Some crl) × IsMismatch crl algorithm cause
