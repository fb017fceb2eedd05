-- Why no CRL with an algorithm may follow another CRL, by the algorithm that was found in that one.
use Rattle.std.proofs.Common.{◌≡◌, ◌∙◌, ℕ, List, Option, Some, None, sym, subst}
use Rattle.std.specs.Prelude.{MatchOption}
use Rattle.reg_core.specs.declared.cause.Cause.{Cause}
use Rattle.reg_desk_service.specs.Signers.{MayFollow}
use Rattle.reg_crl_signer.specs.Signed.{IsCrlWithAlgorithm}
use Rattle.reg_desk_program.specs.Mismatches.{Differs, IsMismatch, IsMismatchAfter}

-- by the algorithm that was found in it
pub of_found : (crl found algorithm : List ℕ) (result : Option Cause)
    → ((other : List ℕ) → IsCrlWithAlgorithm crl other → found ≡ other)
    → MatchOption result (MayFollow algorithm found) (Differs found algorithm)
    → MatchOption result ((other : List ℕ) → IsCrlWithAlgorithm crl other → MayFollow algorithm other) (IsMismatch crl algorithm)
of_found crl found algorithm None read follows = λ other under.
    let P : List ℕ → Type 0 = λ b. MayFollow algorithm b in
    subst P (read other under) follows
of_found crl found algorithm (Some cause) read differs = λ other under.
    let P : List ℕ → Type 0 = λ b. Differs b algorithm cause in
    subst P (read other under) differs

-- by the algorithm that was found in the latest CRL
pub of_latest : (latest : Option (List ℕ)) (crl algorithm : List ℕ) (result : Option Cause) → latest ≡ Some crl
    → MatchOption result ((other : List ℕ) → IsCrlWithAlgorithm crl other → MayFollow algorithm other) (IsMismatch crl algorithm)
    → MatchOption result ((it : List ℕ) → latest ≡ Some it → (other : List ℕ) → IsCrlWithAlgorithm it other → MayFollow algorithm other)
    (IsMismatchAfter latest algorithm)
of_latest latest crl algorithm None is follows = λ it same other under.
    let both : Some it ≡ Some crl = sym same ∙ is in
    let one : it ≡ crl = cc in
    let P : List ℕ → Type 0 = λ b. IsCrlWithAlgorithm b other in
    follows other (subst P one under)
of_latest latest crl algorithm (Some cause) is misfits = (crl, is, misfits)
