-- The loop over the extensions of a CRL.
use Rattle.std.proofs.Common.{◌≡◌, ℕ, zero, suc, ◌<◌, ◌≤◌, true, false, List, [], ◌∷◌, length, Some, None, refl, sym, ◌∙◌, arith}
use Rattle.std.specs.Str.{bytes_eq}
use Rattle.reg_core.specs.Sequence.{◌>>=◌}
use Rattle.reg_der.specs.TaggedValues.{whole_at}
use Rattle.reg_crl.specs.Reading.{crl_extension_at, crl_number_of, number_among}

abbrev pub crl_number_identifier : List ℕ
crl_number_identifier = 85 ∷ 29 ∷ 20 ∷ []

-- what is found in the rest, with some fuel, is what is found in all
pub record LooksOn (rest all : List ℕ) : Type 0 where
  pub fuel : ℕ
  pub room : length rest ≤ fuel
  pub same_number : number_among fuel rest ≡ number_among (length all) all

pub looks_begin : (all : List ℕ) → LooksOn all all
looks_begin all = record { fuel = length all; room = omega arith; same_number = refl }

-- an extension that is no CRL number
passes : (fuel : ℕ) (rest after all identifier value : List ℕ) → 1 ≤ length rest → length after < length rest → length rest ≤ fuel
    → crl_extension_at rest ≡ Some ((identifier, value), after) → bytes_eq identifier crl_number_identifier ≡ false
    → number_among fuel rest ≡ number_among (length all) all → LooksOn after all
passes fuel [] after all identifier value some shorter room read other same_number = absurd (omega arith)
passes zero (first ∷ tail) after all identifier value some shorter room read other same_number = absurd (omega arith)
passes (suc fuel) (first ∷ tail) after all identifier value some shorter room read other same_number =
    let step : number_among (suc fuel) (first ∷ tail) ≡ number_among fuel after = rw (read, other) refl in
    record { fuel = fuel; room = omega arith; same_number = sym step ∙ same_number }

pub looks_on : (rest after all identifier value : List ℕ) → 1 ≤ length rest → length after < length rest
    → crl_extension_at rest ≡ Some ((identifier, value), after) → bytes_eq identifier crl_number_identifier ≡ false → LooksOn rest all → LooksOn after all
looks_on rest after all identifier value some shorter read other so_far =
    passes so_far.fuel rest after all identifier value some shorter so_far.room read other so_far.same_number

-- the first CRL number
found : (fuel : ℕ) (rest after identifier value : List ℕ) → 1 ≤ length rest → length rest ≤ fuel
    → crl_extension_at rest ≡ Some ((identifier, value), after) → bytes_eq identifier crl_number_identifier ≡ true
    → number_among fuel rest ≡ (whole_at 0x02 value >>= crl_number_of)
found fuel [] after identifier value some room read this = absurd (omega arith)
found zero (first ∷ tail) after identifier value some room read this = absurd (omega arith)
found (suc fuel) (first ∷ tail) after identifier value some room read this = rw (read, this) refl

pub number_is : (rest after all identifier value : List ℕ) → 1 ≤ length rest → crl_extension_at rest ≡ Some ((identifier, value), after)
    → bytes_eq identifier crl_number_identifier ≡ true → LooksOn rest all → number_among (length all) all ≡ (whole_at 0x02 value >>= crl_number_of)
number_is rest after all identifier value some read this so_far =
    sym so_far.same_number ∙ found so_far.fuel rest after identifier value some so_far.room read this

-- what is no extension
broken : (fuel : ℕ) (rest : List ℕ) → 1 ≤ length rest → crl_extension_at rest ≡ None → number_among fuel rest ≡ None
broken fuel [] some read = absurd (omega arith)
broken zero (first ∷ tail) some read = refl
broken (suc fuel) (first ∷ tail) some read = rw read refl

pub none_is : (rest all : List ℕ) → 1 ≤ length rest → crl_extension_at rest ≡ None → LooksOn rest all → number_among (length all) all ≡ None
none_is rest all some read so_far = sym so_far.same_number ∙ broken so_far.fuel rest some read

-- nothing is left
ended : (fuel : ℕ) → number_among fuel [] ≡ None
ended zero = refl
ended (suc fuel) = refl

pub end_is : (all : List ℕ) → LooksOn [] all → number_among (length all) all ≡ None
end_is all so_far = sym so_far.same_number ∙ ended so_far.fuel
