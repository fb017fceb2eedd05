-- The conditions on the options for a new register and a new schedule.
use Rattle.std.specs.Prelude.{◌≡◌, ◌⊎◌, ℕ, List, Ok, Option, Some, None}
use Rattle.hex.specs.Hex.{decode_of}
use Rattle.reg_core.specs.Issuer as core
use Rattle.reg_core.specs.Policy.{Terms, IsPolicy}
use Rattle.reg_core.specs.Schedule.{IsSchedule, one_step}
use Rattle.reg_core.specs.declared.refusal.Fault.TheVariants as fault
use Rattle.reg_core.specs.Label.{IsLabel}
use Rattle.reg_der.specs.Authority.{IsIssuerName, IsKey, with_identifier}
use Rattle.reg_desk_cli.specs.declared.failure.Failure.{Failure}
use Rattle.reg_desk_cli.specs.declared.failure.Failure.TheVariants as failure

-- two words have the Name and the key of an issuer in hexadecimal (RFC 5280 4.1.2.4, 4.1.2.7)
pub record WritesIssuer (name key : List ℕ) (issuer : core.Issuer) : Type 0 where
  pub writes_name : decode_of name ≡ Ok issuer.name
  pub writes_key : decode_of key ≡ Ok issuer.key
  pub is_name : IsIssuerName issuer.name
  pub is_key : IsKey issuer.key

-- out of memory, or the words have no valid issuer
abbrev pub IsNoIssuer : List ℕ → List ℕ → Failure → Type 0
IsNoIssuer name key why = (why ≡ failure.Fault fault.Memory)
    ⊎ ((why ≡ failure.BadIssuer) × ((issuer : core.Issuer) → ¬ WritesIssuer name key issuer))

-- a word has a key identifier of 1 to 64 octets in hexadecimal (RFC 5280 4.2.1.2)
pub record WritesIdentifier (key_id octets : List ℕ) : Type 0 where
  pub writes : decode_of key_id ≡ Ok octets
  pub within : IsLabel octets

-- out of memory, or the word has no valid key identifier
abbrev pub IsNoIdentifier : List ℕ → Failure → Type 0
IsNoIdentifier key_id why = (why ≡ failure.Fault fault.Memory)
    ⊎ ((why ≡ failure.BadIssuer) × ((octets : List ℕ) → ¬ WritesIdentifier key_id octets))

-- the words have an issuer, which, if a third word is given, has that key identifier in each of its CRLs
abbrev pub WritesIdentified : List ℕ → List ℕ → Option (List ℕ) → core.Issuer → Type 0
WritesIdentified name key None issuer = WritesIssuer name key issuer
WritesIdentified name key (Some key_id) issuer =
    (plain : core.Issuer) × (octets : List ℕ) × WritesIssuer name key plain × WritesIdentifier key_id octets
    × (issuer ≡ with_identifier plain 1 octets)

-- out of memory, or the words have no such issuer
abbrev pub IsNotIdentified : List ℕ → List ℕ → Option (List ℕ) → Failure → Type 0
IsNotIdentified name key key_id why = (why ≡ failure.Fault fault.Memory)
    ⊎ ((why ≡ failure.BadIssuer) × ((issuer : core.Issuer) → ¬ WritesIdentified name key key_id issuer))

-- the terms with one longest validity
abbrev pub terms_of_days : ℕ → ℕ → ℕ → ℕ → Terms
terms_of_days days crl_life ocsp_life cap = record {
  schedule = one_step days;
  crl_life = crl_life;
  ocsp_life = ocsp_life;
  cap = cap;
}

-- the terms are not those of a policy
abbrev pub IsNoPolicy : Terms → Failure → Type 0
IsNoPolicy terms why = (why ≡ failure.BadPolicy) × ¬ IsPolicy terms

-- no valid issuer, or a valid issuer and no policy
abbrev pub IsNoIssuerOrPolicy : List ℕ → List ℕ → Option (List ℕ) → Terms → Failure → Type 0
IsNoIssuerOrPolicy name key key_id terms why = IsNotIdentified name key key_id why
    ⊎ (((issuer : core.Issuer) × WritesIdentified name key key_id issuer) × IsNoPolicy terms why)

-- the steps are no schedule
abbrev pub IsNoSchedule : List (ℕ × ℕ) → Failure → Type 0
IsNoSchedule steps why = (why ≡ failure.BadPolicy) × ¬ IsSchedule steps
