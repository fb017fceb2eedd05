-- The register in memory for a script without FILE.
use Rattle.std.specs.Prelude.{[], ◌∷◌}
use Rattle.reg_core.specs.Issuer.{Issuer}
use Rattle.reg_core.specs.Policy.{Terms}
use Rattle.reg_core.specs.Records.{Records, no_records}
use Rattle.reg_core.specs.Schedule.{one_step}

-- its issuer: the Name with the common name CA (RFC 5280 4.1.2.4), and the three bytes abc as the key
abbrev pub sample_issuer : Issuer
sample_issuer = record {
  name = 48 ∷ 13 ∷ 49 ∷ 11 ∷ 48 ∷ 9 ∷ 6 ∷ 3 ∷ 85 ∷ 4 ∷ 3 ∷ 12 ∷ 2 ∷ 67 ∷ 65 ∷ [];
  key = 97 ∷ 98 ∷ 99 ∷ [];
}

-- its policy: validities up to 398 days, CRLs valid for eight days, OCSP responses for four days, at most 1,000,000 rows in each table
abbrev pub usual_policy : Terms
usual_policy = record { schedule = one_step 398; crl_life = 691200; ocsp_life = 345600; cap = 1000000 }

-- its records at the start
abbrev pub sample_records : Records
sample_records = no_records sample_issuer usual_policy
