-- The last listing of a revocation as records grow, and what the next CRL lists by it.
use Rattle.std.proofs.Common.{◌≡◌, ℕ, ◌+◌, ◌≤◌, false, cond, [], ◌∷◌, ◌++◌, length, Some, None, option_map, ap, ◌∙◌, arith}
use Rattle.std.specs.List.{AllByRecursion}
use Rattle.std.proofs.lemmas.Bool.Decides.{nat_tests}
use Rattle.reg_core.specs.Changes.{with_certificate, with_crl}
use Rattle.reg_core.specs.Crls.{ends_listing, last_listing, next_number}
use Rattle.reg_core.specs.Records.{Records, Crl, certificate_in}
use Rattle.reg_core.specs.Sound.{SoundRows}
use Rattle.reg_core.specs.declared.rows.CertRow.{CertRow}
use Rattle.reg_core.specs.declared.rows.RevocationRow.{RevocationRow}
use Rattle.reg_core_laws.proofs.Contents.{next_is, is_past_on_kept}
use Rattle.reg_core_laws.proofs.Lists.{all_any, all_weaker, find_append, find_none, find_same, numbered_below, some_and_of}

-- A CRL IS ADDED

-- a last listing stays
pub last_stays : (records : Records) (now : ℕ) (crl : Crl) (revocation : RevocationRow) (last : ℕ) → last_listing records revocation ≡ Some last
    → last_listing (with_crl records now crl) revocation ≡ Some last
last_stays records now crl revocation last is = grind (arith, find_append (ends_listing records.certificates revocation) records.crls (crl ∷ []))

-- where there was none, it is the added CRL just where that one can list the revocation and is past the end
pub last_added : (records : Records) (now : ℕ) (crl : Crl) (revocation : RevocationRow) → last_listing records revocation ≡ None
    → last_listing (with_crl records now crl) revocation ≡ cond (ends_listing records.certificates revocation crl) (Some crl.number) None
last_added records now crl revocation is = grind (arith, find_append (ends_listing records.certificates revocation) records.crls (crl ∷ []))

-- the next CRL can list every recorded revocation
pub first_by_next : (records : Records) → SoundRows records → AllByRecursion (λ revocation. revocation.first ≤ next_number records.crls) records.revocations
first_by_next records sound =
    all_weaker _ _ (λ revocation its. omega (arith, its.first_by_next, next_is records.crls sound.crls.numbered)) records.revocations sound.revocations.each

-- OTHER CHANGES

-- a revocation whose first CRL is the next one has no last listing
pub last_new : (records : Records) (revocation : RevocationRow) → SoundRows records → revocation.first ≡ next_number records.crls
    → last_listing records revocation ≡ None
last_new records revocation sound is = ap (option_map (λ crl. crl.number)) (find_none _ records.crls none)
  where
    next : revocation.first ≡ length records.crls + 1
    next = is ∙ next_is records.crls sound.crls.numbered

    none : AllByRecursion (λ crl. ends_listing records.certificates revocation crl ≡ false) records.crls
    none = all_weaker _ _ (λ crl below. grind (arith, nat_tests, next)) records.crls (numbered_below (λ crl. crl.number) 1 records.crls sound.crls.numbered)

-- certificates that are added leave the last listing of each recorded revocation as it was
pub last_kept : (records : Records) (now : ℕ) (row : CertRow) → SoundRows records
    → AllByRecursion (λ revocation. last_listing (with_certificate records now row) revocation ≡ last_listing records revocation) records.revocations
last_kept records now row sound =
    all_weaker _ _ (λ revocation its.
    let found =
    some_and_of (λ certificate. revocation.at ≤ certificate.not_after) (certificate_in records.certificates revocation.serial) its.within_validity in
    ap (option_map (λ crl. crl.number)) (find_same (ends_listing (records.certificates ++ row ∷ []) revocation)
    (ends_listing records.certificates revocation) records.crls
    (all_any _ (λ crl. is_past_on_kept records.certificates (row ∷ []) revocation crl found.0 found.1) records.crls)))
    records.revocations sound.revocations.each
