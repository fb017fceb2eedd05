-- What CRLs list, over sound records: a revocation from its first CRL to its last, each by an entry of its own, and no
-- other serial number.
use Rattle.std.proofs.Common.{◌≡◌, ◌↔◌, ℕ, ◌<◌, ◌≤◌, Bool, false, ◌&&◌, ◌==◌, nat_lt, List, find, Option, Some, None, option_map, IsTrue, IsFalse, IfSome, refl, sym, ap, ◌∙◌, arith}
use Rattle.std.specs.List.{AllByRecursion, list_any}
use Rattle.std.proofs.lemmas.Bool.Decides.{nat_tests}
use Rattle.reg_core.specs.Crls.{is_past_end, ends_listing, is_listed_on, listed_revocations, last_listing, entry_of, entries}
use Rattle.reg_core.specs.Records.{Records, Crl, certificate_in, revocation_in}
use Rattle.reg_core.specs.Sound.{NumberedFrom, SoundRevocation, SoundRows}
use Rattle.reg_core.specs.Status.{status}
use Rattle.reg_core.specs.declared.rows.CertRow.{CertRow}
use Rattle.reg_core.specs.declared.rows.RevocationRow.{RevocationRow}
use Rattle.reg_core.specs.declared.command.Status.TheVariants.{Revoked}
use Rattle.reg_core_laws.specs.Headline.{lists, NonePastBetween, IsDueEntry}
use Rattle.reg_core_laws.specs.History.{ListedFromFirstToLast}
use Rattle.reg_core_laws.proofs.Entries.{any_entry, all_ascending}
use Rattle.reg_core_laws.proofs.Lists.{all_weaker, all_map, all_found, any_none, none_any, each_found, key_found, some_and_of}
use Rattle.reg_core_laws.proofs.ListFacts.{all_that_pass, any_unfound, any_with_key, any_below, none_below}

-- ONE REVOCATION

-- a CRL below n after which the revocation need not be listed
abbrev ends_before : List CertRow → RevocationRow → ℕ → Crl → Bool
ends_before certificates revocation n crl = nat_lt crl.number n && ends_listing certificates revocation crl

-- the end of a registered certificate
pub past_end_is : (certificates : List CertRow) (serial moment : ℕ) (certificate : CertRow) → certificate_in certificates serial ≡ Some certificate
    → is_past_end certificates serial moment ≡ nat_lt certificate.not_after moment
past_end_is certificates serial moment certificate is = rw (is, is_past_end)

-- CRL n lists a revocation just where it can, and no CRL before that one that can was issued past the end
pub on_means : (certificates : List CertRow) (crls : List Crl) (n : ℕ) (revocation : RevocationRow) (certificate : CertRow)
    → certificate_in certificates revocation.serial ≡ Some certificate
    → IsTrue (is_listed_on certificates crls n revocation) ↔ ((revocation.first ≤ n) × NonePastBetween crls revocation.first n certificate.not_after)
on_means certificates crls n revocation certificate is = (listed_then, back)
  where
    in_time : (crl : Crl)
        → IsFalse (ends_before certificates revocation n crl) ↔ (revocation.first ≤ crl.number → crl.number < n → crl.this_update ≤ certificate.not_after)
    in_time crl =
        let ends : is_past_end certificates revocation.serial crl.this_update ≡ nat_lt certificate.not_after crl.this_update =
        past_end_is certificates revocation.serial crl.this_update certificate is in
        (λ fails can below. grind (arith, nat_tests), λ within. grind (arith, nat_tests))

    listed_then : IsTrue (is_listed_on certificates crls n revocation) → (revocation.first ≤ n) × NonePastBetween crls revocation.first n certificate.not_after
    listed_then on = (grind (arith, nat_tests), all_weaker _ _ (λ crl. (in_time crl).0) crls (none_any (ends_before certificates revocation n) crls (grind arith)))

    back : (revocation.first ≤ n) × NonePastBetween crls revocation.first n certificate.not_after → IsTrue (is_listed_on certificates crls n revocation)
    back facts =
        let none : list_any (ends_before certificates revocation n) crls ≡ false = any_none _ crls (all_weaker _ _ (λ crl. (in_time crl).1) crls facts.1) in
        grind (arith, nat_tests, facts.0)

-- and just where it can and is not past the revocation's last listing
on_from_first_to_last : (records : Records) (n : ℕ) (revocation : RevocationRow) → NumberedFrom (λ crl. crl.number) 1 records.crls
    → IsTrue (is_listed_on records.certificates records.crls n revocation) ↔ ((revocation.first ≤ n) × IfSome (last_listing records revocation) (λ last. n ≤ last))
on_from_first_to_last records n revocation numbered = go (find (ends_listing records.certificates revocation) records.crls) refl
  where
    go : (found : Option Crl) → find (ends_listing records.certificates revocation) records.crls ≡ found
        → IsTrue (is_listed_on records.certificates records.crls n revocation) ↔
        ((revocation.first ≤ n) × IfSome (option_map (λ crl. crl.number) found) (λ last. n ≤ last))
    go None is =
        let none : list_any (ends_before records.certificates revocation n) records.crls ≡ false =
        none_below (λ crl. crl.number) _ n records.crls (any_unfound _ records.crls is) in
        (λ on. (grind (arith, nat_tests), tt), λ facts. grind (arith, nat_tests, facts.0))
    go (Some crl) is =
        let past : list_any (ends_before records.certificates revocation n) records.crls ≡ nat_lt crl.number n =
        any_below (λ row. row.number) _ 1 n records.crls crl numbered is in
        (λ on. (grind (arith, nat_tests), grind (arith, nat_tests)), λ facts. grind (arith, nat_tests, facts.0, facts.1))

-- ONE SERIAL NUMBER

-- a CRL has an entry of a revoked serial number just where it lists the revocation
pub lists_is : (records : Records) (n serial : ℕ) (revocation : RevocationRow) → SoundRows records → revocation_in records.revocations serial ≡ Some revocation
    → lists records n serial ≡ is_listed_on records.certificates records.crls n revocation
lists_is records n serial revocation sound is =
    any_entry (λ entry. entry.serial == serial) records n
    ∙ any_with_key (λ row. row.serial) (is_listed_on records.certificates records.crls n) serial records.revocations revocation sound.revocations.serials_differ is

-- the certificate of a revocation
pub record RevokedCertificate (records : Records) (serial : ℕ) (revocation : RevocationRow) : Type 0 where
  pub certificate : CertRow
  pub registered : certificate_in records.certificates serial ≡ Some certificate
  pub within_validity : revocation.at ≤ certificate.not_after

pub certificate_of : (records : Records) (serial : ℕ) (revocation : RevocationRow) → SoundRows records
    → revocation_in records.revocations serial ≡ Some revocation
    → RevokedCertificate records serial revocation
certificate_of records serial revocation sound is =
    let key : revocation.serial ≡ serial = key_found (λ row. row.serial) records.revocations serial revocation is in
    let its : SoundRevocation records.last records.certificates records.requests records.crls revocation =
    all_found _ _ records.revocations revocation is sound.revocations.each in
    let found =
    some_and_of (λ certificate. revocation.at ≤ certificate.not_after) (certificate_in records.certificates revocation.serial) its.within_validity in
    record { certificate = found.0; registered = ap (certificate_in records.certificates) (sym key) ∙ found.1; within_validity = found.2 }

-- a serial number that is revoked stays so at every moment, with its revocation's time and reason
pub revoked_for_good : (records : Records) (serial : ℕ) (revocation : RevocationRow) → SoundRows records
    → revocation_in records.revocations serial ≡ Some revocation
    → (moment : ℕ) → status records serial moment ≡ Revoked revocation.at revocation.reason
revoked_for_good records serial revocation sound is moment = rw ((certificate_of records serial revocation sound is).registered, is)

-- ALL OF THEM

-- each entry of a CRL is that of a recorded revocation, which the CRL is to list
pub due_entries : (records : Records) (n : ℕ) → SoundRows records → AllByRecursion (IsDueEntry records n) (entries records n)
due_entries records n sound =
    all_ascending _ _ (all_map (IsDueEntry records n) entry_of (listed_revocations records n)
    (all_that_pass _ _ records.revocations (all_weaker _ _ due records.revocations
    (each_found (λ revocation. revocation.serial) records.revocations sound.revocations.serials_differ))))
  where
    due : (revocation : RevocationRow) → revocation_in records.revocations revocation.serial ≡ Some revocation
        → IsTrue (is_listed_on records.certificates records.crls n revocation) → IsDueEntry records n (entry_of revocation)
    due revocation is on =
        let its = certificate_of records revocation.serial revocation sound is in
        let may_list = (on_means records.certificates records.crls n revocation its.certificate its.registered).0 on in
        record {
          certificate = its.certificate;
          revocation = revocation;
          registered = its.registered;
          revoked = is;
          entry_is = refl;
          can_list = may_list.0;
          none_past = may_list.1;
        }

-- each revocation is listed from its first CRL to its last
pub listed_from_first_to_last : (records : Records) → SoundRows records → ListedFromFirstToLast records
listed_from_first_to_last records sound =
    all_weaker _ _ (λ revocation is n. rw (lists_is records n revocation.serial revocation sound is)
    (on_from_first_to_last records n revocation sound.crls.numbered))
    records.revocations (each_found (λ revocation. revocation.serial) records.revocations sound.revocations.serials_differ)
