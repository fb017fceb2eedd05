-- Records that grow: a recorded CRL lists the same revocations as before.
use Rattle.std.proofs.Common.{◌≡◌, ℕ, ◌+◌, ◌<◌, ◌≤◌, Bool, not, ◌&&◌, ◌==◌, nat_le, nat_lt, List, [], ◌∷◌, ◌++◌, length, map, filter, Some, IsFalse, refl, sym, ap, ap₂, ◌∙◌, arith, append_assoc, append-nil, length-append}
use Rattle.std.specs.List.{AllByRecursion}
use Rattle.std.proofs.lemmas.Bool.Decides.{nat_tests}
use Rattle.std.proofs.lemmas.List.Elements.{filter-append}
use Rattle.reg_core.specs.Crls.{listed_revocations, cert_list, entry_of, ascending, is_listed_on, ends_listing, next_number}
use Rattle.reg_core.specs.Records.{Records, Crl, certificate_in}
use Rattle.reg_core.specs.Sound.{SoundRows, SoundRevocation, NumberedFrom}
use Rattle.reg_core.specs.declared.rows.CertRow.{CertRow}
use Rattle.reg_core.specs.declared.rows.RevocationRow.{RevocationRow}
use Rattle.reg_core_laws.proofs.Lists.{all_append, all_weaker, all_any, find_front, filter_same, filter_none, any_past, any_same, some_and_of}

-- records and later ones: certificates, revocations and CRLs are added at the end, a new revocation's first and a new
-- CRL's number are above every recorded number, and the issuer and the policy stay
pub record Grows (before after : Records) : Type 0 where
  pub issuer : after.issuer ≡ before.issuer
  pub policy : after.policy ≡ before.policy
  pub last : before.last ≤ after.last
  pub more_certificates : List CertRow
  pub certificates : after.certificates ≡ before.certificates ++ more_certificates
  pub more_revocations : List RevocationRow
  pub revocations : after.revocations ≡ before.revocations ++ more_revocations
  pub more_crls : List Crl
  pub crls : after.crls ≡ before.crls ++ more_crls
  pub new_firsts : AllByRecursion (λ revocation. length before.crls < revocation.first) more_revocations
  pub new_numbers : AllByRecursion (λ crl. length before.crls < crl.number) more_crls

pub grows_none : (records : Records) → Grows records records
grows_none records = record {
  issuer = refl;
  policy = refl;
  last = omega arith;
  more_certificates = [];
  certificates = sym (append-nil records.certificates);
  more_revocations = [];
  revocations = sym (append-nil records.revocations);
  more_crls = [];
  crls = sym (append-nil records.crls);
  new_firsts = tt;
  new_numbers = tt;
}

-- what is added is added to
added : {Row : Type 0} (rows more further between after : List Row) → between ≡ rows ++ more → after ≡ between ++ further → after ≡ rows ++ (more ++ further)
added rows more further between after first second = second ∙ ap (λ front. front ++ further) first ∙ append_assoc rows more further

pub grows_on : (before between after : Records) → Grows before between → Grows between after → Grows before after
grows_on before between after first second = record {
  issuer = second.issuer ∙ first.issuer;
  policy = second.policy ∙ first.policy;
  last = omega (arith, first.last, second.last);
  more_certificates = first.more_certificates ++ second.more_certificates;
  certificates = added _ _ _ _ _ first.certificates second.certificates;
  more_revocations = first.more_revocations ++ second.more_revocations;
  revocations = added _ _ _ _ _ first.revocations second.revocations;
  more_crls = first.more_crls ++ second.more_crls;
  crls = added _ _ _ _ _ first.crls second.crls;
  new_firsts = all_append _ first.more_revocations _ first.new_firsts (all_weaker _ _ (λ revocation above. omega (arith, longer)) _ second.new_firsts);
  new_numbers = all_append _ first.more_crls _ first.new_numbers (all_weaker _ _ (λ crl above. omega (arith, longer)) _ second.new_numbers);
}
  where
    longer : length before.crls ≤ length between.crls
    longer = omega (arith, ap length first.crls, length-append before.crls first.more_crls)

next_from : (from : ℕ) (first : Crl) (rest : List Crl) → NumberedFrom (λ crl. crl.number) from (first ∷ rest)
    → next_number (first ∷ rest) ≡ from + length (first ∷ rest)
next_from from first [] numbered = omega (arith, numbered.0)
next_from from first (next ∷ rest) numbered = omega (arith, next_from (from + 1) next rest numbered.1)

-- the next number is one more than the number of CRLs
pub next_is : (crls : List Crl) → NumberedFrom (λ crl. crl.number) 1 crls → next_number crls ≡ length crls + 1
next_is [] numbered = refl
next_is (first ∷ rest) numbered = omega (arith, next_from 1 first rest numbered)

-- whether a CRL is past the end of a recorded revocation's certificate stays as it was
pub is_past_on_kept : (rows more : List CertRow) (revocation : RevocationRow) (crl : Crl) (certificate : CertRow)
    → certificate_in rows revocation.serial ≡ Some certificate → ends_listing (rows ++ more) revocation crl ≡ ends_listing rows revocation crl
is_past_on_kept rows more revocation crl certificate found =
    let front : certificate_in (rows ++ more) revocation.serial ≡ Some certificate =
    find_front (λ row. row.serial == revocation.serial) rows more certificate found in
    rw (front, found)

-- over rows and CRLs that were added: up to the least new number, whether a CRL lists a revocation stays as it was
is_on_added : (rows more_rows : List CertRow) (crls more_crls : List Crl) (n : ℕ) (revocation : RevocationRow) (certificate : CertRow)
    → certificate_in rows revocation.serial ≡ Some certificate → AllByRecursion (λ crl. n ≤ crl.number) more_crls
    → is_listed_on (rows ++ more_rows) (crls ++ more_crls) n revocation ≡ is_listed_on rows crls n revocation
is_on_added rows more_rows crls more_crls n revocation certificate found above =
    ap (λ past. nat_le revocation.first n && not past) (any_past after crls more_crls late ∙ any_same after before crls ends_alike)
  where
    after : Crl → Bool
    after crl = nat_lt crl.number n && ends_listing (rows ++ more_rows) revocation crl

    before : Crl → Bool
    before crl = nat_lt crl.number n && ends_listing rows revocation crl

    late : AllByRecursion (λ crl. IsFalse (after crl)) more_crls
    late = all_weaker _ _ (λ crl least. grind (arith, nat_tests)) more_crls above

    ends_alike : AllByRecursion (λ crl. after crl ≡ before crl) crls
    ends_alike = all_any _ (λ crl. ap (λ past. nat_lt crl.number n && past) (is_past_on_kept rows more_rows revocation crl certificate found)) crls

-- what the CRL with a number up to the next lists of the recorded revocations stays as it was
old_content_kept : (before after : Records) → SoundRows before → Grows before after → (n : ℕ) → n ≤ length before.crls + 1
    → filter (is_listed_on after.certificates after.crls n) before.revocations ≡ listed_revocations before n
old_content_kept before after sound grows n recorded = filter_same _ _ before.revocations (all_weaker _ _ still_listed before.revocations sound.revocations.each)
  where
    above : AllByRecursion (λ crl. n ≤ crl.number) grows.more_crls
    above = all_weaker _ _ (λ crl new. omega arith) grows.more_crls grows.new_numbers

    still_listed : (revocation : RevocationRow) → SoundRevocation before.last before.certificates before.requests before.crls revocation
        → is_listed_on after.certificates after.crls n revocation ≡ is_listed_on before.certificates before.crls n revocation
    still_listed revocation holds =
        let found =
        some_and_of (λ certificate. revocation.at ≤ certificate.not_after) (certificate_in before.certificates revocation.serial) holds.within_validity in
        ap₂ (λ (rows : List CertRow) (crls : List Crl). is_listed_on rows crls n revocation) grows.certificates grows.crls
        ∙ is_on_added before.certificates grows.more_certificates before.crls grows.more_crls n revocation found.0 found.1 above

-- what a recorded CRL lists stays as it was
pub content_kept : (before after : Records) → SoundRows before → Grows before after → (n : ℕ) → n ≤ length before.crls → listed_revocations after n ≡ listed_revocations before n
content_kept before after sound grows n recorded =
    ap (filter test) grows.revocations ∙ filter-append test before.revocations grows.more_revocations
    ∙ ap₂ ◌++◌ (old_content_kept before after sound grows n (omega arith)) (filter_none test grows.more_revocations fails) ∙ append-nil (listed_revocations before n)
  where
    test : RevocationRow → Bool
    test = is_listed_on after.certificates after.crls n

    fails : AllByRecursion (λ revocation. IsFalse (test revocation)) grows.more_revocations
    fails = all_weaker _ _ (λ revocation new. grind (arith, nat_tests)) grows.more_revocations grows.new_firsts

-- what is signed in a CRL is determined by what it lists
cert_list_by : (before after : Records) (n this_update : ℕ) → after.issuer ≡ before.issuer → after.policy ≡ before.policy → listed_revocations after n ≡ listed_revocations before n
    → cert_list after n this_update ≡ cert_list before n this_update
cert_list_by before after n this_update issuer policy listed =
    λ i. record {
      issuer = issuer i;
      number = n;
      this_update = this_update;
      next_update = this_update + (policy i).crl_life;
      entries = ascending
          (map entry_of (listed i));
    }

-- what is signed in a recorded CRL stays as it was
pub cert_list_kept : (before after : Records) → SoundRows before → Grows before after → (n this_update : ℕ) → n ≤ length before.crls
    → cert_list after n this_update ≡ cert_list before n this_update
cert_list_kept before after sound grows n this_update recorded =
    cert_list_by before after n this_update grows.issuer grows.policy (content_kept before after sound grows n recorded)

-- and where no revocation is added, that of the next CRL
pub next_cert_list_kept : (before after : Records) → SoundRows before → Grows before after → after.revocations ≡ before.revocations → (n this_update : ℕ)
    → n ≤ length before.crls + 1 → cert_list after n this_update ≡ cert_list before n this_update
next_cert_list_kept before after sound grows same n this_update recorded =
    cert_list_by before after n this_update grows.issuer grows.policy
    (ap (filter (is_listed_on after.certificates after.crls n)) same ∙ old_content_kept before after sound grows n recorded)
