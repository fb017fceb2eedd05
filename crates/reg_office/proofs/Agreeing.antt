-- Each answer over sound records agrees with them.
use Rattle.std.proofs.Common.{◌≡◌, ℕ, Bool, true, false, cond, nat_lt, List, [], ◌∷◌, Option, Some, None, inl, inr, refl, sym, ap, ◌∙◌, arith}
use Rattle.std.specs.List.{AllZip}
use Rattle.reg_core.specs.Crls.{entries}
use Rattle.reg_core.specs.Issuer as core
use Rattle.reg_core.specs.Records.{Records, certificate_in, revocation_in}
use Rattle.reg_core.specs.Sound.{SoundRows}
use Rattle.reg_core.specs.Status.{status, status_by}
use Rattle.reg_core.specs.declared.command.Status.{Status}
use Rattle.reg_core.specs.declared.command.Status.TheVariants.{Unknown, Good, Expired, Revoked}
use Rattle.reg_core.specs.declared.rows.CertRow.{CertRow}
use Rattle.reg_core.specs.declared.rows.Entry.{Entry}
use Rattle.reg_core.specs.declared.rows.RevocationRow.{RevocationRow}
use Rattle.reg_der.proofs.PublicLaws.{one_number}
use Rattle.reg_core_laws.specs.Headline.{IsDueEntry}
use Rattle.reg_core_laws.proofs.PublicLaws.{due_entries, revoked_for_good, all_weaker}
use Rattle.reg_ocsp.specs.Matching.{IsMatch}
use Rattle.reg_ocsp.specs.Request.{Id}
use Rattle.reg_ocsp.specs.Response.{SingleAnswer, cert_status}
use Rattle.reg_office.specs.Agreement.{Agrees, OcspAgrees}
use Rattle.reg_office_api.specs.Ocsp.{IsAnswer, IsStatusFor}

-- a CertID names one certificate of the issuer at most
one_match : (issuer : core.Issuer) (id : Id) (first second : ℕ) → IsMatch issuer id first → IsMatch issuer id second → first ≡ second
one_match issuer id first second here there =
    let below_first = here.in_range.1 in
    let below_second = there.in_range.1 in
    one_number first second (omega arith) (omega arith) (sym here.spelled ∙ there.spelled)

-- a CertID that names one is told its status
status_of_match
    : (records : Records) (now : ℕ) (id : Id) (reported : Status)
    → IsStatusFor records now id reported
    → (serial : ℕ)
    → IsMatch records.issuer id serial
    → reported ≡ status records serial now
status_of_match records now id reported (inl named) serial match =
    named.2 ∙ ap (λ (n : ℕ). status records n now) (one_match records.issuer id named.0 serial named.1 match)
status_of_match records now id reported (inr unnamed) serial match = absurd (unnamed.0 serial match)

-- and one that names none is told unknown
status_of_none
    : (records : Records) (now : ℕ) (id : Id) (reported : Status)
    → IsStatusFor records now id reported
    → ((serial : ℕ) → ¬ (IsMatch records.issuer id serial))
    → reported ≡ Unknown
status_of_none records now id reported (inl named) none = absurd (none named.0 named.1)
status_of_none records now id reported (inr unnamed) none = unnamed.1

good_either : (past : Bool) → cert_status (cond past Expired Good) ≡ cert_status Good
good_either true = refl
good_either false = refl

-- a certificate that is not revoked is told good, also past its end
status_good
    : (records : Records) (now serial : ℕ) (certificate : CertRow)
    → certificate_in records.certificates serial ≡ Some certificate
    → revocation_in records.revocations serial ≡ None
    → cert_status (status records serial now) ≡ cert_status Good
status_good records now serial certificate found none =
    ap (λ (row : Option CertRow). cert_status (status_by now row (revocation_in records.revocations serial))) found
    ∙ ap (λ (row : Option RevocationRow). cert_status (status_by now (Some certificate) row)) none
    ∙ good_either (nat_lt certificate.not_after now)

-- one that is not registered is unknown
status_unknown
    : (records : Records) (now serial : ℕ)
    → certificate_in records.certificates serial ≡ None
    → status records serial now ≡ Unknown
status_unknown records now serial none =
    ap (λ (row : Option CertRow). status_by now row (revocation_in records.revocations serial)) none

revoked_by : (entry : Entry) (serial : ℕ) (revocation : RevocationRow)
    → entry ≡ record { serial = serial; at = revocation.at; reason = revocation.reason }
    → Revoked revocation.at revocation.reason ≡ Revoked entry.at entry.reason
revoked_by entry serial revocation entry_is = sym (ap (λ (e : Entry). Revoked e.at e.reason) entry_is)

agrees
    : (records : Records) (now : ℕ) (id : Id) (answer : SingleAnswer)
    → SoundRows records
    → IsAnswer records now id answer
    → Agrees records id answer
agrees records now id answer sound its = record {
  repeated = its.repeated;
  revoked = revoked;
  good = λ serial certificate match found none.
      ap cert_status (status_of_match records now id answer.status its.status_is serial match)
      ∙ status_good records now serial certificate found none;
  unregistered = λ serial match none.
      status_of_match records now id answer.status its.status_is serial match ∙ status_unknown records now serial none;
  unmatched = status_of_none records now id answer.status its.status_is;
  listed = λ n.
      all_weaker
      (IsDueEntry records n)
      (λ entry. IsMatch records.issuer id entry.serial → answer.status ≡ Revoked entry.at entry.reason)
      (λ entry due match.
      revoked entry.serial due.revocation match due.revoked ∙ revoked_by entry entry.serial due.revocation due.entry_is)
      (entries records n)
      (due_entries records n sound);
}
  where
    revoked
        : (serial : ℕ) (revocation : RevocationRow)
        → IsMatch records.issuer id serial
        → revocation_in records.revocations serial ≡ Some revocation
        → answer.status ≡ Revoked revocation.at revocation.reason
    revoked serial revocation match found =
        status_of_match records now id answer.status its.status_is serial match
        ∙ revoked_for_good records serial revocation sound found now

all_agree
    : (records : Records) (now : ℕ) (ids : List Id) (answers : List SingleAnswer)
    → SoundRows records
    → AllZip (IsAnswer records now) ids answers
    → AllZip (Agrees records) ids answers
all_agree records now [] [] sound each = tt
all_agree records now [] (answer ∷ answers) sound each = each
all_agree records now (id ∷ ids) [] sound each = each
all_agree records now (id ∷ ids) (answer ∷ answers) sound each =
    (agrees records now id answer sound each.0, all_agree records now ids answers sound each.1)

pub ocsp_agrees : OcspAgrees
ocsp_agrees key records now ids repeated tbs sound its = all_agree records now ids its.answers sound its.each
