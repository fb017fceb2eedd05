-- OCSP statuses agree with the register, and with its CRLs.
use Rattle.std.specs.Prelude.{◌≡◌, ℕ, List, Option, Some, None}
use Rattle.std.specs.List.{AllByRecursion, AllZip}
use Rattle.reg_core.specs.Crls.{entries}
use Rattle.reg_core.specs.Records.{Records, certificate_in, revocation_in}
use Rattle.reg_core.specs.Sound.{SoundRows}
use Rattle.reg_core.specs.declared.command.Status.TheVariants.{Unknown, Good, Revoked}
use Rattle.reg_core.specs.declared.rows.CertRow.{CertRow}
use Rattle.reg_core.specs.declared.rows.RevocationRow.{RevocationRow}
use Rattle.reg_ocsp.specs.Matching.{IsMatch}
use Rattle.reg_ocsp.specs.Request.{Id}
use Rattle.reg_ocsp.specs.Response.{SingleAnswer, cert_status}
use Rattle.reg_office_api.specs.Ocsp.{IsOcspData}

-- An answer agrees with the records. If its CertID identifies the issuer's certificate with a serial number, the answer says revoked, with
-- the recorded moment and reason, if the serial number is revoked; good if it is registered and not revoked; unknown if it is
-- not registered. If the CertID identifies none, the answer says unknown. If the serial number is in the entries of any CRL number, the answer
-- says revoked, with that entry's moment and reason.
pub record Agrees (records : Records) (id : Id) (answer : SingleAnswer) : Type 0 where
  pub repeated : answer.raw ≡ id.raw
  pub revoked : (serial : ℕ) (revocation : RevocationRow)
      → IsMatch records.issuer id serial
      → revocation_in records.revocations serial ≡ Some revocation
      → answer.status ≡ Revoked revocation.at revocation.reason
  pub good : (serial : ℕ) (certificate : CertRow)
      → IsMatch records.issuer id serial
      → certificate_in records.certificates serial ≡ Some certificate
      → revocation_in records.revocations serial ≡ None
      → cert_status answer.status ≡ cert_status Good
  pub unregistered : (serial : ℕ)
      → IsMatch records.issuer id serial
      → certificate_in records.certificates serial ≡ None
      → answer.status ≡ Unknown
  pub unmatched : ((serial : ℕ) → ¬ (IsMatch records.issuer id serial)) → answer.status ≡ Unknown
  pub listed : (n : ℕ)
      → AllByRecursion
      (λ entry. IsMatch records.issuer id entry.serial → answer.status ≡ Revoked entry.at entry.reason)
      (entries records n)

-- OCSP statuses agree: in every ResponseData of sound records, with any key, at every moment, each answer agrees with the records
abbrev pub OcspAgrees : Type 0
OcspAgrees =
    (key : List ℕ)
    (records : Records)
    (now : ℕ)
    (ids : List Id)
    (nonce : Option (List ℕ))
    (tbs : List ℕ)
    → SoundRows records
    → (its : IsOcspData key records now ids nonce tbs)
    → AllZip (Agrees records) ids its.answers
