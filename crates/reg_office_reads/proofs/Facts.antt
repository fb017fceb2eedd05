-- What the records allow of changes that were decided.
use Rattle.std.specs.Option.{ok_or}
use Rattle.std.specs.Prelude.{Ok, IsSomeAnd}
use Rattle.std.proofs.Common.{◌≡◌, ◌≤◌, ℕ, Bool, List, Option, Some, None, sym, ap, subst, ◌∙◌}
use Rattle.std.proofs.lemmas.Option.{same_Some}
use Rattle.reg_core.specs.Changes.{Fits}
use Rattle.reg_core.specs.Crls.{CertList}
use Rattle.reg_core.specs.Records.{Records, certificate_in, revocation_in}
use Rattle.reg_core.specs.Sound.{SoundRows}
use Rattle.reg_core.specs.Step.{certificate_of_request}
use Rattle.reg_core.specs.declared.change.Change.TheVariants.{Certificate, Revocation}
use Rattle.reg_core.specs.declared.rows.CertRow.{CertRow}
use Rattle.reg_core.specs.declared.rows.RequestRow.{RequestRow}
use Rattle.reg_core.specs.declared.rows.RevocationRow.{RevocationRow}
use Rattle.reg_core_laws.proofs.PublicLaws.{accepted_register, accepted_revoke, AcceptsRegistration, AcceptsRevocation}

-- a certificate is added whose serial number is new, and which has not ended
pub registrable :
    (signed : CertList → List ℕ → Type 0) (records : Records) (now : ℕ) (wanted row : CertRow)
    → AcceptsRegistration signed records now wanted row → Fits records now (Certificate row)
registrable signed records now wanted row says =
    let meant = accepted_register records now wanted.order wanted.serial wanted.not_before wanted.not_after says.accepts.accepted says.first_time in (
      subst (λ (r : CertRow). certificate_in records.certificates r.serial ≡ None) (sym says.row_is) meant.free_serial,
      subst (λ (r : CertRow). now ≤ r.not_after) (sym says.row_is) meant.live,
    )

-- a revocation is added of the request's certificate, which is not revoked and has not ended
pub revocable :
    (signed : CertList → List ℕ → Type 0) (records : Records) (now id : ℕ) (answer : RevocationRow × Bool) (certificate : CertRow)
    → SoundRows records → certificate_of_request records id ≡ Some certificate
    → AcceptsRevocation signed records now id answer → Fits records now (Revocation answer.0 certificate.not_after)
revocable signed records now id answer certificate sound certificate_is says =
    let meant = accepted_revoke records now id sound says.accepts.accepted in
    let same : meant.request ≡ says.request = same_Some _ _ (sym meant.found ∙ says.request_is) in
    let serial : answer.0.serial ≡ meant.request.serial =
    ap (λ (r : RevocationRow). r.serial) says.row_is ∙ ap (λ (r : RequestRow). r.serial) (sym same) in
    let of_request : certificate_of_request records id ≡ Some meant.certificate = rw meant.found meant.registered in
    let known : meant.certificate ≡ certificate = same_Some _ _ (sym of_request ∙ certificate_is) in (
      ap (revocation_in records.revocations) serial ∙ meant.not_revoked,
      subst
          (λ (o : Option CertRow). IsSomeAnd o (λ row. row.not_after ≡ certificate.not_after))
          (sym (ap (certificate_in records.certificates) serial ∙ meant.registered))
          (ap (λ (row : CertRow). row.not_after) known),
      subst (λ (row : CertRow). now ≤ row.not_after) known meant.live,
      ap (λ (r : RevocationRow). r.first) says.row_is,
    )

-- what is found where its absence would be a fault
pub found_of : {T E : Type 0} (found : Option T) (fault : E) (row : T) → Ok row ≡ ok_or found fault → found ≡ Some row
found_of (Some other) fault row is = let same : Some other ≡ Some row = cc in same
found_of None fault row is = absurd (let bad : ⊥ = cc in bad)
