-- The signers of an office's CRLs and OCSP responses, and how many failures they have counted.
use Rattle.std.specs.Prelude.{◌≡◌, ◌<◌, ℕ, Some, None, option_copied, option_map}
use Rattle.reg_crl.specs.Signing.{Identity}
use Rattle.reg_crl.specs.declared.signer.Signer.{Ghosts as Signer}
use Rattle.reg_office_api.specs.Signers.{Responder, OfficeSigners}
use Rattle.reg_office_reads.specs.declared.responder.ResponderFields.{ResponderFields}
use Rattle.reg_office_reads.specs.declared.responder.Responder.{Responder as Held}
use Rattle.reg_office_reads.specs.declared.responder.Responder.TheVariants.{Issuer, Delegate}

-- the responder with this identity, and with the key and certificate of these fields
abbrev pub responder_named : Identity → ResponderFields → Responder
responder_named identity responder_fields = record {
  identity = identity;
  own_key = option_copied responder_fields.own_key;
  certificate = option_copied responder_fields.certificate;
}

-- the responder, given the identity of the signer of CRLs: that signer, named by the issuer's key; or another one, named by its certificate's key
abbrev pub answers_by : {S : Type 0} → (S → Identity) → Identity → Held S → Responder
answers_by identity crls (Issuer certificate) = record {
  identity = crls;
  own_key = None;
  certificate = option_map (λ it. it.der) certificate;
}
answers_by identity crls (Delegate signer certificate) = record {
  identity = identity signer;
  own_key = Some certificate.key;
  certificate = Some certificate.der;
}

-- the signers of an office
abbrev pub signers_of : {S : Type 0} → (S → Identity) → Identity → Held S → OfficeSigners
signers_of identity crls responder = record { crls = crls; answers = answers_by identity crls responder }

-- how many failures the responder has counted, given the count of the signer of CRLs
abbrev pub failures_of : {S : Type 0} → (S → ℕ) → ℕ → Held S → ℕ
failures_of count crls (Issuer certificate) = crls
failures_of count crls (Delegate signer certificate) = count signer

-- the responder, given the signer of CRLs
abbrev pub answering : {S : Type 0} → Signer S → S → Held S → Responder
answering signer crls responder = answers_by signer.identity (signer.identity crls) responder

-- the signers of an office have the same identities as before
abbrev pub SameSigners : {S : Type 0} → Signer S → S → Held S → S → Held S → Type 0
SameSigners signer old answered new answers =
    signers_of signer.identity (signer.identity new) answers
    ≡ signers_of signer.identity (signer.identity old) answered

-- a signer counted a failure
abbrev pub SignerHasFailed : {S : Type 0} → Signer S → S → S → Type 0
SignerHasFailed signer old new = signer.failure_count old < signer.failure_count new

-- the responder counted a failure
abbrev pub ResponderHasFailed : {S : Type 0} → Signer S → S → Held S → S → Held S → Type 0
ResponderHasFailed signer old answered new answers =
    failures_of signer.failure_count (signer.failure_count old) answered
    < failures_of signer.failure_count (signer.failure_count new) answers
