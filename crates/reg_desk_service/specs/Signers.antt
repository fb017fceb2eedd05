-- The signers with which a register is opened.
use Rattle.std.specs.Prelude.{◌≡◌, ◌⊎◌, ℕ, List, [], Option, Some, None, IfSome, MatchOption, option_map}
use Rattle.reg_office_api.specs.Signers.{Responder, OfficeSigners, signs_both}
use Rattle.reg_core.specs.Crls.{latest}
use Rattle.reg_core.specs.Records.{Crl, Records}
use Rattle.reg_crl.specs.Signing.{Identity}
use Rattle.reg_ocsp.specs.Certificate.{IsCertificateOf}
use Rattle.reg_crl_signer.specs.Algorithms.{key_identifier_of}
use Rattle.reg_crl_signer.specs.declared.algorithm.Algorithm.{Algorithm}
use Rattle.reg_crl_signer.specs.KeyOrDigestSignatures.{digest}
use Rattle.reg_crl_signer.specs.Forms.{identity_of}
use Rattle.reg_crl_signer.specs.Signed.{IsCrlWithAlgorithm}
use Rattle.reg_desk_service.specs.SignerAnswers.{AnsweredAtPath}
use Rattle.reg_desk_service.specs.declared.crl_signer.CrlSignerChoice.{CrlSignerChoice}
use Rattle.reg_desk_service.specs.declared.crl_signer.CrlSignerChoice.TheVariants.{NoSigner, Digest, KeyAt}
use Rattle.reg_desk_cli.specs.declared.job.ResponderChoice.{ResponderChoice}
use Rattle.reg_desk_cli.specs.declared.job.ResponderChoice.TheVariants.{Issuer, Delegate}
use Rattle.reg_desk_cli.specs.declared.job.SignerAddress.{SignerAddress}

-- the signer of CRLs that the options name. Without one, a placeholder digest; but no signer if the OCSP responder has a key of its own
abbrev pub crl_signer_of : Option SignerAddress → ResponderChoice → CrlSignerChoice
crl_signer_of (Some address) responder = KeyAt address
crl_signer_of None (Issuer certificate) = Digest
crl_signer_of None (Delegate certificate address) = NoSigner

-- the signers with which a register is opened: that of its CRLs, and that of OCSP responses
abbrev pub Signing : Type 0
Signing = CrlSignerChoice × ResponderChoice

-- the signers that the options name
abbrev pub signing_with : Option SignerAddress → ResponderChoice → Signing
signing_with signer responder = (crl_signer_of signer responder, responder)

-- the signer of CRLs signs OCSP responses too, without a certificate in them
abbrev pub issuer_responds : ResponderChoice
issuer_responds = Issuer None

-- the signers for a job that signs nothing
abbrev pub unsigned : Signing
unsigned = (NoSigner, issuer_responds)

-- the signer of CRLs of a register that only takes CRLs from elsewhere: no socket can be at the empty path
abbrev pub unreachable_signer : Option Algorithm → CrlSignerChoice
unreachable_signer None = Digest
unreachable_signer (Some algorithm) = KeyAt (record { socket = []; algorithm = algorithm })

-- the signers for a job that enters CRLs with this algorithm, or with a placeholder digest, and signs nothing
abbrev pub entering : Option Algorithm → Signing
entering algorithm = (unreachable_signer algorithm, issuer_responds)

-- a certificate for OCSP responses is given
abbrev pub HasCertificate : ResponderChoice → Type 0
HasCertificate (Issuer None) = ⊥
HasCertificate (Issuer (Some path)) = Unit {0}
HasCertificate (Delegate path address) = Unit {0}

-- the path of the socket of the signer of CRLs, if there is one
abbrev pub crl_socket : Option SignerAddress → Option (List ℕ)
crl_socket signer = option_map (λ address. address.socket) signer

-- the path of the socket of the signer of OCSP responses, if there is one: the delegated responder's, or that of the signer of CRLs
abbrev pub answer_socket : Option SignerAddress → ResponderChoice → Option (List ℕ)
answer_socket signer (Issuer certificate) = crl_socket signer
answer_socket signer (Delegate certificate address) = Some address.socket

-- the signer of OCSP responses gave this answer for this message
abbrev pub AnsweredByOcspSigner
    : (List ℕ → List ℕ → List ℕ → Type 0) → Option SignerAddress → ResponderChoice → List ℕ → List ℕ → Type 0
AnsweredByOcspSigner signer_answered signer responder =
    AnsweredAtPath signer_answered (answer_socket signer responder)

-- the identity of a signer of CRLs: its algorithm with the issuer's key (RFC 5280 4.1.2.7); or that of the placeholder digest, without a signer
abbrev pub identity_of_signer : Option SignerAddress → List ℕ → Identity
identity_of_signer None key = digest
identity_of_signer (Some address) key = identity_of address.algorithm key

-- the signer of CRLs with which a register is opened: the given one, or the placeholder digest; with `NoSigner`, any that could be given
abbrev pub IsSigning : CrlSignerChoice → List ℕ → Identity → Type 0
IsSigning NoSigner key identity = (signer : Option SignerAddress) × (identity ≡ identity_of_signer signer key)
IsSigning Digest key identity = identity ≡ identity_of_signer None key
IsSigning (KeyAt address) key identity = identity ≡ identity_of_signer (Some address) key

-- a responder with a certificate of its own (RFC 6960 4.2.2.2): it signs with the key of that certificate, which fits the algorithm, and is
-- identified by that key; the certificate is in each response
pub record IsDelegate (address : SignerAddress) (responder : Responder) : Type 0 where
  pub certificate : List ℕ
  pub key : List ℕ
  pub certified : IsCertificateOf certificate (key_identifier_of address.algorithm) key
  pub is : responder ≡ record {
    identity = identity_of address.algorithm key;
    own_key = Some key;
    certificate = Some certificate;
  }

-- the given responder, besides the signer of CRLs: it is that signer, perhaps with a certificate; or a delegated responder
abbrev pub IsAnswering : ResponderChoice → OfficeSigners → Type 0
IsAnswering (Issuer None) signers = signers ≡ signs_both signers.crls
IsAnswering (Issuer (Some path)) signers =
    (certificate : List ℕ)
    × (signers.answers ≡ record {
      identity = signers.crls;
      own_key = None;
      certificate = Some certificate;
    })
IsAnswering (Delegate path address) signers = IsDelegate address signers.answers

-- a certificate in OCSP responses that the signer of CRLs signs has this key, the issuer's
abbrev pub EmbeddedKeyFits : List ℕ → Responder → Type 0
EmbeddedKeyFits key responder =
    MatchOption responder.own_key
    (IfSome responder.certificate (λ certificate.
    (algorithm : List ℕ) × IsCertificateOf certificate algorithm key))
    (λ own. Unit {0})

-- a CRL with an algorithm may follow one with an earlier algorithm: they are equal, or the earlier one is the placeholder digest, which a
-- signature may replace (RFC 5280 5.1.1.2)
abbrev pub MayFollow : List ℕ → List ℕ → Type 0
MayFollow algorithm earlier = (earlier ≡ algorithm) ⊎ (earlier ≡ digest.algorithm)

-- if there is a latest CRL, a CRL with this algorithm may follow it
abbrev pub Follows : Records → List ℕ → Type 0
Follows records algorithm =
    (crl : Crl) → latest records.crls ≡ Some crl → (other : List ℕ) → IsCrlWithAlgorithm crl.bytes other
    → MayFollow algorithm other
