-- The response to an OCSP request, from the records of a register (RFC 6960 2.2, 2.3, 4.2.1).
use Rattle.std.specs.Prelude.{◌≡◌, ℕ, ◌+◌, ◌⊎◌, List, Option, Some, None}
use Rattle.std.specs.List.{AllZip}
use Rattle.reg_core.specs.Checks.{clock_checks, first_refusal}
use Rattle.reg_core.specs.Records.{Records}
use Rattle.reg_core.specs.Status.{status}
use Rattle.reg_core.specs.declared.command.Status.{Status}
use Rattle.reg_core.specs.declared.command.Status.TheVariants.{Unknown}
use Rattle.reg_core.specs.declared.refusal.Refusal.{Refusal}
use Rattle.reg_ocsp.specs.Matching.{IsMatch}
use Rattle.reg_ocsp.specs.Request.{Id, IsOcspRequest}
use Rattle.reg_ocsp.specs.Response.{SingleAnswer, ocsp_response, refusal_response, response_data}
use Rattle.reg_ocsp.specs.declared.response.RefusalStatus.TheVariants.{Malformed, Internal, TryLater}
use Rattle.reg_office_api.specs.Signers.{Responder, Signs, responder_key}

-- the bytes are no OCSP request that `IsOcspRequest` accepts (RFC 6960 4.1.1)
abbrev pub IsNoOcspRequest : List ℕ → Type 0
IsNoOcspRequest bytes = (ids : List Id) (nonce : Option (List ℕ)) → ¬ (IsOcspRequest bytes ids nonce)

-- the status for a CertID: that of the serial number, if the CertID identifies a certificate of the issuer; else unknown (RFC 6960 2.2)
abbrev pub IsStatusFor : Records → ℕ → Id → Status → Type 0
IsStatusFor records now id reported =
    ((serial : ℕ) × IsMatch records.issuer id serial × (reported ≡ status records serial now))
    ⊎ (((serial : ℕ) → ¬ (IsMatch records.issuer id serial)) × (reported ≡ Unknown))

-- the answer for a CertID: the CertID, repeated byte for byte, and its status (SingleResponse, RFC 6960 4.2.1)
pub record IsAnswer (records : Records) (now : ℕ) (id : Id) (answer : SingleAnswer) : Type 0 where
  pub repeated : answer.raw ≡ id.raw
  pub status_is : IsStatusFor records now id answer.status

-- the ResponseData of the records at a moment, with the key that names the responder: one answer for each CertID, in the order of the
-- request, valid from this moment on for the policy's life of OCSP answers; and the nonce (RFC 6960 4.2.1)
pub record IsOcspData (key : List ℕ) (records : Records) (now : ℕ) (ids : List Id) (nonce : Option (List ℕ))
    (tbs : List ℕ) : Type 0 where
  pub answers : List SingleAnswer
  pub each : AllZip (IsAnswer records now) ids answers
  pub spelled : tbs ≡ response_data key now (now + records.policy.ocsp_life) answers nonce

-- The bytes are a signed response: they are the OCSPResponse with the ResponseData, the responder's algorithm, a signature of the
-- ResponseData by the responder, and the responder's certificate, if the responses include one
-- (RFC 6960 4.2.1, 4.2.2.2).
abbrev pub response_signed_by : Signs → Responder → List ℕ → List ℕ → Type 0
response_signed_by signs responder tbs bytes =
    (signature : List ℕ)
    × signs responder.identity tbs signature
    × (bytes ≡ ocsp_response tbs responder.identity.algorithm signature responder.certificate)

-- the whole response: the ResponseData of the records, signed
pub record IsResponse (signs : Signs) (responder : Responder) (records : Records) (now : ℕ)
    (ids : List Id) (nonce : Option (List ℕ)) (bytes : List ℕ) : Type 0 where
  pub tbs : List ℕ
  pub of_records : IsOcspData (responder_key responder records) records now ids nonce tbs
  pub signed : response_signed_by signs responder tbs bytes

-- tryLater if the clock checks refuse the moment, else a response of which `IsWhole` holds
abbrev pub IsTimely : Option Refusal → (List ℕ → Type 0) → List ℕ → Type 0
IsTimely (Some refusal) IsWhole bytes = bytes ≡ refusal_response TryLater
IsTimely None IsWhole bytes = IsWhole bytes

-- the response to a request that was read: internalError; or else tryLater if the moment is at or past `clock_end`, or before
-- the last accepted one; else the whole response
abbrev pub IsReadReply : Signs → Responder → Records → ℕ → List Id → Option (List ℕ) → List ℕ → Type 0
IsReadReply signs responder records now ids nonce bytes =
    (bytes ≡ refusal_response Internal)
    ⊎ IsTimely (first_refusal (clock_checks now records.last))
    (IsResponse signs responder records now ids nonce) bytes

-- the response to any bytes: malformedRequest if they are no request, else the response to the request
abbrev pub IsOcspReply : Signs → Responder → Records → ℕ → List ℕ → List ℕ → Type 0
IsOcspReply signs responder records now request bytes =
    (IsNoOcspRequest request × (bytes ≡ refusal_response Malformed))
    ⊎ ((ids : List Id)
    × (nonce : Option (List ℕ))
    × IsOcspRequest request ids nonce
    × IsReadReply signs responder records now ids nonce bytes)
