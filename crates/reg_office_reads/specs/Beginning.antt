-- The response to an OCSP request, or a draft of it that is not signed yet.
use Rattle.std.specs.Prelude.{◌≡◌, ◌⊎◌, ◌↔◌, ℕ, ◌+◌, List, Option, Some, None, Result, Ok, Err, IsSome, Vec, unwrap_or}
use Rattle.reg_core.specs.Checks.{clock_checks, first_refusal}
use Rattle.reg_core.specs.Issuer.{Issuer}
use Rattle.reg_core.specs.Records.{Records}
use Rattle.reg_ocsp.specs.Drafts.{Drafted, drafted_response}
use Rattle.reg_ocsp.specs.Request.{Id}
use Rattle.reg_ocsp.specs.Response.{refusal_response}
use Rattle.reg_ocsp.specs.declared.response.RefusalStatus.TheVariants as status
use Rattle.reg_office_api.specs.CallSteps.{Signs}
use Rattle.reg_office_api.specs.Drafts.{IsBy, IsDraft}
use Rattle.reg_office_api.specs.Ocsp.{IsNoOcspRequest, IsOcspData, response_signed_by}
use Rattle.reg_office_api.specs.Responses.{IsOcspResponse}
use Rattle.reg_office_api.specs.Signers.{Responder}
use Rattle.reg_office_api.specs.declared.response.OcspResponse.{OcspResponse}
use Rattle.reg_office_api.specs.declared.response.ResponseKind.{ResponseKind}
use Rattle.reg_office_api.specs.declared.response.ResponseKind.TheVariants.{Signed, SignerFailure}
use Rattle.reg_io.specs.declared.begun.ReadyOrUnsigned.{ReadyOrUnsigned}
use Rattle.reg_io.specs.declared.begun.ReadyOrUnsigned.TheVariants.{Ready, Unsigned}
use Rattle.reg_office_reads.specs.declared.ocsp_faults.ResponseFault.{ResponseFault}
use Rattle.reg_office_reads.specs.declared.ocsp_faults.ResponseFault.TheVariants as fault

-- the response to the bytes of a request, or a draft of it
abbrev pub IsBegun : Signs → Responder → Records → ℕ → List ℕ → ReadyOrUnsigned OcspResponse Drafted → Type 0
IsBegun signs responder records now request (Ready response) =
    IsOcspResponse signs responder records now request response.kind response.bytes.items
IsBegun signs responder records now request (Unsigned draft) = IsDraft responder records now request draft

-- In any state of the store, a ready response is malformedRequest exactly if the bytes are no request, and internalError if the signer failed. A
-- draft is made only if the bytes are a request.
abbrev pub RefusesRequest : List ℕ → ReadyOrUnsigned OcspResponse Drafted → Type 0
RefusesRequest request (Ready response) =
    ((response.bytes.items ≡ refusal_response status.Malformed) ↔ IsNoOcspRequest request)
    × (response.kind ≡ SignerFailure → response.bytes.items ≡ refusal_response status.Internal)
RefusesRequest request (Unsigned left) = ¬ (IsNoOcspRequest request)

-- the bytes of the response of a draft: with a signature by the responder, or internalError
abbrev pub IsSignedBy : Signs → Responder → Drafted → List ℕ → Type 0
IsSignedBy signs responder draft bytes =
    (bytes ≡ refusal_response status.Internal)
    ⊎ ((signature : List ℕ) × signs responder.identity draft.message signature
    × (bytes ≡ drafted_response draft (Some signature)))

-- the key that names a responder: its own, or the issuer's
abbrev pub key_in : Records → Option (List ℕ) → List ℕ
key_in records own = unwrap_or own records.issuer.key

-- the issuer, and now plus the life of an OCSP answer; or the clock checks refuse this moment; or out of memory, or the store failed
abbrev pub IsResponding : Records → ℕ → Result (Issuer × ℕ) ResponseFault → Type 0
IsResponding records now (Ok it) =
    (first_refusal (clock_checks now records.last) ≡ None) × (it.0 ≡ records.issuer)
    × (it.1 ≡ now + records.policy.ocsp_life)
IsResponding records now (Err fault.Clock) = IsSome (first_refusal (clock_checks now records.last))
IsResponding records now (Err fault.Memory) = Unit {0}
IsResponding records now (Err fault.Store) = Unit {0}

-- the ResponseData for a request that was read; or the clock checks refuse this moment; or out of memory, or the store failed
abbrev pub IsMessage : {Z : Type 0} → List ℕ → Records → ℕ → List Id → Option (List ℕ)
    → Result (Vec ℕ Z) ResponseFault → Type 0
IsMessage key records now ids echo (Ok bytes) =
    (first_refusal (clock_checks now records.last) ≡ None) × IsOcspData key records now ids echo bytes.items
IsMessage key records now ids echo (Err fault.Clock) = IsSome (first_refusal (clock_checks now records.last))
IsMessage key records now ids echo (Err fault.Memory) = Unit {0}
IsMessage key records now ids echo (Err fault.Store) = Unit {0}

-- a ready response of this kind, with these bytes
abbrev pub IsReady : ResponseKind → List ℕ → ReadyOrUnsigned OcspResponse Drafted → Type 0
IsReady kind bytes (Ready response) = (response.kind ≡ kind) × (response.bytes.items ≡ bytes)
IsReady kind bytes (Unsigned draft) = ⊥

-- the response with this ResponseData: signed; or internalError, if the signer failed; or a draft for the responder to sign
abbrev pub IsResponseOver : Signs → Responder → List ℕ → ReadyOrUnsigned OcspResponse Drafted → Type 0
IsResponseOver signs responder message (Ready response) =
    ((response.kind ≡ Signed) × response_signed_by signs responder message response.bytes.items)
    ⊎ IsReady SignerFailure (refusal_response status.Internal) (Ready response)
IsResponseOver signs responder message (Unsigned draft) = (draft.message ≡ message) × IsBy responder draft
