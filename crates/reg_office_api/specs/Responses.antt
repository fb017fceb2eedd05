-- OCSP responses by their kind (RFC 6960 4.2.1), and what a kind says about the signature and the store.
use Rattle.std.specs.Prelude.{◌≡◌, ◌⊎◌, ℕ, List, Option, Some, None, Result, Ok, Err}
use Rattle.reg_core.specs.Checks.{clock_checks, first_refusal}
use Rattle.reg_core.specs.Records.{Records}
use Rattle.reg_core.specs.declared.memory.Memory.{Memory as NoMemory}
use Rattle.reg_core.specs.declared.refusal.Fault.{Fault}
use Rattle.reg_core.specs.declared.refusal.Fault.TheVariants as fault
use Rattle.reg_core.specs.declared.refusal.Refusal.{Refusal}
use Rattle.reg_ocsp.specs.Request.{Id, IsOcspRequest}
use Rattle.reg_ocsp.specs.Response.{refusal_response}
use Rattle.reg_ocsp.specs.declared.response.RefusalStatus.TheVariants as status
use Rattle.reg_office_api.specs.CallSteps.{Signs}
use Rattle.reg_office_api.specs.Ocsp.{IsNoOcspRequest, IsResponse}
use Rattle.reg_office_api.specs.Signers.{Responder, OfficeSigners}
use Rattle.reg_office_api.specs.declared.effects.SignatureOutcome.{SignatureOutcome}
use Rattle.reg_office_api.specs.declared.effects.SignatureOutcome.TheVariants as signature
use Rattle.reg_office_api.specs.declared.effects.StoreEffect.{StoreEffect}
use Rattle.reg_office_api.specs.declared.effects.StoreEffect.TheVariants as store
use Rattle.reg_office_api.specs.declared.response.ResponseKind.{ResponseKind}
use Rattle.reg_office_api.specs.declared.response.ResponseKind.TheVariants.{Signed, Malformed, TryLater, StoreFailure, SignerFailure}

-- a response of this kind to a request that was read: signed, if the clock checks pass; tryLater, if they refuse; or internalError
abbrev pub IsReadResponse : Signs → Responder → Records → ℕ → List Id → Option (List ℕ)
    → ResponseKind → List ℕ → Type 0
IsReadResponse signs responder records now ids echo Signed bytes =
    (first_refusal (clock_checks now records.last) ≡ None)
    × IsResponse signs responder records now ids echo bytes
IsReadResponse signs responder records now ids echo Malformed bytes = ⊥
IsReadResponse signs responder records now ids echo TryLater bytes =
    ((refusal : Refusal) × (first_refusal (clock_checks now records.last) ≡ Some refusal))
    × (bytes ≡ refusal_response status.TryLater)
IsReadResponse signs responder records now ids echo StoreFailure bytes =
    bytes ≡ refusal_response status.Internal
IsReadResponse signs responder records now ids echo SignerFailure bytes =
    bytes ≡ refusal_response status.Internal

-- a response of this kind to any bytes: malformedRequest if they are no request, else the response to the request
abbrev pub IsOcspResponse : Signs → Responder → Records → ℕ → List ℕ → ResponseKind → List ℕ → Type 0
IsOcspResponse signs responder records now request kind bytes =
    (IsNoOcspRequest request × (kind ≡ Malformed) × (bytes ≡ refusal_response status.Malformed))
    ⊎ ((ids : List Id)
    × (nonce : Option (List ℕ))
    × IsOcspRequest request ids nonce
    × IsReadResponse signs responder records now ids nonce kind bytes)

-- the response to a request, with its kind; or out of memory; the records stay
abbrev pub Replies : Signs → OfficeSigners → Records → ℕ → List ℕ
    → Result (ResponseKind × List ℕ) NoMemory → Records → Type 0
Replies signs signers before now request (Ok response) after =
    IsOcspResponse signs signers.answers before now request response.0 response.1 × (after ≡ before)
Replies signs signers before now request (Err memory) after = after ≡ before

-- whether a signature was requested, and whether the signer made it
abbrev pub signature_of : ResponseKind → SignatureOutcome
signature_of Signed = signature.Made
signature_of SignerFailure = signature.Failed
signature_of other = signature.NotRequested

-- whether a response shows that the store failed
abbrev pub store_of : ResponseKind → StoreEffect
store_of StoreFailure = store.Failed
store_of other = store.Unwritten

-- whether a refusal or a fault shows that the store failed
abbrev pub store_of_fault : Fault → StoreEffect
store_of_fault fault.Store = store.Failed
store_of_fault other = store.Unwritten
