-- Drafts: OCSP responses that are not signed yet (RFC 6960 2.2, 4.2.1).
use Rattle.std.specs.Prelude.{◌≡◌, ℕ, List, Option, None, Result, Ok, Err}
use Rattle.reg_core.specs.Checks.{clock_checks, first_refusal}
use Rattle.reg_core.specs.Records.{Records}
use Rattle.reg_core.specs.declared.memory.Memory.{Memory as NoMemory}
use Rattle.reg_ocsp.specs.Drafts.{Drafted}
use Rattle.reg_ocsp.specs.Request.{Id, IsOcspRequest}
use Rattle.reg_office_api.specs.Ocsp.{IsOcspData}
use Rattle.reg_office_api.specs.Responses.{Replies}
use Rattle.reg_office_api.specs.Signers.{Responder, OfficeSigners, Signs, responder_key}
use Rattle.reg_office_api.specs.declared.response.OcspResponse.{OcspResponse}
use Rattle.reg_office_api.specs.declared.response.ResponseKind.{ResponseKind}
use Rattle.reg_office_api.specs.declared.response.ResponseKind.TheVariants.{SignerFailure}
use Rattle.reg_io.specs.declared.begun.ReadyOrUnsigned.{ReadyOrUnsigned}
use Rattle.reg_io.specs.declared.begun.ReadyOrUnsigned.TheVariants.{Ready, Unsigned}

-- the draft has the responder's algorithm and key, and its certificate if it has one
pub record IsBy (responder : Responder) (draft : Drafted) : Type 0 where
  pub algorithm : draft.algorithm ≡ responder.identity.algorithm
  pub key : draft.key ≡ responder.identity.public_key
  pub certificate : draft.certificate ≡ responder.certificate

-- the draft for a request that was read: the ResponseData of the records at a moment, for the responder to sign
pub record IsReadDraft (responder : Responder) (records : Records) (now : ℕ) (ids : List Id)
    (nonce : Option (List ℕ)) (draft : Drafted) : Type 0 where
  pub of_records : IsOcspData (responder_key responder records) records now ids nonce draft.message
  pub by : IsBy responder draft

-- the draft for the bytes of a request, at a moment that the clock checks accept
pub record IsDraft (responder : Responder) (records : Records) (now : ℕ) (request : List ℕ)
    (draft : Drafted) : Type 0 where
  pub ids : List Id
  pub nonce : Option (List ℕ)
  pub is_request : IsOcspRequest request ids nonce
  pub timely : first_refusal (clock_checks now records.last) ≡ None
  pub read : IsReadDraft responder records now ids nonce draft

-- the draft for a request, by the office's responder; the records don't change
abbrev pub Drafts : OfficeSigners → Records → ℕ → List ℕ → Drafted → Records → Type 0
Drafts signers before now request draft after =
    IsDraft signers.answers before now request draft × (after ≡ before)

-- the outcome of `begin_ocsp`: `replies` holds of a ready response and of out of memory, `drafts` of a draft
abbrev pub Begins : {S : Type 0} → (S → ℕ → List ℕ → Result (ResponseKind × List ℕ) NoMemory → S → Type 0)
    → (S → ℕ → List ℕ → Drafted → S → Type 0) → S → ℕ → List ℕ
    → Result (ReadyOrUnsigned OcspResponse Drafted) NoMemory → S → Type 0
Begins replies drafts s now request (Ok (Ready response)) t =
    replies s now request (Ok (response.kind, response.bytes.items)) t
Begins replies drafts s now request (Ok (Unsigned draft)) t = drafts s now request draft t
Begins replies drafts s now request (Err memory) t = replies s now request (Err memory) t

-- the outcome of `begin_ocsp` as a step of the records, given the signers
abbrev pub BeginStep : Signs → ℕ → List ℕ → Result (ReadyOrUnsigned OcspResponse Drafted) NoMemory → OfficeSigners
    → Records → Records → Type 0
BeginStep signs now request begun =
    λ signers before after.
    Begins (Replies signs signers) (Drafts signers) before now request begun after

-- the response is internalError because the signer failed
abbrev pub IsSignerFailure : {U : Type 0} → ReadyOrUnsigned OcspResponse U → Type 0
IsSignerFailure (Ready response) = response.kind ≡ SignerFailure
IsSignerFailure (Unsigned left) = ⊥
