-- What was left to be signed, once it is signed.
use Rattle.std.proofs.Common.{◌≡◌, ℕ, List, inr, refl}
use Rattle.std.specs.Prelude.{Some, None}
use Rattle.reg_core.specs.Records.{Records}
use Rattle.reg_crl.specs.Signing.{Identity}
use Rattle.reg_ocsp.specs.Drafts.{Drafted, drafted_response}
use Rattle.reg_ocsp.specs.Response.{ocsp_response}
use Rattle.reg_office_api.specs.Drafts.{IsBy, IsDraft}
use Rattle.reg_office_api.specs.Ocsp.{IsResponse}
use Rattle.reg_office_api.specs.Responses.{IsOcspResponse}
use Rattle.reg_office_api.specs.Signers.{Responder}
use Rattle.reg_office_api.specs.declared.response.ResponseKind.TheVariants.{Signed, SignerFailure}

-- the response that a signature makes of what was left is the one of who answers
pub whole_of : (responder : Responder) (draft : Drafted) (signature : List ℕ) → IsBy responder draft
    → drafted_response draft (Some signature) ≡ ocsp_response draft.message responder.identity.algorithm signature responder.certificate
whole_of responder draft signature by = λ i. ocsp_response draft.message (by.algorithm i) signature (by.certificate i)

-- with a signature by who answers it is the response to the request
pub signed_response : (signs : Identity → List ℕ → List ℕ → Type 0) (responder : Responder) (records : Records) (now : ℕ) (request : List ℕ)
    (draft : Drafted) (signature : List ℕ) → IsDraft responder records now request draft → signs responder.identity draft.message signature
    → IsOcspResponse signs responder records now request Signed (drafted_response draft (Some signature))
signed_response signs responder records now request draft signature left signed =
    let whole : IsResponse signs responder records now left.ids left.nonce (drafted_response draft (Some signature)) = record {
      tbs = draft.message;
      of_records = left.read.of_records;
      signed = (signature, signed, whole_of responder draft signature left.read.by);
    } in
    inr (left.ids, left.nonce, left.is_request, (left.timely, whole))

-- and so is internalError, where none came
pub unsigned_response : (signs : Identity → List ℕ → List ℕ → Type 0) (responder : Responder) (records : Records) (now : ℕ) (request : List ℕ)
    (draft : Drafted) → IsDraft responder records now request draft
    → IsOcspResponse signs responder records now request SignerFailure (drafted_response draft None)
unsigned_response signs responder records now request draft left = inr (left.ids, left.nonce, left.is_request, refl)
