-- An OCSP response before it is signed (RFC 6960 4.2.1).
use Rattle.std.specs.Prelude.{ℕ, List, Option, Some, None}
use Rattle.reg_ocsp.specs.Response.{ocsp_response, refusal_response}
use Rattle.reg_ocsp.specs.declared.response.RefusalStatus.TheVariants.{Internal}

-- the ResponseData that is to be signed (`message`), the AlgorithmIdentifier and the public key of its signer, and the certificate for `certs`,
-- if there is one
pub record Drafted : Type 0 where
  pub message : List ℕ
  pub algorithm : List ℕ
  pub key : List ℕ
  pub certificate : Option (List ℕ)

-- the response of a draft: with a signature, successful; without one, internalError (RFC 6960 2.3)
abbrev pub drafted_response : Drafted → Option (List ℕ) → List ℕ
drafted_response draft (Some signature) =
    ocsp_response draft.message draft.algorithm signature draft.certificate
drafted_response draft None = refusal_response Internal
