-- What an OCSP request comes to before anything is signed, once it is signed or left to be signed.
use Rattle.std.proofs.Common.{◌≡◌, ◌≢◌, ◌<◌, ◌⊎◌, ℕ, List, Vec, inl, inr, refl, sym, subst, ◌∙◌, arith}
use Rattle.std.proofs.lemmas.Bool.{false≢true}
use Rattle.std.specs.Prelude.{◌↔◌, Option, Some, None, IsSome, Result, Ok, Err, IfOk, IsErrAnd}
use Rattle.reg_core.specs.Checks.{clock_checks, first_refusal}
use Rattle.reg_core.specs.Issuer.{Issuer}
use Rattle.reg_core.specs.Records.{Records}
use Rattle.reg_core.specs.declared.memory.Memory.{Memory as NoMemory}
use Rattle.reg_core.specs.declared.refusal.Refusal.{Refusal}
use Rattle.reg_crl.specs.Signing.{Identity}
use Rattle.reg_ocsp.specs.Drafts.{Drafted, drafted_response}
use Rattle.reg_ocsp.specs.Request.{Id, IsOcspRequest}
use Rattle.reg_ocsp.specs.Response.{refusal_response}
use Rattle.reg_ocsp.specs.declared.response.RefusalStatus.TheVariants as status
use Rattle.reg_office_api.specs.CallSteps.{Signs}
use Rattle.reg_office_api.specs.Drafts.{IsDraft, IsSignerFailure}
use Rattle.reg_office_api.specs.Ocsp.{IsNoOcspRequest, IsOcspData, IsOcspReply, IsResponse, IsTimely}
use Rattle.reg_office_api.specs.Responses.{IsOcspResponse, IsReadResponse}
use Rattle.reg_office_api.specs.Signers.{Responder, responder_key}
use Rattle.reg_office_api.specs.declared.response.OcspResponse.{OcspResponse}
use Rattle.reg_office_api.specs.declared.response.ResponseKind.{ResponseKind}
use Rattle.reg_office_api.specs.declared.response.ResponseKind.TheVariants.{Signed, Malformed, TryLater, StoreFailure, SignerFailure}
use Rattle.reg_office_api.proofs.PublicLaws.{signed_response, unsigned_response}
use Rattle.reg_io.specs.declared.begun.ReadyOrUnsigned.{ReadyOrUnsigned}
use Rattle.reg_io.specs.declared.begun.ReadyOrUnsigned.TheVariants.{Ready, Unsigned}
use Rattle.reg_office_reads.specs.Beginning.{IsBegun, IsMessage, IsReady, IsResponding, IsResponseOver, IsSignedBy, RefusesRequest}
use Rattle.reg_office_reads.specs.declared.ocsp_faults.ResponseFault.{ResponseFault}
use Rattle.reg_office_reads.specs.declared.ocsp_faults.ResponseFault.TheVariants as fault
use Rattle.reg_office_reads.proofs.Responding.{internal_apart, try_later_apart, whole_apart}

-- the refusal that there is
pub the_refusal : (found : Option Refusal) → IsSome found → (refusal : Refusal) × (found ≡ Some refusal)
the_refusal (Some why) some = (why, refl)
the_refusal None some = absurd (false≢true some)

-- tryLater, where the clock refuses the moment
late : (found : Option Refusal) (refusal : Refusal) (P : List ℕ → Type 0) (bytes : List ℕ) → found ≡ Some refusal → bytes ≡ refusal_response status.TryLater
    → IsTimely found P bytes
late found refusal P bytes refused same =
    let Q : Option Refusal → Type 0 = λ r. IsTimely r P bytes in
    subst Q (sym refused) same

module _ (signs : Signs) (responder : Responder) (records : Records) (now : ℕ) (request : List ℕ) where
  -- a response that is ready is the response to the request
  pub ready_begun : (kind : ResponseKind) (bytes : List ℕ) (result : Result (ReadyOrUnsigned OcspResponse Drafted) NoMemory)
      → IsOcspResponse signs responder records now request kind bytes → IfOk result (IsReady kind bytes)
      → IfOk result (IsBegun signs responder records now request)
  ready_begun kind bytes (Ok (Ready response)) answers (kind_is, bytes_is) =
      let P : ResponseKind → Type 0 = λ k. IsOcspResponse signs responder records now request k response.bytes.items in
      let Q : List ℕ → Type 0 = λ b. IsOcspResponse signs responder records now request kind b in
      subst P (sym kind_is) (subst Q (sym bytes_is) answers)
  ready_begun kind bytes (Ok (Unsigned draft)) answers ready = absurd ready
  ready_begun kind bytes (Err memory) answers ready = tt

  -- so is the ResponseData, signed or left to be signed; or internalError, where the signer failed
  pub message_begun : (ids : List Id) (echo : Option (List ℕ)) (message : List ℕ) (result : Result (ReadyOrUnsigned OcspResponse Drafted) NoMemory)
      → IsOcspRequest request ids echo → first_refusal (clock_checks now records.last) ≡ None
      → IsOcspData (responder_key responder records) records now ids echo message → IfOk result (IsResponseOver signs responder message)
      → IfOk result (IsBegun signs responder records now request)
  message_begun ids echo message (Ok (Ready response)) asks timely of_records (inl (kind_is, signed)) =
      let P : ResponseKind → Type 0 = λ k. IsOcspResponse signs responder records now request k response.bytes.items in
      subst P (sym kind_is) (inr (ids, echo, asks, (timely, record { tbs = message; of_records = of_records; signed = signed })))
  message_begun ids echo message (Ok (Ready response)) asks timely of_records (inr failed) =
      ready_begun SignerFailure (refusal_response status.Internal) (Ok (Ready response)) (inr (ids, echo, asks, refl)) failed
  message_begun ids echo message (Ok (Unsigned draft)) asks timely of_records (message_is, by) =
      let P : List ℕ → Type 0 = λ tbs. IsOcspData (responder_key responder records) records now ids echo tbs in
      record { ids = ids; nonce = echo; is_request = asks; timely = timely; read = record { of_records = subst P (sym message_is) of_records; by = by } }
  message_begun ids echo message (Err memory) asks timely of_records over = tt

  read_reply : (ids : List Id) (echo : Option (List ℕ)) (kind : ResponseKind) (bytes : List ℕ) → IsOcspRequest request ids echo
      → IsReadResponse signs responder records now ids echo kind bytes → IsOcspReply signs responder records now request bytes
  read_reply ids echo Signed bytes asks (timely, whole) =
      let P : Option Refusal → Type 0 = λ r. IsTimely r (IsResponse signs responder records now ids echo) bytes in
      inr (ids, echo, asks, inr (subst P (sym timely) whole))
  read_reply ids echo Malformed bytes asks is = absurd is
  read_reply ids echo TryLater bytes asks ((why, refused), is) =
      inr (ids, echo, asks, inr (late (first_refusal (clock_checks now records.last)) why (IsResponse signs responder records now ids echo) bytes refused is))
  read_reply ids echo StoreFailure bytes asks is = inr (ids, echo, asks, inl is)
  read_reply ids echo SignerFailure bytes asks is = inr (ids, echo, asks, inl is)

  -- a response of any kind answers the request
  pub replied : (kind : ResponseKind) (bytes : List ℕ) → IsOcspResponse signs responder records now request kind bytes
      → IsOcspReply signs responder records now request bytes
  replied kind bytes (inl (unread, same, is)) = inl (unread, is)
  replied kind bytes (inr (ids, echo, asks, reads)) = read_reply ids echo kind bytes asks reads

  -- and so does what was left to be signed, once it is signed
  pub draft_replied : (draft : Drafted) (bytes : List ℕ) → IsDraft responder records now request draft → IsSignedBy signs responder draft bytes
      → IsOcspReply signs responder records now request bytes
  draft_replied draft bytes left (inl failed) =
      let P : List ℕ → Type 0 = λ b. IsOcspReply signs responder records now request b in
      subst P (sym failed) (replied SignerFailure (refusal_response status.Internal) (unsigned_response signs responder records now request draft left))
  draft_replied draft bytes left (inr (signature, signed, is)) =
      let P : List ℕ → Type 0 = λ b. IsOcspReply signs responder records now request b in
      subst P (sym is) (replied Signed _ (signed_response signs responder records now request draft signature left signed))

pub malformed_apart : ¬ (Malformed ≡ SignerFailure)
malformed_apart same = cc same

pub late_apart : ¬ (TryLater ≡ SignerFailure)
late_apart same = cc same

pub store_apart : ¬ (StoreFailure ≡ SignerFailure)
store_apart same = cc same

signed_apart : ¬ (Signed ≡ SignerFailure)
signed_apart same = cc same

-- a response that is ready is malformedRequest exactly where these bytes are, and internalError at a failure of the signer
pub ready_refuses : (request : List ℕ) (kind : ResponseKind) (bytes : List ℕ) (result : Result (ReadyOrUnsigned OcspResponse Drafted) NoMemory)
    → (bytes ≡ refusal_response status.Malformed) ↔ IsNoOcspRequest request → (kind ≡ SignerFailure → bytes ≡ refusal_response status.Internal)
    → IfOk result (IsReady kind bytes) → IfOk result (RefusesRequest request)
ready_refuses request kind bytes (Ok (Ready response)) malformed internal (kind_is, bytes_is) = (
  ((λ same. malformed.0 (sym bytes_is ∙ same)), (λ unread. bytes_is ∙ malformed.1 unread)),
  (λ failed. bytes_is ∙ internal (sym kind_is ∙ failed)),
)
ready_refuses request kind bytes (Ok (Unsigned draft)) malformed internal ready = absurd ready
ready_refuses request kind bytes (Err memory) malformed internal ready = tt

-- bytes that were read are answered with no malformedRequest
pub no_malformed : (request bytes : List ℕ) → ¬ (IsNoOcspRequest request) → bytes ≢ refusal_response status.Malformed
    → (bytes ≡ refusal_response status.Malformed) ↔ IsNoOcspRequest request
no_malformed request bytes read apart = ((λ same. absurd (apart same)), (λ unread. absurd (read unread)))

-- the response over a ResponseData
pub message_refuses : (signs : Signs) (responder : Responder) (request message : List ℕ) (result : Result (ReadyOrUnsigned OcspResponse Drafted) NoMemory)
    → ¬ (IsNoOcspRequest request) → IfOk result (IsResponseOver signs responder message) → IfOk result (RefusesRequest request)
message_refuses signs responder request message (Ok (Ready response)) read (inl (kind_is, signed)) = (
  no_malformed request response.bytes.items read (λ same. whole_apart _ _ _ _ (sym signed.2 ∙ same)),
  (λ failed. absurd (signed_apart (sym kind_is ∙ failed))),
)
message_refuses signs responder request message (Ok (Ready response)) read (inr failed) =
    ready_refuses request SignerFailure (refusal_response status.Internal) (Ok (Ready response))
    (no_malformed request (refusal_response status.Internal) read internal_apart) (λ is. refl) failed
message_refuses signs responder request message (Ok (Unsigned draft)) read over = read
message_refuses signs responder request message (Err memory) read over = tt

-- the count of failures stays over a response for which the signer was not asked
pub unasked_counts : (kind : ResponseKind) (bytes : List ℕ) (result : Result (ReadyOrUnsigned OcspResponse Drafted) NoMemory) (count : ℕ)
    → ¬ (kind ≡ SignerFailure) → IfOk result (IsReady kind bytes) → IfOk result (λ begun. IsSignerFailure begun ↔ (count < count))
unasked_counts kind bytes (Ok (Ready response)) count other (kind_is, bytes_is) =
    ((λ failed. absurd (other (sym kind_is ∙ failed))), (λ rose. absurd (omega (arith, rose))))
unasked_counts kind bytes (Ok (Unsigned draft)) count other ready = absurd ready
unasked_counts kind bytes (Err memory) count other ready = tt

-- and it rose over internalError, where the signer failed
pub failed_counts : (bytes : List ℕ) (result : Result (ReadyOrUnsigned OcspResponse Drafted) NoMemory) (old new : ℕ)
    → old < new → IfOk result (IsReady SignerFailure bytes) → IfOk result (λ begun. IsSignerFailure begun ↔ (old < new))
failed_counts bytes (Ok (Ready response)) old new rose (kind_is, bytes_is) = ((λ failed. rose), (λ again. kind_is))
failed_counts bytes (Ok (Unsigned draft)) old new rose ready = absurd ready
failed_counts bytes (Err memory) old new rose ready = tt

-- internalError is a response over any ResponseData
pub failed_over : (signs : Signs) (responder : Responder) (message : List ℕ) (result : Result (ReadyOrUnsigned OcspResponse Drafted) NoMemory)
    → IfOk result (IsReady SignerFailure (refusal_response status.Internal)) → IfOk result (IsResponseOver signs responder message)
failed_over signs responder message (Ok (Ready response)) ready = inr ready
failed_over signs responder message (Ok (Unsigned draft)) ready = absurd ready
failed_over signs responder message (Err memory) ready = tt

-- the bytes of what was left to be signed are no malformedRequest
pub signed_malformed : (signs : Signs) (identity : Identity) (request : List ℕ) (draft : Drafted) (bytes : List ℕ) → ¬ (IsNoOcspRequest request)
    → (bytes ≡ refusal_response status.Internal)
    ⊎ ((signature : List ℕ) × signs identity draft.message signature × (bytes ≡ drafted_response draft (Some signature)))
    → (bytes ≡ refusal_response status.Malformed) ↔ IsNoOcspRequest request
signed_malformed signs identity request draft bytes read (inl failed) = no_malformed request bytes read (λ same. internal_apart (sym failed ∙ same))
signed_malformed signs identity request draft bytes read (inr (signature, signed, is)) =
    no_malformed request bytes read (λ same. whole_apart _ _ _ _ (sym is ∙ same))

-- the clock's refusal of a moment
pub refused_by_clock : (records : Records) (now : ℕ) (result : Result (Issuer × ℕ) ResponseFault) → IsErrAnd result (λ error. error ≡ fault.Clock)
    → IsSome (first_refusal (clock_checks now records.last)) → IsResponding records now result
refused_by_clock records now (Ok it) failed_so refused = absurd failed_so
refused_by_clock records now (Err why) failed_so refused =
    let P : ResponseFault → Type 0 = λ it. IsResponding records now (Err it) in
    subst P (sym failed_so) refused

-- no ResponseData: memory or the store failed
pub no_message : {Z : Type 0} (key : List ℕ) (records : Records) (now : ℕ) (ids : List Id) (echo : Option (List ℕ)) (result : Result (Vec ℕ Z) ResponseFault)
    (why : ResponseFault) → IsErrAnd result (λ error. error ≡ why) → (why ≡ fault.Memory) ⊎ (why ≡ fault.Store) → IsMessage key records now ids echo result
no_message key records now ids echo (Ok bytes) why failed_so is = absurd failed_so
no_message {Z = Z} key records now ids echo (Err other) why failed_so is =
    let P : ResponseFault → Type 0 = λ it. IsMessage {Z = Z} key records now ids echo (Err it) in
    subst P (sym failed_so) (elim is [ inl memory ↦ subst P (sym memory) tt | inr store ↦ subst P (sym store) tt ])
