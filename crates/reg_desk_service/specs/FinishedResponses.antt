-- An OCSP response that is to be signed, and the text that finishes it.
use Rattle.std.specs.Prelude.{◌≡◌, ℕ, List, Option, Some, None, Result, IfOk}
use Rattle.reg_office_api.specs.declared.effects.SignatureOutcome.{SignatureOutcome}
use Rattle.reg_office_api.specs.declared.effects.SignatureOutcome.TheVariants.{Made, Failed}
use Rattle.reg_office_api.specs.declared.effects.StoreEffect.TheVariants.{Unwritten}
use Rattle.reg_core.specs.declared.memory.Memory.{Memory as NoMemory}
use Rattle.reg_http.specs.Bodies.{ocsp_reply}
use Rattle.reg_http.specs.Exchanges.{AnswersText}
use Rattle.reg_http.specs.declared.exchange.Exchange.{Exchange}
use Rattle.reg_desk_server.specs.Exchange.{Outcome, said, pending, later}
use Rattle.reg_ocsp.specs.Drafts.{Drafted, drafted_response}
use Rattle.reg_crl_signer.specs.Forms.{HasForm}
use Rattle.reg_desk_service.specs.declared.unsigned_responses.Unsigned.{Unsigned}

-- the signer gave this for the draft's message, and it has the form of a signature with the draft's algorithm and key; or there is none
abbrev pub IsSignatureOf : (List ℕ → List ℕ → Type 0) → Drafted → Option (List ℕ) → Type 0
IsSignatureOf signer_answered draft (Some signature) =
    signer_answered draft.message signature
    × HasForm (record { algorithm = draft.algorithm; public_key = draft.key }) signature
IsSignatureOf signer_answered draft None = Unit {0}

-- the outcome of a request for a signature: `Made` if there is one, else `Failed`
abbrev pub outcome_of_signature : Option (List ℕ) → SignatureOutcome
outcome_of_signature (Some signature) = Made
outcome_of_signature None = Failed

-- this exchange at a moment has the response with this signature, or internalError without one, or the answer if out of memory; its signature was
-- made or failed, and it changed nothing in the store
pub record IsFinished (draft : Drafted) (moment : ℕ) (signature : Option (List ℕ))
    (exchange : Exchange) : Type 0 where
  pub given : Result (List ℕ) NoMemory
  pub made : IfOk given (λ bytes. bytes ≡ drafted_response draft signature)
  pub answer_text : AnswersText moment (ocsp_reply given) exchange
  pub signature_outcome : exchange.signature ≡ outcome_of_signature signature
  pub store : exchange.store ≡ Unwritten

-- this text is that of an exchange that finishes a response of a moment, with a signature that the signer gave, or without one
pub record FinishesAt (signer_answered : List ℕ → List ℕ → Type 0) (draft : Drafted) (moment : ℕ)
    (text : List ℕ) : Type 0 where
  pub signature : Option (List ℕ)
  pub signed : IsSignatureOf signer_answered draft signature
  pub exchange : Exchange
  pub finished : IsFinished draft moment signature exchange
  pub text_is : text ≡ exchange.text.items

abbrev pub FinishesUnsigned : (List ℕ → List ℕ → Type 0) → Unsigned → List ℕ → Type 0
FinishesUnsigned signer_answered unsigned text =
    FinishesAt signer_answered unsigned.draft unsigned.moment text

-- the outcome of a request is a text that meets `wanted`, or a response to be signed, which only texts that meet `wanted` finish; never `later`
abbrev pub Meets : {T : Type 0} → (T → List ℕ → Type 0) → (List ℕ → Type 0) → Outcome T → Type 0
Meets finishes wanted (said text) = wanted text
Meets finishes wanted (pending ticket) = (text : List ℕ) → finishes ticket text → wanted text
Meets finishes wanted later = ⊥
