-- A finished HTTP exchange, with the text of its response.
use Rattle.std.specs.Prelude.{◌≡◌, ◌⊎◌, ℕ, List, [], Some, None, Result, Ok, Err}
use Rattle.reg_office_api.specs.declared.effects.SignatureOutcome.{SignatureOutcome}
use Rattle.reg_office_api.specs.declared.effects.SignatureOutcome.TheVariants.{NotRequested}
use Rattle.reg_office_api.specs.declared.effects.StoreEffect.TheVariants.{Unwritten}
use Rattle.reg_core.specs.declared.memory.Memory.{Memory as NoMemory}
use Rattle.reg_http_head.specs.Response.{IsText, Response, memory_text}
use Rattle.reg_http.specs.AnswerEffects.{AnswerEffects, answer_effects}
use Rattle.reg_http.specs.declared.answered.HttpAnswer.{HttpAnswer}
use Rattle.reg_http.specs.declared.route.Route.{Route}
use Rattle.reg_ocsp.specs.Drafts.{Drafted}
use Rattle.reg_io.specs.declared.begun.ReadyOrUnsigned.{ReadyOrUnsigned}
use Rattle.reg_io.specs.declared.begun.ReadyOrUnsigned.TheVariants.{Ready, Unsigned}
use Rattle.reg_http.specs.declared.exchange.Exchange.{Exchange}
use Rattle.reg_http.specs.declared.exchange.UnsignedResponse.{UnsignedResponse}

-- the whole text of a response at a moment, with its status code; or the constant text of status code 500, if there was no memory for its body
abbrev pub PutsText : ℕ → Response → ℕ → List ℕ → Type 0
PutsText now response status text =
    ((status ≡ response.status) × IsText response now text) ⊎ ((status ≡ 500) × (text ≡ memory_text))

-- the text is empty, and there is no status code
abbrev pub IsEmpty : Exchange → Type 0
IsEmpty exchange = (exchange.status ≡ None) × (exchange.text.items ≡ [])

-- the answer if there was no memory: the constant text of status code 500; or an empty text, if there was no memory for the constant one either
abbrev pub IsMemoryAnswer : Exchange → Type 0
IsMemoryAnswer exchange =
    ((exchange.status ≡ Some 500) × (exchange.text.items ≡ memory_text)) ⊎ IsEmpty exchange

-- the response at a moment, with its whole text; or out of memory
abbrev pub AnswersText : ℕ → Response → Exchange → Type 0
AnswersText now response exchange =
    ((exchange.status ≡ Some response.status) × IsText response now exchange.text.items)
    ⊎ IsMemoryAnswer exchange

-- the same, with the outcome of the signature, the effect on the store, and the request for revocation that was entered
abbrev pub HasEffects : ℕ → AnswerEffects → Exchange → Type 0
HasEffects now it exchange =
    (exchange.signature ≡ it.signature) × (exchange.store ≡ it.store) × (exchange.named ≡ it.named)
    × AnswersText now it.response exchange

-- the signature has this outcome; there was no effect on the store, and no request was entered
abbrev pub HasOnlySignature : SignatureOutcome → Exchange → Type 0
HasOnlySignature signature exchange =
    (exchange.signature ≡ signature) × (exchange.store ≡ Unwritten) × (exchange.named ≡ None)

-- no signature was requested either
abbrev pub HasNoEffects : Exchange → Type 0
HasNoEffects exchange = HasOnlySignature NotRequested exchange

-- the outcome of a request, as an exchange at this route: the answer; or the response that is to be signed; or there was no memory
abbrev pub BeginsExchange
    : ℕ → Route → Result (ReadyOrUnsigned HttpAnswer Drafted) NoMemory
    → ReadyOrUnsigned Exchange UnsignedResponse → Type 0
BeginsExchange now route (Ok (Ready answered)) (Ready exchange) =
    (exchange.route ≡ route) × HasEffects now (answer_effects answered) exchange
BeginsExchange now route (Ok (Ready answered)) (Unsigned left) = ⊥
BeginsExchange now route (Ok (Unsigned draft)) (Ready exchange) = ⊥
BeginsExchange now route (Ok (Unsigned draft)) (Unsigned left) = (left.route ≡ route) × (left.draft ≡ draft)
BeginsExchange now route (Err memory) (Ready exchange) =
    (exchange.route ≡ route) × IsMemoryAnswer exchange × HasNoEffects exchange
BeginsExchange now route (Err memory) (Unsigned left) = ⊥
