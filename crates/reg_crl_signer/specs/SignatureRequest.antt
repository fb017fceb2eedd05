-- A request for a signature, on a non-blocking connection.
use Rattle.std.specs.Prelude.{◌≡◌, ℕ, List, string_bytes}
use Rattle.reg_crl_signer.specs.Announcement.{signature_in}
use Rattle.reg_crl_signer.specs.SignerConnections.{HoldsAnswer, TakesAnswer}
use Rattle.reg_crl_signer.specs.declared.signer_connection.Framing.{Framing}
use Rattle.reg_crl_signer.specs.declared.signer_connection.Framing.TheVariants.{ByEnd, ByLength}
use Rattle.reg_crl_signer.specs.declared.signer_connection.Progress.TheVariants.{Arrived}
use Rattle.reg_crl_signer.specs.declared.signature_request.SignatureRequest.{SignatureRequest}

-- the request has this path of a listener, and this message to be signed
abbrev pub IsSignatureRequest : List ℕ → List ℕ → SignatureRequest → Type 0
IsSignatureRequest path message sent_request =
    (string_bytes sent_request.path ≡ path) × (sent_request.message.items ≡ message)

-- the whole answer has arrived, and has at most 4,096 octets
abbrev pub HasArrived : SignatureRequest → Type 0
HasArrived sent_request = (sent_request.connection.progress ≡ Arrived) × HoldsAnswer sent_request.connection

-- the signature in an answer: only on a connection for one message, it may come after the announcement
abbrev pub signature_by : Framing → List ℕ → List ℕ
signature_by ByEnd answer = signature_in answer
signature_by ByLength answer = answer

-- the answer was taken from the connection, and this is the signature in it
abbrev pub TakesSignature : SignatureRequest → SignatureRequest → List ℕ → Type 0
TakesSignature old new signature =
    (answer : List ℕ) × TakesAnswer old.connection new.connection answer
    × (signature ≡ signature_by old.connection.framing answer)
