-- A whole persistent connection to a signer: which answers are to which messages.
use Rattle.std.specs.Prelude.{◌≡◌, ◌⊎◌, ℕ, ◌+◌, List, [], ◌∷◌, ◌++◌, Option, length, map}
use Rattle.std.specs.List.{concat}
use Rattle.reg_crl_signer.specs.CountedBytes.{counted_bytes}
use Rattle.reg_crl_signer.specs.OpenConnections.{SinceOpened}
use Rattle.reg_crl_signer.specs.SignerConnections.{Receives, SendsNext, TakesAnswer}
use Rattle.reg_crl_signer.specs.declared.signer_connection.Framing.TheVariants.{ByLength}
use Rattle.reg_crl_signer.specs.declared.signer_connection.Progress.{Progress}
use Rattle.reg_crl_signer.specs.declared.signer_connection.Progress.TheVariants.{Idle, Waiting, Arrived, Failed}
use Rattle.reg_crl_signer.specs.declared.signer_connection.SignerConnection.{SignerConnection}

-- this many messages were sent, and this many answers were taken: one for each message, but for the last one until its answer is taken
abbrev pub HasAnswered : Progress → ℕ → ℕ → Type 0
HasAnswered Idle messages answers = messages ≡ answers
HasAnswered Waiting messages answers = messages ≡ answers + 1
HasAnswered Arrived messages answers = messages ≡ answers + 1
HasAnswered Failed messages answers = (messages ≡ answers) ⊎ (messages ≡ answers + 1)

module _ {S : Type 0} (contents remaining : S → Option (List ℕ)) where
  -- These messages were sent on a persistent connection, and these answers were taken from it, in this order, since it was opened. What came is these
  -- answers, and then what was received since, unless the connection failed. Each answer is to the message with the same number.
  pub record HasExchanged (first : S) (it : SignerConnection S) (messages answers : List (List ℕ)) : Type 0 where
    pub came : List ℕ
    pub gone : List ℕ
    pub since : SinceOpened contents remaining first came gone it.stream
    pub sent : gone ≡ concat (map counted_bytes messages)
    pub taken : ¬ (it.progress ≡ Failed) → came ≡ concat (map counted_bytes answers) ++ it.received.items
    pub answered : HasAnswered it.progress (length messages) (length answers)
    pub none_early : it.progress ≡ Idle → it.received.items ≡ []
    pub persistent : it.framing ≡ ByLength

  -- when more has come, the messages and the answers are the same
  abbrev pub ReceivesOn : Type 0
  ReceivesOn =
      (first : S) (old new : SignerConnection S) (messages answers : List (List ℕ))
      → HasExchanged first old messages answers → Receives remaining old new → HasExchanged first new messages answers

  -- a message that is sent is the next one
  abbrev pub SendsOneMore : Type 0
  SendsOneMore =
      (first : S) (old new : SignerConnection S) (messages answers : List (List ℕ)) (message : List ℕ)
      → HasExchanged first old messages answers → SendsNext contents old new message
      → HasExchanged first new (messages ++ message ∷ []) answers

  -- an answer that is taken is the next one, and it is to the last message
  abbrev pub TakesOneMore : Type 0
  TakesOneMore =
      (first : S) (old new : SignerConnection S) (messages answers : List (List ℕ)) (answer : List ℕ)
      → HasExchanged first old messages answers → TakesAnswer old new answer
      → HasExchanged first new messages (answers ++ answer ∷ []) × (length messages ≡ length answers + 1)
