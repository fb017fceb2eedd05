-- One connection to a signer: a message waits for its answer, and only then the next one is sent.
use Rattle.std.specs.Prelude.{◌≡◌, ◌⊎◌, ℕ, ◌+◌, ◌<◌, ◌≤◌, List, [], ◌++◌, Option, Bool, IsTrue, length}
use Rattle.std.specs.Io.KnownBytes.{Appends, Consumes, IsAtEnd}
use Rattle.reg_crl_signer.specs.CountedBytes.{counted_bytes}
use Rattle.reg_crl_signer.specs.declared.signer_connection.Framing.{Framing}
use Rattle.reg_crl_signer.specs.declared.signer_connection.Framing.TheVariants.{ByEnd, ByLength}
use Rattle.reg_crl_signer.specs.declared.signer_connection.Progress.{Progress}
use Rattle.reg_crl_signer.specs.declared.signer_connection.Progress.TheVariants.{Idle, Waiting, Arrived, Failed}
use Rattle.reg_crl_signer.specs.declared.signer_connection.SignerConnection.{SignerConnection}

-- these octets are this answer, by the framing of the connection
abbrev pub FramesAnswer : Framing → List ℕ → List ℕ → Type 0
FramesAnswer ByEnd octets answer = octets ≡ answer
FramesAnswer ByLength octets answer = octets ≡ counted_bytes answer

-- the progress of a message while octets come: an awaited answer arrives, or the connection fails
abbrev pub LeadsOn : Progress → Progress → Type 0
LeadsOn Idle Idle = Unit {0}
LeadsOn Waiting Waiting = Unit {0}
LeadsOn Waiting Arrived = Unit {0}
LeadsOn Arrived Arrived = Unit {0}
LeadsOn old Failed = Unit {0}
LeadsOn old new = ⊥

-- the answer has arrived, or none will
abbrev pub HasEnded : Progress → Type 0
HasEnded Arrived = Unit {0}
HasEnded Failed = Unit {0}
HasEnded other = ⊥

module _ {S : Type 0} where
  -- nothing was sent or received yet
  pub record IsNewConnection (stream : S) (framing : Framing) (progress : Progress)
      (it : SignerConnection S) : Type 0 where
    pub stream_is : it.stream ≡ stream
    pub framing_is : it.framing ≡ framing
    pub progress_is : it.progress ≡ progress
    pub none : it.received.items ≡ []

  -- the connection is persistent, and failed without a stored octet of the answer
  abbrev pub FailedUnanswered : SignerConnection S → Type 0
  FailedUnanswered it = (it.framing ≡ ByLength) × (it.progress ≡ Failed) × (it.received.items ≡ [])

  -- the octets received are a whole answer, of at most 4,096 octets
  abbrev pub HoldsAnswer : SignerConnection S → Type 0
  HoldsAnswer it =
      (answer : List ℕ) × FramesAnswer it.framing it.received.items answer × (length answer ≤ 4096)

  -- why a connection on which an answer was awaited failed after a read that succeeded: the signer ended its side (`ended`) before the whole answer
  -- came, or more came than the longest answer with its length has
  abbrev pub FailsAfterRead : SignerConnection S → Bool → Type 0
  FailsAfterRead it ended =
      (IsTrue ended × (it.framing ≡ ByEnd → ¬ HoldsAnswer it)) ⊎ (4100 < length it.received.items)

  -- Why a connection failed while octets came: a read failed; or not all that came could be stored, for lack of memory; or octets or the end came
  -- although no answer was awaited; or the signer ended its side before the whole answer came; or more came than the longest answer with its
  -- length has.
  pub data FailsToReceive (failed : Type 0) (remaining : S → Option (List ℕ)) (old new : SignerConnection S)
      : Type 0 where
    read : failed → FailsToReceive failed remaining old new
    memory : (came : List ℕ) → Consumes (remaining old.stream) (remaining new.stream) came
        → length new.received.items < length old.received.items + length came
        → FailsToReceive failed remaining old new
    unawaited : ¬ (old.progress ≡ Waiting) → (came : List ℕ)
        → Consumes (remaining old.stream) (remaining new.stream) came
        → (0 < length came) ⊎ IsAtEnd (remaining new.stream) → FailsToReceive failed remaining old new
    short : IsAtEnd (remaining new.stream) → (new.framing ≡ ByEnd → ¬ HoldsAnswer new)
        → FailsToReceive failed remaining old new
    long : 4100 < length new.received.items → FailsToReceive failed remaining old new

  -- Octets came, and were appended to those received, unless the connection failed. It is idle only if it was idle before and no octet came.
  pub record Receives (remaining : S → Option (List ℕ)) (old new : SignerConnection S) : Type 0 where
    pub came : List ℕ
    pub consumed : Consumes (remaining old.stream) (remaining new.stream) came
    pub kept : ¬ (new.progress ≡ Failed) → new.received.items ≡ old.received.items ++ came
    pub leads : LeadsOn old.progress new.progress
    pub idle : new.progress ≡ Idle → came ≡ []
    pub ended : old.progress ≡ Waiting → new.progress ≡ Arrived → new.framing ≡ ByEnd → IsAtEnd (remaining new.stream)
    pub same_framing : new.framing ≡ old.framing

  -- the next message was sent, and no answer was awaited before
  pub record SendsNext (contents : S → Option (List ℕ)) (old new : SignerConnection S) (message : List ℕ) : Type 0 where
    pub was_idle : old.progress ≡ Idle
    pub sent : Appends (contents old.stream) (contents new.stream) (counted_bytes message)
    pub awaits : new.progress ≡ Waiting
    pub persistent : new.framing ≡ ByLength
    pub same : new.received.items ≡ old.received.items

  -- why the next message was not sent: the connection was not idle, or the message is too long, and nothing changed; or the stream failed
  abbrev pub FailsToSend : Type 0 → SignerConnection S → SignerConnection S → List ℕ → Type 0
  FailsToSend failed old new message =
      ((new ≡ old) × ((¬ ((old.framing ≡ ByLength) × (old.progress ≡ Idle))) ⊎ (16777215 < length message)))
      ⊎ (failed × (new.progress ≡ Failed))

  -- the octets received were this answer, and it was taken
  pub record TakesAnswer (old new : SignerConnection S) (answer : List ℕ) : Type 0 where
    pub had_arrived : old.progress ≡ Arrived
    pub is : FramesAnswer old.framing old.received.items answer
    pub idle : new.progress ≡ Idle
    pub none_left : new.received.items ≡ []
    pub same_stream : new.stream ≡ old.stream
    pub same_framing : new.framing ≡ old.framing
