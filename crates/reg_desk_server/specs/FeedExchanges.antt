-- One request to another desk, and its response: the bytes that were sent and that came, and what the progress states.
use Rattle.std.specs.Prelude.{◌≡◌, ◌⊎◌, ℕ, ◌+◌, ◌<◌, ◌≤◌, Bool, true, false, List, [], ◌++◌, Option, length}
use Rattle.std.specs.Io.KnownBytes.{Appends}
use Rattle.reg_http_head.specs.ResponseStart.{HasHead, NeverAccepted}
use Rattle.reg_http_head.specs.declared.response_head.ResponseHead.{ResponseHead}
use Rattle.reg_desk_server.specs.Buffers.{Receives, SendsUnsent, unsent_of}
use Rattle.reg_desk_server.specs.ControlLines.{Gathers}
use Rattle.reg_desk_server.specs.declared.feed_exchange.FeedExchange.{FeedExchange}
use Rattle.reg_desk_server.specs.declared.feed_exchange.FeedProgress.{FeedProgress}
use Rattle.reg_desk_server.specs.declared.feed_exchange.FeedProgress.TheVariants.{Waiting, Arrived, Failed}
use Rattle.reg_desk_server.specs.declared.request_bytes.Received.{Received}
use Rattle.reg_desk_server.specs.declared.request_bytes.Received.TheVariants as received
use Rattle.reg_desk_server.specs.declared.unsent.Sent.{Sent}

-- the most bytes of a response: 160 MiB
abbrev pub longest_response : ℕ
longest_response = 167772160

-- for how many milliseconds an exchange waits for the next byte
abbrev pub patience : ℕ
patience = 5000

abbrev pub has_failed : FeedProgress → Bool
has_failed (Waiting millis) = false
has_failed (Arrived head) = false
has_failed Failed = true

-- an exchange that waits is to be advanced at once
abbrev pub WaitsAtOnce : FeedProgress → Type 0
WaitsAtOnce (Waiting millis) = millis ≡ 0
WaitsAtOnce (Arrived head) = Unit {0}
WaitsAtOnce Failed = Unit {0}

module _ {S : Type 0} where
  -- the whole request was sent, and exactly a response came, which begins with this head
  abbrev pub HasResponse : FeedExchange S → ResponseHead → Type 0
  HasResponse exchange head =
      (unsent_of exchange.request ≡ []) × HasHead exchange.received.items head
      × (length exchange.received.items ≡ head.end + head.length)

  -- there is no whole response
  abbrev pub LacksResponse : FeedExchange S → Type 0
  LacksResponse exchange = (head : ResponseHead) → ¬ HasResponse exchange head

  -- why no response comes: no byte was sent or came for five seconds, no accepted head begins with what came, or more came than the head states
  abbrev pub FailsBy : ℕ → FeedExchange S → Type 0
  FailsBy now exchange =
      (exchange.moved_at + patience ≤ now) ⊎ (NeverAccepted exchange.received.items
      ⊎ ((head : ResponseHead) × HasHead exchange.received.items head × (head.end + head.length < length exchange.received.items)))

  -- The facts that the progress at a moment states, if more may come. An exchange waits until its response has come, for at most five seconds after
  -- the last byte.
  abbrev pub HasProgress : ℕ → FeedExchange S → FeedProgress → Type 0
  HasProgress now exchange (Waiting millis) =
      (now < exchange.moved_at + patience) × (now + millis ≤ exchange.moved_at + patience)
      × LacksResponse exchange
  HasProgress now exchange (Arrived head) = HasResponse exchange head
  HasProgress now exchange Failed = FailsBy now exchange × LacksResponse exchange

  -- an exchange that waits until more can be read is to be advanced five seconds after the last byte, if none comes
  abbrev pub WaitsPatiently : ℕ → FeedExchange S → FeedProgress → Type 0
  WaitsPatiently now exchange (Waiting millis) = exchange.moved_at ≤ now → now + millis ≡ exchange.moved_at + patience
  WaitsPatiently now exchange (Arrived head) = Unit {0}
  WaitsPatiently now exchange Failed = Unit {0}

  -- the facts that the last progress states: no more comes
  abbrev pub HasLastProgress : FeedExchange S → FeedProgress → Type 0
  HasLastProgress exchange (Waiting millis) = ⊥
  HasLastProgress exchange (Arrived head) = HasResponse exchange head
  HasLastProgress exchange Failed = LacksResponse exchange

  -- the facts that the progress states after bytes were received with this result
  abbrev pub HasProgressAfter : Received → ℕ → FeedExchange S → FeedProgress → Type 0
  HasProgressAfter received.Blocked now exchange progress =
      HasProgress now exchange progress × WaitsPatiently now exchange progress
  HasProgressAfter received.More now exchange progress = HasProgress now exchange progress × WaitsAtOnce progress
  HasProgressAfter received.Ended now exchange progress = HasLastProgress exchange progress
  HasProgressAfter other now exchange progress = progress ≡ Failed

  -- the next bytes were received, as long as the response is not too long
  pub record ReceivesResponse (remaining : S → Option (List ℕ)) (old new : FeedExchange S) (result : Received) : Type 0 where
    pub receives : Receives (remaining old.stream) (remaining new.stream) old.received.items new.received.items result
    pub request : new.request ≡ old.request
    pub moved_at : new.moved_at ≡ old.moved_at
    pub short : length old.received.items ≤ longest_response → length new.received.items ≤ longest_response

  -- the next bytes of the request were sent, and then the bytes that came next were received
  pub record Transfers (contents remaining : S → Option (List ℕ)) (old new : FeedExchange S)
      (result : Received) : Type 0 where
    pub between : S
    pub rests : Sent
    pub sends : SendsUnsent contents old.stream between old.request new.request rests
    pub receives : Receives (remaining between) (remaining new.stream) old.received.items new.received.items
        result
    pub short : length old.received.items ≤ longest_response → length new.received.items ≤ longest_response

  -- The next bytes of the request were sent, and then the bytes that came next were kept. If there was no memory, the last of them may be lost, and
  -- then the exchange has failed.
  pub record Proceeds (contents remaining : S → Option (List ℕ)) (old new : FeedExchange S)
      (failed : Bool) : Type 0 where
    pub between : S
    pub went : List ℕ
    pub appended : Appends (contents old.stream) (contents between) went
    pub parted : unsent_of old.request ≡ went ++ unsent_of new.request
    pub gathered : Gathers (remaining between) (remaining new.stream) old.received.items new.received.items
        failed

  -- bytes were sent and received, and the progress states what they are, or that the connection ended or failed, or that there was no memory
  pub record Progresses (contents remaining : S → Option (List ℕ)) (now : ℕ) (old new : FeedExchange S)
      (progress : FeedProgress) : Type 0 where
    pub result : Received
    pub transfers : Transfers contents remaining old new result
    pub states : HasProgressAfter result now new progress
