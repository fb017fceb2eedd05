-- One HTTP connection: the bytes that came are kept, and the handler's answer to them is sent on the connection. An answer that is left to be signed
-- is kept in the connection too, and only a text that finishes it is sent there.
use Rattle.std.specs.Prelude.{◌≡◌, ◌≤◌, ◌<◌, ◌+◌, ℕ, Bool, true, false, List, [], ◌++◌, Option, Some, None, IsTrue, is_some}
use Rattle.std.specs.Io.KnownBytes.{Appends, Consumes}
use Rattle.reg_http_head.specs.Bytes.{collected_bytes, IsExact}
use Rattle.reg_http_head.specs.Frame.{IsUnfinished}
use Rattle.reg_desk_server.specs.Exchange.{Outcome, said, pending, later}
use Rattle.reg_desk_server.specs.ControlLines.{Gathers}
use Rattle.reg_desk_server.specs.Buffers.{unsent_of}
use Rattle.reg_desk_server.specs.declared.http_connection.HttpConnection.{HttpConnection}
use Rattle.reg_desk_server.specs.declared.http_connection.Stage.{Stage}
use Rattle.reg_desk_server.specs.declared.http_connection.Stage.TheVariants as stage

-- the request is still being received, and these bytes of it are kept
abbrev pub HasReceived : {T : Type 0} → Stage T → List ℕ → Type 0
HasReceived (stage.Receiving collected) bytes = bytes ≡ collected_bytes collected
HasReceived other bytes = ⊥

-- the request is still being received, and the bytes that are kept are no whole request
abbrev pub IsIncomplete : {T : Type 0} → Stage T → Type 0
IsIncomplete (stage.Receiving collected) = ∥ IsUnfinished (collected_bytes collected) ∥₁
IsIncomplete other = ⊥

-- a request that is being received still is, with the same bytes; in any other stage nothing changes
abbrev pub KeepsReceived : {T : Type 0} → Stage T → Stage T → Type 0
KeepsReceived (stage.Receiving collected) after = HasReceived after (collected_bytes collected)
KeepsReceived other after = after ≡ other

-- an answer is being sent, and this is its unsent part
abbrev pub HasUnsentText : {T : Type 0} → Stage T → List ℕ → Type 0
HasUnsentText (stage.Sending unsent exact) text = text ≡ unsent_of unsent
HasUnsentText other text = ⊥

-- the answer with this ticket is left to be signed
abbrev pub AwaitsSignature : {T : Type 0} → Stage T → T → Type 0
AwaitsSignature (stage.Signing kept exact) ticket = kept ≡ ticket
AwaitsSignature other ticket = ⊥

-- the stage keeps this outcome: the whole text is unsent, or the ticket waits for a signature
abbrev pub KeepsOutcome : {T : Type 0} → Outcome T → Stage T → Type 0
KeepsOutcome (said text) after = HasUnsentText after text
KeepsOutcome (pending ticket) after = AwaitsSignature after ticket
KeepsOutcome later after = ⊥

-- a request is answered with the handler's answer to the bytes that came, or waits for a signature; in any other stage nothing changes
abbrev pub Answering
    : {H T : Type 0} → (H → List ℕ → Outcome T → H → Type 0) → H → H → Stage T → Stage T → Type 0
Answering {T = T} answers s t (stage.Receiving collected) after =
    (outcome : Outcome T) × answers s (collected_bytes collected) outcome t × KeepsOutcome outcome after
Answering answers s t other after = after ≡ other

-- an answer that was left to be signed is finished with a text for its ticket; in any other stage nothing changes
abbrev pub Finishing : {T : Type 0} → (T → List ℕ → Type 0) → Stage T → Stage T → Type 0
Finishing finishes (stage.Signing ticket exact) after =
    (text : List ℕ) × finishes ticket text × HasUnsentText after text
Finishing finishes other after = after ≡ other

-- the answer was sent, and the bytes that still come are dropped
abbrev pub IsDraining : {T : Type 0} → Stage T → Type 0
IsDraining stage.Draining = Unit {0}
IsDraining other = ⊥

-- an answer is being sent, and this is its unsent part; or the answer was sent, and this is empty
abbrev pub HasUnsentRest : {T : Type 0} → Stage T → List ℕ → Type 0
HasUnsentRest (stage.Sending unsent exact) rest = rest ≡ unsent_of unsent
HasUnsentRest stage.Draining rest = rest ≡ []
HasUnsentRest other rest = ⊥

-- for how many milliseconds a request waits at most
abbrev pub longest_wait : ℕ
longest_wait = 1000

-- At a moment, a request waits until a later one. This is set when the request first waits, at most a second later, and then stays.
abbrev pub WaitsAt : ℕ → Option ℕ → Option ℕ → Type 0
WaitsAt now (Some until) after = (after ≡ Some until) × (now < until)
WaitsAt now None after = (until : ℕ) × (after ≡ Some until) × (until ≤ now + longest_wait)

-- a request that is being received may wait: it is whole, nothing came after it, and the handler lets it wait
abbrev pub RequestMayWait : {T : Type 0} → (List ℕ → Bool) → Stage T → Type 0
RequestMayWait lets_wait (stage.Receiving collected) =
    ∥ IsExact (collected_bytes collected) ∥₁ × IsTrue (lets_wait (collected_bytes collected))
RequestMayWait lets_wait other = ⊥

-- some bytes came, and none of them is kept
abbrev pub IsDropped : Option (List ℕ) → Option (List ℕ) → Type 0
IsDropped input left = (dropped : List ℕ) × Consumes input left dropped

module _ {S H T L : Type 0} where
  -- While a request is received, the kept bytes are the former ones, followed by the next bytes of the connection. If there was no memory, the last
  -- may be lost, and then the connection has a fault. Once it has a fault, no more is received. In other stages this states nothing.
  abbrev pub ReceivesMore : (S → Option (List ℕ)) → HttpConnection S H T L → HttpConnection S H T L → Type 0
  ReceivesMore remaining old new =
      (bytes : List ℕ) → HasReceived old.stage bytes
      → (bytes' : List ℕ) × HasReceived new.stage bytes'
      × Gathers (remaining old.stream) (remaining new.stream) bytes bytes' (is_some new.fault)
      × (is_some old.fault ≡ true → (bytes' ≡ bytes) × (is_some new.fault ≡ true))

  -- if an answer was being sent, its next bytes were sent, and the rest is kept
  abbrev pub Sends : (S → Option (List ℕ)) → HttpConnection S H T L → HttpConnection S H T L → Type 0
  Sends contents old new =
      (text : List ℕ) → HasUnsentText old.stage text
      → (went : List ℕ) × (rest : List ℕ) × (text ≡ went ++ rest)
      × Appends (contents old.stream) (contents new.stream) went
      × HasUnsentRest new.stage rest

  -- if an answer is left to be signed, or was sent, the bytes that come are dropped, and the stage (with its ticket) stays
  abbrev pub Drops : (S → Option (List ℕ)) → HttpConnection S H T L → HttpConnection S H T L → Type 0
  Drops remaining old new =
      ((ticket : T) → AwaitsSignature old.stage ticket
      → AwaitsSignature new.stage ticket × IsDropped (remaining old.stream) (remaining new.stream))
      × (IsDraining old.stage → IsDraining new.stage × IsDropped (remaining old.stream) (remaining new.stream))

  -- the connection has no fault, and its request may wait
  abbrev pub MayWait : (List ℕ → Bool) → HttpConnection S H T L → Type 0
  MayWait lets_wait connection = (is_some connection.fault ≡ false) × RequestMayWait lets_wait connection.stage

  -- neither the connection's link nor its fault changed
  abbrev pub SameStreamAndFault : HttpConnection S H T L → HttpConnection S H T L → Type 0
  SameStreamAndFault old new = (new.stream ≡ old.stream) × (new.fault ≡ old.fault)
