-- One control connection: the handler's replies to lines, the bytes that are left after them, and how received bytes are kept until then.
use Rattle.std.specs.Prelude.{◌≡◌, ℕ, Bool, true, false, List, [], ◌∷◌, ◌++◌, ◌⊎◌, ◌≤◌, Option, Some, None, length, take, drop}
use Rattle.std.specs.Io.KnownBytes.{Appends, Consumes, IsAtEnd}
use Rattle.reg_desk_server.specs.Buffers.{unsent_of}
use Rattle.reg_desk_server.specs.LineEnds.{EndsLine, FirstLineEnds, HasNoLine}
use Rattle.reg_desk_server.specs.declared.control_connection.ControlConnection.{ControlConnection}
use Rattle.reg_desk_server.specs.declared.handler.ConnectionFault.{ConnectionFault}
use Rattle.reg_desk_server.specs.declared.handler.ConnectionFault.TheVariants as fault
use Rattle.reg_desk_server.specs.declared.request_bytes.Received.{Received}
use Rattle.reg_desk_server.specs.declared.request_bytes.Received.TheVariants as received

module _ {S : Type 0} where
  -- as just after the connection was accepted: no received bytes are kept, nothing is to be sent, and the connection has not ended
  abbrev pub IsFresh : ControlConnection S → Type 0
  IsFresh connection =
      (connection.arrived.items ≡ []) × (unsent_of connection.unsent ≡ []) × (connection.has_ended ≡ false)

  -- the link of the connection did not change, nor whether it has ended
  abbrev pub SameStreamAndEnd : ControlConnection S → ControlConnection S → Type 0
  SameStreamAndEnd old new = (new.stream ≡ old.stream) × (new.has_ended ≡ old.has_ended)

  -- if the connection has ended, no more bytes are kept, and it stays ended
  abbrev pub StaysEnded : ControlConnection S → ControlConnection S → Type 0
  StaysEnded old new = old.has_ended ≡ true → (new.arrived.items ≡ old.arrived.items) × (new.has_ended ≡ true)

  -- a connection that had not ended has ended since: its input is at its end, a read failed, or there was no memory for what came
  abbrev pub EndsOnlyBy : Type 0 → Option (List ℕ) → ControlConnection S → ControlConnection S → Type 0
  EndsOnlyBy failed left old new =
      old.has_ended ≡ false → new.has_ended ≡ true → IsAtEnd left ⊎ (failed ⊎ (new.fault ≡ Some fault.Memory))

  -- a connection that has nothing to send may be closed: it has ended, or its first line is too long
  abbrev pub MayClose : ControlConnection S → Type 0
  MayClose it = (it.has_ended ≡ true) ⊎ (8194 ≤ length it.arrived.items)

  -- the kept bytes and the unsent bytes did not change
  abbrev pub SameLines : ControlConnection S → ControlConnection S → Type 0
  SameLines old new = (new.arrived.items ≡ old.arrived.items) × (unsent_of new.unsent ≡ unsent_of old.unsent)

module _ {H S : Type 0} where
  -- Either nothing of an older reply was unsent, and the bytes up to an end with this property were answered with the bytes that are now unsent, and
  -- removed from the kept bytes; or there was no whole line, or an unsent rest of a reply, and nothing changed.
  abbrev pub AnswersUpTo
      : (List ℕ → ℕ → Type 0) → (H → List ℕ → List ℕ → H → Type 0) → H → H → ControlConnection S
      → ControlConnection S → Type 0
  AnswersUpTo Ends answers_lines s t old new =
      ((end : ℕ) × Ends old.arrived.items end × (unsent_of old.unsent ≡ [])
      × answers_lines s (take end old.arrived.items) (unsent_of new.unsent) t
      × (new.arrived.items ≡ drop end old.arrived.items))
      ⊎ ((unsent_of old.unsent ≡ [] → HasNoLine old.arrived.items) × (t ≡ s) × SameLines old new)

  -- one or several lines, from the first on, were answered; or nothing changed
  abbrev pub AnswersFirstLines
      : (H → List ℕ → List ℕ → H → Type 0) → H → H → ControlConnection S → ControlConnection S → Type 0
  AnswersFirstLines = AnswersUpTo EndsLine

  -- the handler deferred the first line, for which it may have made a message; or the handler did not change
  abbrev pub DefersFirstLine : (H → List ℕ → H → Type 0) → H → H → ControlConnection S → Type 0
  DefersFirstLine defers s t old =
      ((end : ℕ) × FirstLineEnds old.arrived.items end × defers s (take end old.arrived.items) t) ⊎ (t ≡ s)

  -- a deferred line, the first, was then answered alone; or it was deferred again, and neither the kept bytes nor the unsent ones changed
  abbrev pub AnswersDeferred
      : (H → List ℕ → List ℕ → H → Type 0) → (H → List ℕ → H → Type 0) → H → H → ControlConnection S
      → ControlConnection S → Type 0
  AnswersDeferred answers_lines defers s t old new =
      AnswersUpTo FirstLineEnds answers_lines s t old new ⊎ (DefersFirstLine defers s t old × SameLines old new)

-- The bytes that came next on a connection are appended to the kept ones. If there was no memory, the last of them may be lost, and then the
-- connection has ended.
pub record Gathers (input left : Option (List ℕ)) (before after : List ℕ) (ended : Bool) : Type 0 where
  pub kept : List ℕ
  pub lost : List ℕ
  pub consumed : Consumes input left (kept ++ lost)
  pub held : after ≡ before ++ kept
  pub whole : (lost ≡ []) ⊎ (ended ≡ true)

-- the same for a control connection, with the bytes that its link will give
abbrev pub GathersOn
    : {S : Type 0} → (S → Option (List ℕ)) → ControlConnection S → ControlConnection S → Type 0
GathersOn remaining old new =
    Gathers (remaining old.stream) (remaining new.stream) old.arrived.items new.arrived.items new.has_ended

-- whether nothing more comes on a connection after a read with this result
abbrev pub ends_by : Received → Bool
ends_by received.Whole = false
ends_by received.Blocked = false
ends_by received.More = false
ends_by received.Ended = true
ends_by received.Broken = true
ends_by received.OutOfMemory = true

-- the fault of a connection after a read with this result
abbrev pub fault_by : Received → Option ConnectionFault
fault_by received.OutOfMemory = Some fault.Memory
fault_by received.Whole = None
fault_by received.Blocked = None
fault_by received.More = None
fault_by received.Ended = None
fault_by received.Broken = None

-- Why a connection is lost that is closed with these unsent bytes of a reply and this fault. `None` if it is not lost.
abbrev pub loss_of : List ℕ → Option ConnectionFault → Option ConnectionFault
loss_of [] failed = failed
loss_of (byte ∷ unsent) failed = Some fault.Broken

-- The next bytes of a reply were sent, and then the bytes that came next were kept (`Gathers`); once the connection has ended, no more are kept.
pub record Advances {S : Type 0} (contents remaining : S → Option (List ℕ))
    (old new : ControlConnection S) : Type 0 where
  pub between : S
  pub went : List ℕ
  pub appended : Appends (contents old.stream) (contents between) went
  pub parted : unsent_of old.unsent ≡ went ++ unsent_of new.unsent
  pub gathered : Gathers (remaining between) (remaining new.stream) old.arrived.items new.arrived.items
      new.has_ended
  pub over : StaysEnded old new
