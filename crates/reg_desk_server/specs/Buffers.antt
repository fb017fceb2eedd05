-- The received bytes that are kept, and the part of a text that was sent.
use Rattle.std.specs.Prelude.{◌≡◌, ◌⊎◌, ℕ, List, [], ◌∷◌, ◌++◌, Option, drop}
use Rattle.std.specs.Io.KnownBytes.{Appends, Consumes, IsAtEnd}
use Rattle.reg_http_head.specs.Bytes.{collected_bytes}
use Rattle.reg_http_head.specs.Collected.{IsWholeRequest}
use Rattle.reg_http_head.specs.declared.collected.Collected.{Collected}
use Rattle.reg_desk_server.specs.declared.request_bytes.Received.{Received}
use Rattle.reg_desk_server.specs.declared.request_bytes.Received.TheVariants as received
use Rattle.reg_desk_server.specs.declared.unsent.Sent.{Sent}
use Rattle.reg_desk_server.specs.declared.unsent.Sent.TheVariants as sent
use Rattle.reg_desk_server.specs.declared.unsent.Unsent.{Unsent}

-- one item is appended; if there is no memory for it, nothing changes
abbrev pub AppendsIfMemory : {A : Type 0} → A → List A → List A → Type 0
AppendsIfMemory one before after = (after ≡ before ++ one ∷ []) ⊎ (after ≡ before)

-- bytes that came were appended; if there was no memory, the last of them may be lost
abbrev pub AddsTo : List ℕ → List ℕ → List ℕ → Received → Type 0
AddsTo before arrived after received.OutOfMemory =
    (kept : List ℕ) × (lost : List ℕ) × (arrived ≡ kept ++ lost) × (after ≡ before ++ kept)
AddsTo before arrived after other = after ≡ before ++ arrived

-- after a read with this result: the input is at its end, if that is the result; reading failed, if that is
abbrev pub ReadsToEnd : Type 0 → Option (List ℕ) → Received → Type 0
ReadsToEnd failed left received.Ended = IsAtEnd left
ReadsToEnd failed left received.Broken = failed
ReadsToEnd failed left received.Whole = Unit {0}
ReadsToEnd failed left received.Blocked = Unit {0}
ReadsToEnd failed left received.More = Unit {0}
ReadsToEnd failed left received.OutOfMemory = Unit {0}

-- the bytes that were taken from the reader were appended to the kept ones; if there was no memory, the last of them may be lost
pub record Receives (input left : Option (List ℕ)) (before after : List ℕ) (result : Received) : Type 0 where
  pub arrived : List ℕ
  pub consumed : Consumes input left arrived
  pub held : AddsTo before arrived after result

-- the same for the bytes of a request; if the result is `Whole`, they begin with a whole request
pub record Collects (input left : Option (List ℕ)) (before after : Collected)
    (result : Received) : Type 0 where
  pub took : Receives input left (collected_bytes before) (collected_bytes after) result
  pub whole : result ≡ received.Whole → ∥ IsWholeRequest (collected_bytes after) ∥₁

-- the writer got the next bytes of a text, and the others are left; if the result is `All`, none is left
pub record SendsOn (old new : Option (List ℕ)) (before after : List ℕ) (rests : Sent) : Type 0 where
  pub went : List ℕ
  pub appended : Appends old new went
  pub parted : before ≡ went ++ after
  pub all : rests ≡ sent.All → after ≡ []

-- the part of a text that is not sent yet
abbrev pub unsent_of : Unsent → List ℕ
unsent_of unsent = drop unsent.sent unsent.text.items

-- the writer got the next bytes of a text's unsent part
abbrev pub SendsUnsent : {W : Type 0} → (W → Option (List ℕ)) → W → W → Unsent → Unsent → Sent → Type 0
SendsUnsent contents s t before after rests =
    SendsOn (contents s) (contents t) (unsent_of before) (unsent_of after) rests
