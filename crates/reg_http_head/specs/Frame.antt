-- One request in the bytes that were taken from a connection (RFC 9112 2.1).
use Rattle.std.specs.Prelude.{◌≡◌, ℕ, ◌+◌, ◌<◌, ◌≤◌, ◌⊎◌, List, Option, length, take, drop, Ok, string_bytes}
use Rattle.std.specs.Io.KnownBytes.{Consumes}
use Rattle.httparse.specs.Grammar.{RequestHead}
use Rattle.reg_core.specs.declared.refusal.Fault.{Fault}
use Rattle.reg_core.specs.declared.refusal.Fault.TheVariants as fault
use Rattle.reg_io.specs.Delimiter.{FirstDelimiter, HasNoDelimiter}
use Rattle.reg_http_head.specs.Head.{blank_line, longest_head, IsHead, RefusesHead, body_size}
use Rattle.reg_http_head.specs.declared.request.Request.{Request}
use Rattle.reg_http_head.specs.declared.request.Request.TheVariants.{Refused, Valid}
use Rattle.reg_http_head.specs.declared.request.RequestRef.{RequestRef}
use Rattle.reg_http_head.specs.declared.request.RequestRef.TheVariants as collected

-- the meaning of the bytes of a request: a refusal with its status code, or a request with method, target and body
pub data RequestMeaning : Type 0 where
  refused : ℕ → RequestMeaning
  asked : List ℕ → List ℕ → List ℕ → RequestMeaning

-- the bytes begin with a head and the whole of its body, with this meaning
pub record AsksFor (took method target body : List ℕ) : Type 0 where
  pub end : ℕ
  pub head : RequestHead
  pub within : end ≤ longest_head
  pub ends : FirstDelimiter blank_line took end
  pub reads : IsHead (take end took) head
  pub method_is : method ≡ head.method
  pub target_is : target ≡ head.target
  pub size : body_size head ≡ Ok (length body)
  pub body_is : body ≡ take (length body) (drop end took)

-- there are 8,192 bytes, and no head ends in them
abbrev pub IsTooLong : List ℕ → Type 0
IsTooLong took = (length took ≡ longest_head) × HasNoDelimiter blank_line took

-- the first CR LF CR LF ends at this index, within the first 8,192 bytes
pub record HasHead (took : List ℕ) (end : ℕ) : Type 0 where
  pub within : end ≤ longest_head
  pub ends : FirstDelimiter blank_line took end

-- the meaning of the bytes that were taken
abbrev pub Framed : List ℕ → RequestMeaning → Type 0
Framed took (refused status) =
    ((status ≡ 431) × IsTooLong took) ⊎ ((end : ℕ) × HasHead took end × RefusesHead (take end took) status)
Framed took (asked method target body) = AsksFor took method target body

-- the bytes are no whole request yet: the head has no end, or its body is shorter than its length
abbrev pub IsUnfinished : List ℕ → Type 0
IsUnfinished took =
    ((length took < longest_head) × HasNoDelimiter blank_line took)
    ⊎ ((end : ℕ) × (head : RequestHead) × (size : ℕ) × HasHead took end × IsHead (take end took) head
    × (body_size head ≡ Ok size) × (length took < end + size))

-- the fault after these bytes: `Read`, and the bytes are no whole request yet; or `Memory`
abbrev pub IsCutBy : Fault → List ℕ → Type 0
IsCutBy why took = ((why ≡ fault.Read) × IsUnfinished took) ⊎ (why ≡ fault.Memory)

-- bytes were taken from a reader, at most this many, and `IsSo` is true of them
abbrev pub TakesAtMost : Option (List ℕ) → Option (List ℕ) → ℕ → (List ℕ → Type 0) → Type 0
TakesAtMost input left most IsSo =
    (took : List ℕ) × Consumes input left took × (length took ≤ most) × IsSo took

-- the meaning of a request that was read
abbrev pub request_meaning : Request → RequestMeaning
request_meaning (Refused status) = refused status
request_meaning (Valid method target body) = asked method (string_bytes target) body.items

-- the meaning of a request that was collected
abbrev pub request_ref_meaning : RequestRef → RequestMeaning
request_ref_meaning (collected.Refused status) = refused status
request_ref_meaning (collected.Valid method target body) = asked method target.now body.now
