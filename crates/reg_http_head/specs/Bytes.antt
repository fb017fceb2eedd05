-- The bytes that were collected on a connection.
use Rattle.std.specs.Prelude.{◌≡◌, ℕ, ◌+◌, List, length}
use Rattle.reg_http_head.specs.Frame.{AsksFor}
use Rattle.reg_http_head.specs.declared.collected.Collected.{Collected}

-- the bytes of a `Collected`
abbrev pub collected_bytes : Collected → List ℕ
collected_bytes collected = collected.bytes.items

-- the bytes are one whole request that is not refused, with nothing after it
pub record IsExact (bytes : List ℕ) : Type 0 where
  pub method : List ℕ
  pub target : List ℕ
  pub body : List ℕ
  pub asks : AsksFor bytes method target body
  pub all : asks.end + length body ≡ length bytes
