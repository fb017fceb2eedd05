-- The facts known about the first bytes of a connection.
use Rattle.std.specs.Prelude.{◌≡◌, ℕ, ◌+◌, ◌<◌, ◌≤◌, List, ◌++◌, length, take}
use Rattle.httparse.specs.Grammar.{RequestHead}
use Rattle.reg_io.specs.Delimiter.{EndsWith}
use Rattle.reg_http_head.specs.Head.{blank_line, longest_head, IsHeadAt}
use Rattle.reg_http_head.specs.Frame.{RequestMeaning, refused, Framed, HasHead}
use Rattle.reg_http_head.specs.declared.scan_state.HeadState.{HeadState}
use Rattle.reg_http_head.specs.declared.scan_state.ScanState.{ScanState}
use Rattle.reg_http_head.specs.declared.scan_state.ScanState.TheVariants.{NoHeadEnd, Refused, Valid}

-- the bytes begin with a whole request, which has this meaning
pub record HoldsRequest (bytes : List ℕ) (part : RequestMeaning) : Type 0 where
  pub took : List ℕ
  pub left : List ℕ
  pub parted : bytes ≡ took ++ left
  pub framed : Framed took part

-- the bytes begin with a whole request
pub record IsWholeRequest (bytes : List ℕ) : Type 0 where
  pub part : RequestMeaning
  pub holds : HoldsRequest bytes part

-- no head ends in the first `count` bytes
abbrev pub HasNoHeadEnd : List ℕ → ℕ → Type 0
HasNoHeadEnd bytes count = (n : ℕ) → n ≤ count → ¬ EndsWith (take n bytes) blank_line

-- the first `count` bytes are refused with this status code
abbrev pub IsRefusedRequest : List ℕ → ℕ → ℕ → Type 0
IsRefusedRequest bytes count status = Framed (take count bytes) (refused status)

-- the bytes begin with this head, and its body ends at this index
pub record NeedsBytes (bytes : List ℕ) (it : HeadState) : Type 0 where
  pub head : RequestHead
  pub has_head : HasHead bytes it.end
  pub stands : IsHeadAt (take it.end bytes) it.spans head
  pub needed_is : it.needed ≡ it.end + it.spans.size

-- the facts that a `ScanState` states about the bytes; they hold whatever bytes come after them
abbrev pub Knows : List ℕ → ScanState → Type 0
Knows bytes (NoHeadEnd count) = (count ≤ length bytes) × HasNoHeadEnd bytes count
Knows bytes (Refused count status) = (count ≤ length bytes) × IsRefusedRequest bytes count status
Knows bytes (Valid head) = NeedsBytes bytes head

-- the same, after all of the bytes were searched: if no head ends in them, they are fewer than 8,192
abbrev pub IsAllKnown : List ℕ → ScanState → Type 0
IsAllKnown bytes (NoHeadEnd count) =
    (count ≡ length bytes) × (count < longest_head) × HasNoHeadEnd bytes count
IsAllKnown bytes (Refused count status) = (count ≤ length bytes) × IsRefusedRequest bytes count status
IsAllKnown bytes (Valid head) = NeedsBytes bytes head
