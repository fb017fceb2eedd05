-- The head of a response, in the first bytes of a connection (RFC 9112 2 to 6).
use Rattle.std.specs.Prelude.{◌≡◌, ℕ, ◌<◌, ◌≤◌, List, [], ◌∷◌, ◌++◌, length, map, drop, codes, Option, Some, None}
use Rattle.reg_core.specs.Number.{number_of}
use Rattle.httparse.specs.Grammar.{ResponseHead, print_response, status_code, ReadsResponse, HasNoResponse, MayBecomeResponse}
use Rattle.httparse.specs.Spans.{name_and_value}
use Rattle.reg_http_head.specs.Head.{longest_head, most_fields, values_of}
use Rattle.reg_http_head.specs.declared.response_head.ResponseHead.{ResponseHead as HeadRead}
use Rattle.reg_http_head.specs.declared.response_head.ResponseStart.{ResponseStart}
use Rattle.reg_http_head.specs.declared.response_head.ResponseStart.TheVariants.{Partial, Head, Bad}

-- the length of a body by the values of Transfer-Encoding and of Content-Length (RFC 9112 6): it is stated by one Content-Length, a number of 1 to
-- 18 digits, without a Transfer-Encoding
abbrev pub length_by : List (List ℕ) → List (List ℕ) → Option ℕ
length_by (coding ∷ codings) lengths = None
length_by [] [] = None
length_by [] (text ∷ []) = number_of text
length_by [] (text ∷ other ∷ more) = None

-- the length of the body, if the fields state it
abbrev pub length_of : List (List ℕ × List ℕ) → Option ℕ
length_of fields = length_by (values_of (codes "transfer-encoding") fields) (values_of (codes "content-length") fields)

-- the head is accepted: it has at most 64 fields and 8,192 bytes, and states this length of the body
pub record IsAcceptedHead (h : ResponseHead) (size : ℕ) : Type 0 where
  pub few : length h.fields ≤ most_fields
  pub short : length (print_response h) ≤ longest_head
  pub states : length_of (map name_and_value h.fields) ≡ Some size

-- the bytes begin with this head, which is accepted, and these are its status code, its end and the length of its body
pub record BeginsWith (bytes : List ℕ) (it : HeadRead) (h : ResponseHead) : Type 0 where
  pub reads : ReadsResponse bytes h (drop it.end bytes)
  pub end_is : it.end ≡ length (print_response h)
  pub status_is : it.status ≡ status_code h
  pub accepted : IsAcceptedHead h it.length

-- the bytes begin with an accepted head, of which this was read
abbrev pub HasHead : List ℕ → HeadRead → Type 0
HasHead bytes it = (h : ResponseHead) × BeginsWith bytes it h

-- whatever bytes follow, these bytes do not begin with an accepted head
abbrev pub NeverAccepted : List ℕ → Type 0
NeverAccepted bytes =
    (more : List ℕ) (h : ResponseHead) (rest : List ℕ) (size : ℕ) → ReadsResponse (bytes ++ more) h rest → ¬ IsAcceptedHead h size

-- the facts that a `ResponseStart` states about the bytes
abbrev pub IsStartOf : List ℕ → ResponseStart → Type 0
IsStartOf bytes Partial = (length bytes < longest_head) × HasNoResponse bytes × MayBecomeResponse bytes
IsStartOf bytes (Head it) = HasHead bytes it
IsStartOf bytes Bad = NeverAccepted bytes
