-- Reading the value at the front of bytes, as a function on lists. `IsTlv` states what a value is.
use Rattle.std.specs.Prelude.{◌≡◌, ℕ, ◌-◌, ◌%◌, ◌^◌, ◌<◌, List, [], ◌∷◌, ◌++◌, length, take, drop, get_or, Option, Some, None, nat_lt, ◌==◌, ◌||◌, if◌then◌else◌}
use Rattle.reg_core.specs.Integer.{IsBytes, value}
use Rattle.reg_core.specs.Sequence.{◌>>=◌}
use Rattle.reg_der.specs.Der.{tlv, IsTlv}

-- a function's result agrees with a definition's (`read`): both are `None`, or the model (`view`) of the first is the second
abbrev pub AgreesWith : {X Y : Type 0} → (X → Y) → Option X → Option Y → Type 0
AgreesWith view (Some x) read = read ≡ Some (view x)
AgreesWith view None read = read ≡ None

-- the tag and the contents of a value
pub record Parts : Type 0 where
  pub tag : ℕ
  pub contents : List ℕ

-- a length of 128 or more in the first `count` octets, 1 to 4, without a leading zero (X.690 8.1.3.5, 10.1), and the bytes after them
unfoldable pub long_length_at : ℕ → List ℕ → Option (ℕ × List ℕ)
long_length_at count bytes =
    if (count == 0 || nat_lt 4 count) || nat_lt (length bytes) count then None
    else (if get_or bytes 0 0 == 0 || nat_lt (value (take count bytes)) 128 then None
    else Some (value (take count bytes), drop count bytes))

-- the length at the front (X.690 8.1.3), and the bytes after it
unfoldable pub length_at : List ℕ → Option (ℕ × List ℕ)
length_at [] = None
length_at (first ∷ rest) = if nat_lt first 128 then Some (first, rest) else long_length_at (first - 128) rest

-- the contents whose length is at the front, and the bytes after them
unfoldable pub contents_at : List ℕ → Option (List ℕ × List ℕ)
contents_at bytes = do
  size ← length_at bytes
  if nat_lt (length size.1) size.0 then None else Some (take size.0 size.1, drop size.0 size.1)

-- the value at the front (X.690 8.1.1), and the bytes after it
unfoldable pub value_at : List ℕ → Option (Parts × List ℕ)
value_at [] = None
value_at (tag ∷ rest) =
    if tag % 32 == 31 then None
    else (contents_at rest >>= λ counted. Some (record { tag = tag; contents = counted.0 }, counted.1))

-- the bytes are this text, and then the rest, which is bytes too
pub record Takes (bytes text rest : List ℕ) : Type 0 where
  pub parts : bytes ≡ text ++ rest
  pub each : IsBytes rest

-- the bytes are the value with these parts, and then the rest
pub record TakesValue (bytes : List ℕ) (parts : Parts) (rest : List ℕ) : Type 0 where
  pub taken : Takes bytes (tlv parts.tag parts.contents) rest
  pub fits : IsTlv (tlv parts.tag parts.contents) parts.tag parts.contents

-- reading gives a value at the front of the bytes
abbrev pub ReadsValues : Type 0
ReadsValues =
    (bytes : List ℕ) (x : Parts × List ℕ) → IsBytes bytes → value_at bytes ≡ Some x → TakesValue bytes x.0 x.1

-- each value at the front of bytes is read
abbrev pub EachValueIsRead : Type 0
EachValueIsRead =
    (tag : ℕ) (contents rest : List ℕ) → tag % 32 < 31 → length contents < 2 ^ 32
    → value_at (tlv tag contents ++ rest) ≡ Some (record { tag = tag; contents = contents }, rest)
