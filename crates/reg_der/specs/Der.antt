-- DER values (X.690 8.1, 10.1): a tag of one octet, a definite length in the fewest octets, the contents octets.
use Rattle.std.specs.Prelude.{◌≡◌, ℕ, ◌+◌, ◌%◌, ◌^◌, ◌<◌, ◌≤◌, List, [], ◌∷◌, ◌++◌, nat_lt, length, if◌then◌else◌, ◌⊎◌}
use Rattle.std.specs.Int.{bytes_high_first}
use Rattle.reg_core.specs.Integer.{IsBytes, value, without_zeros}

-- the big-endian octets of a number below 2^32, without leading zeros
unfoldable pub fewest : ℕ → List ℕ
fewest number = without_zeros (bytes_high_first 4 number)

-- the length octets in DER: one octet up to 127; else 80h plus the count of the fewest octets, and then those (X.690 8.1.3, 10.1)
unfoldable pub length_octets : ℕ → List ℕ
length_octets size = if nat_lt size 128 then size ∷ [] else ((128 + length (fewest size)) ∷ fewest size)

-- the value with this tag octet and these contents: tag, length, contents (X.690 8.1.1.1)
unfoldable pub tlv : ℕ → List ℕ → List ℕ
tlv tag contents = tag ∷ length_octets (length contents) ++ contents

-- the bytes are one value with this tag and these contents: a tag of one octet, so its low five bits aren't all ones (X.690 8.1.2.4),
-- and fewer than 2^32 octets of contents
pub record IsTlv (bytes : List ℕ) (tag : ℕ) (contents : List ℕ) : Type 0 where
  pub one_byte : tag < 256
  pub low_tag : tag % 32 < 31
  pub byte_contents : IsBytes contents
  pub short : length contents < 2 ^ 32
  pub spelled : bytes ≡ tlv tag contents

-- bytes have at most one prefix that is a value: two such prefixes are equal in all parts
abbrev pub NoTwoPrefixes : Type 0
NoTwoPrefixes =
    (a rest_a contents_a b rest_b contents_b : List ℕ) (tag_a tag_b : ℕ)
    → IsTlv a tag_a contents_a → IsTlv b tag_b contents_b → a ++ rest_a ≡ b ++ rest_b
    → (a ≡ b) × (tag_a ≡ tag_b) × (contents_a ≡ contents_b) × (rest_a ≡ rest_b)

-- the octets encode a length in the long form, in the fewest octets or in more: 80h plus the count of the digits, which is 1 to 126, and then
-- the digits (X.690 8.1.3.5)
pub record IsLongForm (octets : List ℕ) (size : ℕ) : Type 0 where
  pub digits : List ℕ
  pub each : IsBytes digits
  pub some : 1 ≤ length digits
  pub few : length digits ≤ 126
  pub counted : octets ≡ (128 + length digits) ∷ digits
  pub spelled : value digits ≡ size

-- the octets encode a length in the short form or in the long form (X.690 8.1.3.3)
abbrev pub IsLength : List ℕ → ℕ → Type 0
IsLength octets size = ((octets ≡ size ∷ []) × (size < 128)) ⊎ IsLongForm octets size

-- the length octets encode the size, and any other octets that encode this size are more (X.690 10.1)
pub record HasFewest (size : ℕ) : Type 0 where
  pub spells : IsLength (length_octets size) size
  pub least : (octets : List ℕ) → IsLength octets size
      → (octets ≡ length_octets size) ⊎ (length (length_octets size) < length octets)

-- the length octets of each size below 2^32 are the fewest
abbrev pub LengthIsFewest : Type 0
LengthIsFewest = (size : ℕ) → size < 2 ^ 32 → HasFewest size

-- a value is longer than its contents by 2 to 6 bytes, and by 2 if the contents have fewer than 128
pub record HasSize (tag : ℕ) (contents : List ℕ) : Type 0 where
  pub least : length contents + 2 ≤ length (tlv tag contents)
  pub most : length (tlv tag contents) ≤ length contents + 6
  pub short : length contents < 128 → length (tlv tag contents) ≡ length contents + 2

abbrev pub ValuesHaveSizes : Type 0
ValuesHaveSizes = (tag : ℕ) (contents : List ℕ) → HasSize tag contents
