-- The contents octets of an INTEGER (X.690 8.3): two's complement, big-endian, in the fewest octets. No number here is negative.
use Rattle.std.specs.Prelude.{◌≡◌, ℕ, suc, zero, ◌<◌, ◌≤◌, List, [], ◌∷◌, cond, nat_lt, get_or}
use Rattle.std.specs.Int.{bytes_high_first}
use Rattle.std.specs.Int.Digits.{number_from_digits}

-- each number in the list is a byte
abbrev pub IsBytes : List ℕ → Type 0
IsBytes bytes = (i : ℕ) → get_or bytes i 0 < 256

-- the number in big-endian octets, as digits of base 256
abbrev pub value : List ℕ → ℕ
value octets = number_from_digits 256 octets

-- the octets without leading zeros
abbrev pub without_zeros : List ℕ → List ℕ
without_zeros [] = []
without_zeros (zero ∷ octets) = without_zeros octets
without_zeros (suc octet ∷ octets) = suc octet ∷ octets

-- the octets, with a zero in front if the first bit is set, or if there are no octets, as for 0: so the sign bit is clear (X.690 8.3.3)
abbrev pub with_clear_bit : List ℕ → List ℕ
with_clear_bit [] = 0 ∷ []
with_clear_bit (octet ∷ octets) = cond (nat_lt octet 128) (octet ∷ octets) (0 ∷ octet ∷ octets)

-- the contents octets of the INTEGER of a number below 2^160 (X.690 8.3.2, 8.3.3)
unfoldable pub integer : ℕ → List ℕ
integer number = with_clear_bit (without_zeros (bytes_high_first 20 number))

-- the octets are the fewest: there is at least one, and the first nine bits are neither all zero nor all one (X.690 8.3.1, 8.3.2)
abbrev pub IsShortest : List ℕ → Type 0
IsShortest [] = ⊥
IsShortest (first ∷ []) = Unit {0}
IsShortest (first ∷ second ∷ rest) = (first ≡ 0 → 128 ≤ second) × (first ≡ 255 → second < 128)

-- the octets are the contents of the INTEGER of this number, which is not negative: the fewest octets, the first bit clear (X.690 8.3)
pub record IsInteger (octets : List ℕ) (number : ℕ) : Type 0 where
  pub each_byte : IsBytes octets
  pub shortest : IsShortest octets
  pub not_negative : get_or octets 0 0 < 128
  pub spelled : value octets ≡ number
