-- The INTEGER of a number, from any octets that encode the number; it is a DER value.
use Rattle.std.proofs.Common.{◌≡◌, ℕ, ◌^◌, ◌<◌, ◌≤◌, List, length, refl, sym, ap, ◌∙◌, arith}
use Rattle.std.specs.Int.{bytes_high_first}
use Rattle.std.proofs.Math.Nat.{mod-eq_of_lt}
use Rattle.reg_core.specs.Integer.{IsBytes, value, without_zeros, with_clear_bit, integer}
use Rattle.reg_core.proofs.PublicLaws.{octets_are_lowest, integer_is, integers_are_short}
use Rattle.reg_core.specs.Serial.{serial_bytes}
use Rattle.reg_der.specs.Der.{IsTlv}
use Rattle.reg_der.specs.WrittenValues.{integer_value}
use Rattle.reg_der.proofs.Octets.{same_digits}

-- 20 octets hold any such number
value-twenty : (number : ℕ) → number < 2 ^ 160 → value (bytes_high_first 20 number) ≡ number
value-twenty number fits = (octets_are_lowest 20 number).spelled ∙ mod-eq_of_lt (omega arith)

-- octets that spell the number give its INTEGER, however many zeros lead
pub integer_of_octets : (octets : List ℕ) (number : ℕ) → IsBytes octets → number < 2 ^ 160 → value octets ≡ number → with_clear_bit (without_zeros octets) ≡ integer number
unfolding integer
integer_of_octets octets number each fits spelled =
    ap with_clear_bit (same_digits octets (bytes_high_first 20 number) each (octets_are_lowest 20 number).each_byte (spelled ∙ sym (value-twenty number fits)))

-- the eight octets of a u64 give its INTEGER
pub integer_of_word : (number : ℕ) → number < 2 ^ 64 → with_clear_bit (without_zeros (bytes_high_first 8 number)) ≡ integer number
integer_of_word number fits =
    let kept = octets_are_lowest 8 number in
    integer_of_octets (bytes_high_first 8 number) number kept.each_byte (omega arith) (kept.spelled ∙ mod-eq_of_lt (omega arith))

pub integer_is_value : (number : ℕ) → number < 2 ^ 160 → IsTlv (integer_value number) 2 (integer number)
integer_is_value number fits =
    record { one_byte = omega arith; low_tag = omega arith; byte_contents = (integer_is number fits).each_byte; short = (let few = (integers_are_short number).0 in omega arith); spelled = refl }

-- the octets that a serial number is kept in give its INTEGER
pub integer_of_serial : (octets : List ℕ) (serial : ℕ) → octets ≡ serial_bytes serial → serial < 2 ^ 159 → with_clear_bit (without_zeros octets) ≡ integer serial
unfolding serial_bytes
integer_of_serial octets serial is below =
    ap (λ (t : List ℕ). with_clear_bit (without_zeros t)) is
    ∙ integer_of_octets (bytes_high_first 20 serial) serial (octets_are_lowest 20 serial).each_byte (omega arith) (value-twenty serial (omega arith))

-- and there are at most 20 of them (RFC 5280 4.1.2.2)
pub length-integer_serial : (serial : ℕ) → serial < 2 ^ 159 → length (integer serial) ≤ 20
length-integer_serial serial below = (integers_are_short serial).1 below
