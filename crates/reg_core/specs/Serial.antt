-- Serial numbers of certificates (RFC 5280 4.1.2.2) and their text.
use Rattle.std.specs.Prelude.{◌≡◌, ℕ, ◌^◌, ◌<◌, ◌≤◌, Bool, ◌&&◌, List, length, if◌then◌else◌, nat_le, nat_lt, Option, Some, None}
use Rattle.std.specs.Char.{is_digit}
use Rattle.std.specs.Int.{bytes_high_first}
use Rattle.std.specs.List.{list_all}
use Rattle.std.specs.Str.Parse.{AllDigits, digits_value}
use Rattle.hex.specs.Hex.{encode_lower}

-- a serial number is above 0, and its INTEGER has at most 20 octets (RFC 5280 4.1.2.2)
abbrev pub IsSerial : ℕ → Type 0
IsSerial number = (1 ≤ number) × (number < 2 ^ 159)

-- the text writes this serial number: 1 to 40 hexadecimal digits of either case, with leading zeros allowed
pub record IsSerialText (text : List ℕ) (number : ℕ) : Type 0 where
  pub not_empty : 1 ≤ length text
  pub short : length text ≤ 40
  pub digits : AllDigits 16 text
  pub spelled : digits_value 16 text ≡ number
  pub in_range : IsSerial number

-- whether the text writes a serial number
abbrev pub is_serial_text : List ℕ → Bool
is_serial_text text =
    nat_le 1 (length text) && nat_le (length text) 40 && list_all (λ code. is_digit code 16) text
    && nat_le 1 (digits_value 16 text) && nat_lt (digits_value 16 text) (2 ^ 159)

-- the serial number that the text writes, if it writes one
unfoldable pub serial_of : List ℕ → Option ℕ
serial_of text = if is_serial_text text then Some (digits_value 16 text) else None

-- the 20 big-endian bytes of a serial number
unfoldable pub serial_bytes : ℕ → List ℕ
serial_bytes number = bytes_high_first 20 number

-- the text of a serial number: each of its bytes as two hexadecimal digits in lower case
unfoldable pub serial_text : ℕ → List ℕ
serial_text number = encode_lower (serial_bytes number)
