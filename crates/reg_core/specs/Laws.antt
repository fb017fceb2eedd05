-- Laws over the definitions: octets and the numbers that they encode, INTEGERs, serial numbers, and the reading of texts.
use Rattle.std.specs.Prelude.{◌≡◌, ◌↔◌, ℕ, ◌+◌, ◌*◌, ◌%◌, ◌^◌, ◌<◌, ◌≤◌, List, ◌∷◌, decimal, length, Some}
use Rattle.std.specs.Cmp.Lexicographic.{slice_cmp}
use Rattle.std.specs.Int.{bytes_high_first}
use Rattle.std.specs.Ordering.{nat_cmp}
use Rattle.reg_core.specs.Calendar.{IsMoment, moment_text}
use Rattle.reg_core.specs.Integer.{IsBytes, IsInteger, integer, value, without_zeros}
use Rattle.reg_core.specs.Number.{IsNumberText, number_of}
use Rattle.reg_core.specs.Serial.{IsSerial, IsSerialText, serial_bytes, serial_of, serial_text}

-- ---- octets

-- an octet that n octets follow adds its own number times 256^n
abbrev pub OctetsAreDigits : Type 0
OctetsAreDigits =
    (octet : ℕ) (octets : List ℕ) → value (octet ∷ octets) ≡ octet * 256 ^ length octets + value octets

-- the number in n octets is below 256^n
abbrev pub OctetsAreBelow : Type 0
OctetsAreBelow = (octets : List ℕ) → IsBytes octets → value octets < 256 ^ length octets

-- leading zeros don't change the number
abbrev pub ZerosCountNothing : Type 0
ZerosCountNothing = (octets : List ℕ) → value (without_zeros octets) ≡ value octets

-- octets of the same count with the same number are the same
abbrev pub OneSpelling : Type 0
OneSpelling =
    (xs ys : List ℕ) → IsBytes xs → IsBytes ys → length xs ≡ length ys → value xs ≡ value ys → xs ≡ ys

-- the lowest `count` octets of a number: there are `count` of them, each is a byte, and they encode the number modulo 256^count
pub record AreLowest (count number : ℕ) : Type 0 where
  pub counted : length (bytes_high_first count number) ≡ count
  pub each_byte : IsBytes (bytes_high_first count number)
  pub spelled : value (bytes_high_first count number) ≡ number % 256 ^ count

-- `bytes_high_first` gives the lowest octets of a number
abbrev pub OctetsAreLowest : Type 0
OctetsAreLowest = (count number : ℕ) → AreLowest count number

-- octets of the same count, compared one by one, are in the order of their numbers
abbrev pub OctetsInOrder : Type 0
OctetsInOrder =
    (xs ys : List ℕ) → IsBytes xs → IsBytes ys → length xs ≡ length ys
    → slice_cmp nat_cmp xs ys ≡ nat_cmp (value xs) (value ys)

-- ---- INTEGERs (X.690 8.3) of numbers below 2^160

-- `integer` gives the INTEGER of a number
abbrev pub IntegersAreSpelled : Type 0
IntegersAreSpelled = (number : ℕ) → number < 2 ^ 160 → IsInteger (integer number) number

-- a number has no other INTEGER
abbrev pub OneInteger : Type 0
OneInteger =
    (octets : List ℕ) (number : ℕ) → number < 2 ^ 160 → IsInteger octets number → octets ≡ integer number

-- numbers with the same INTEGER are the same
abbrev pub OneNumber : Type 0
OneNumber = (m n : ℕ) → m < 2 ^ 160 → n < 2 ^ 160 → integer m ≡ integer n → m ≡ n

-- `integer` gives at most 21 octets, and at most 20 for a number below 2^159, such as a serial number (RFC 5280 4.1.2.2)
abbrev pub IntegersAreShort : Type 0
IntegersAreShort =
    (number : ℕ) → (length (integer number) ≤ 21) × (number < 2 ^ 159 → length (integer number) ≤ 20)

-- ---- serial numbers

-- the 20 octets of serial numbers, compared one by one, are in the order of the numbers
abbrev pub SerialsInOrder : Type 0
SerialsInOrder =
    (m n : ℕ) → IsSerial m → IsSerial n → slice_cmp nat_cmp (serial_bytes m) (serial_bytes n) ≡ nat_cmp m n

-- serial numbers with the same 20 octets are the same
abbrev pub OneSerial : Type 0
OneSerial = (m n : ℕ) → IsSerial m → IsSerial n → serial_bytes m ≡ serial_bytes n → m ≡ n

-- ---- texts

-- moments with the same text are the same
abbrev pub OneMoment : Type 0
OneMoment = (a b : ℕ) → IsMoment a → IsMoment b → moment_text a ≡ moment_text b → a ≡ b

-- a number is read from a text exactly if the text writes that number
abbrev pub NumbersAreRead : Type 0
NumbersAreRead = (text : List ℕ) (number : ℕ) → (number_of text ≡ Some number) ↔ IsNumberText text number

-- a serial number is read from a text exactly if the text writes that serial number
abbrev pub SerialsAreRead : Type 0
SerialsAreRead = (text : List ℕ) (serial : ℕ) → (serial_of text ≡ Some serial) ↔ IsSerialText text serial

-- a number below 10^18 is read from its digits, and a serial number from its text
abbrev pub WrittenNumbersAreRead : Type 0
WrittenNumbersAreRead = (number : ℕ) → number < 10 ^ 18 → IsNumberText (decimal number) number

abbrev pub WrittenSerialsAreRead : Type 0
WrittenSerialsAreRead = (serial : ℕ) → IsSerial serial → IsSerialText (serial_text serial) serial
