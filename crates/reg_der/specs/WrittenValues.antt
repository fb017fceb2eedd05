-- The values that the register writes: integers, bit strings and times.
use Rattle.std.specs.Prelude.{ℕ, List, ◌∷◌, nat_le, if◌then◌else◌}
use Rattle.reg_core.specs.Integer.{integer}
use Rattle.reg_core.specs.Calendar.{civil_of, utc_text, general_text}
use Rattle.reg_der.specs.Der.{tlv}

-- the INTEGER of a number below 2^160 (X.690 8.3)
abbrev pub integer_value : ℕ → List ℕ
integer_value number = tlv 2 (integer number)

-- the BIT STRING of whole bytes: an octet 0, for no unused bits, and the bytes (X.690 8.6.2)
abbrev pub bits_value : List ℕ → List ℕ
bits_value bytes = tlv 3 (0 ∷ bytes)

-- the GeneralizedTime of a moment (RFC 5280 4.1.2.5.2)
abbrev pub general_value : ℕ → List ℕ
general_value moment = tlv 24 (general_text moment)

-- the Time of a moment: a UTCTime through the year 2049, a GeneralizedTime from 2050 on (RFC 5280 4.1.2.5, 5.1.2.4)
unfoldable pub time_value : ℕ → List ℕ
time_value moment =
    if nat_le (civil_of moment).year 2049 then tlv 23 (utc_text moment) else general_value moment
