-- Decimal numbers as the register reads them.
use Rattle.std.specs.Prelude.{◌≡◌, ℕ, ◌≤◌, Bool, ◌&&◌, List, length, if◌then◌else◌, nat_le, Option, Some, None}
use Rattle.std.specs.Char.{is_digit}
use Rattle.std.specs.List.{list_all}
use Rattle.std.specs.Str.Parse.{AllDigits, digits_value}

-- the text writes this number: 1 to 18 decimal digits, with leading zeros allowed
pub record IsNumberText (text : List ℕ) (number : ℕ) : Type 0 where
  pub not_empty : 1 ≤ length text
  pub short : length text ≤ 18
  pub digits : AllDigits 10 text
  pub spelled : digits_value 10 text ≡ number

-- whether the text writes a number
abbrev pub is_number_text : List ℕ → Bool
is_number_text text =
    nat_le 1 (length text) && nat_le (length text) 18 && list_all (λ code. is_digit code 10) text

-- the number that the text writes, if it writes one
unfoldable pub number_of : List ℕ → Option ℕ
number_of text = if is_number_text text then Some (digits_value 10 text) else None
