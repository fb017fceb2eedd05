-- The civil date and time of a moment in UTC, and the texts of a moment.
use Rattle.std.specs.Prelude.{◌≡◌, ℕ, zero, suc, ◌+◌, ◌-◌, ◌/◌, ◌%◌, ◌<◌, ◌≤◌, Bool, true, false, not, ◌&&◌, ◌||◌, ◌==◌, nat_lt, if◌then◌else◌, List, [], ◌∷◌, ◌++◌, codes, slice_index, pos, bytes_eq, cond, Option, Some, None}
use Rattle.std.specs.Option.{option_or}
use Rattle.jiff_core.specs.Calendar.{IsCivilDate, days_from_civil}
use Rattle.reg_core.specs.declared.calendar.Civil.{Civil}

-- whole seconds since 1970-01-01T00:00:00Z, through 9999-12-31T23:59:59Z (RFC 5280 4.1.2.5)
abbrev pub IsMoment : ℕ → Type 0
IsMoment seconds = seconds < 253402300800

-- the register accepts moments before 9999-12-22T00:00:00Z, ten days before the year 10000, so that each nextUpdate has a GeneralizedTime
-- (RFC 5280 4.1.2.5.2)
abbrev pub clock_end : ℕ
clock_end = 253401436800

-- the Gregorian rule: a year divisible by 4 is a leap year, unless it is divisible by 100 and not by 400
abbrev pub is_leap : ℕ → Bool
is_leap year = (year % 4 == 0) && (not (year % 100 == 0) || (year % 400 == 0))

-- the number of days of a month
abbrev pub month_length : ℕ → ℕ → ℕ
month_length year month =
    if month == 2 then (if is_leap year then 29 else 28)
    else (if (month == 4) || (month == 6) || (month == 9) || (month == 11) then 30 else 31)

-- The year, month and day of the date that is `days` days after the first of a month. The recursion goes on month by month, and
-- from December (month / 12 is 1) to the next year. `steps` bounds the recursion, which needs at most `days` steps.
unfoldable pub date_after : ℕ → ℕ → ℕ → ℕ → ℕ × ℕ × ℕ
date_after zero year month days = (year, month, days + 1)
date_after (suc steps) year month days =
    elim (nat_lt days (month_length year month)) [
      | true ↦ (year, month, days + 1)
      | false ↦ date_after steps (year + month / 12) (month % 12 + 1) (days - month_length year month)
    ]

-- the date and time of a moment: days of 86,400 seconds from 1 January 1970, without leap seconds
unfoldable pub civil_of : ℕ → Civil
civil_of seconds =
    let days = seconds / 86400 in
    let date = date_after days 1970 1 days in
    record {
      year = date.0;
      month = date.1;
      day = date.2;
      hour = seconds % 86400 / 3600;
      minute = seconds % 3600 / 60;
      second = seconds % 60;
    }

-- the date and time of a moment, by the calendar of jiff: a date that exists, with the day number of the moment
pub record IsCivilAt (seconds : ℕ) (c : Civil) : Type 0 where
  pub date : IsCivilDate (pos c.year) c.month c.day
  pub day_number : days_from_civil (pos c.year) c.month c.day ≡ pos (seconds / 86400)
  pub hour : c.hour ≡ seconds % 86400 / 3600
  pub minute : c.minute ≡ seconds % 3600 / 60
  pub second : c.second ≡ seconds % 60

-- the range of each field; a month may have fewer than 31 days
pub record IsCivil (c : Civil) : Type 0 where
  pub first_year : 1970 ≤ c.year
  pub last_year : c.year ≤ 9999
  pub first_month : 1 ≤ c.month
  pub last_month : c.month ≤ 12
  pub first_day : 1 ≤ c.day
  pub last_day : c.day ≤ 31
  pub hour : c.hour < 24
  pub minute : c.minute < 60
  pub second : c.second < 60

-- each field fits into the digits that a text has for it: four for the year, two for any other
pub record HasDigits (c : Civil) : Type 0 where
  pub year : c.year < 10000
  pub month : c.month < 100
  pub day : c.day < 100
  pub hour : c.hour < 100
  pub minute : c.minute < 100
  pub second : c.second < 100

-- a number below 100 in two decimal digits (48 is the code of `0`)
abbrev pub two_digits : ℕ → List ℕ
two_digits n = (48 + n / 10) ∷ (48 + n % 10) ∷ []

-- a number below 10000 in four decimal digits
abbrev pub four_digits : ℕ → List ℕ
four_digits n = two_digits (n / 100) ++ two_digits (n % 100)

-- the two bytes from index `at` on are the two digits of this number below 100
abbrev pub Spells : List ℕ → ℕ → ℕ → Type 0
Spells text at n = (n < 100) × ((slice_index text at ∷ slice_index text (at + 1) ∷ []) ≡ two_digits n)

-- `YYYY-MM-DDTHH:MM:SSZ` (RFC 3339 5.6)
unfoldable pub date_time : Civil → List ℕ
date_time c =
    four_digits c.year ++ codes "-" ++ two_digits c.month ++ codes "-" ++ two_digits c.day
    ++ codes "T" ++ two_digits c.hour ++ codes ":" ++ two_digits c.minute ++ codes ":" ++ two_digits c.second
    ++ codes "Z"

-- `YYMMDDHHMMSSZ` (RFC 5280 4.1.2.5.1)
unfoldable pub utc_time : Civil → List ℕ
utc_time c =
    two_digits (c.year % 100) ++ two_digits c.month ++ two_digits c.day
    ++ two_digits c.hour ++ two_digits c.minute ++ two_digits c.second ++ codes "Z"

-- `YYYYMMDDHHMMSSZ` (RFC 5280 4.1.2.5.2)
unfoldable pub generalized_time : Civil → List ℕ
generalized_time c =
    four_digits c.year ++ two_digits c.month ++ two_digits c.day
    ++ two_digits c.hour ++ two_digits c.minute ++ two_digits c.second ++ codes "Z"

-- the text of a moment: `YYYY-MM-DDTHH:MM:SSZ` (RFC 3339 5.6)
unfoldable pub moment_text : ℕ → List ℕ
moment_text seconds = date_time (civil_of seconds)

-- the least number below a bound that passes a test
unfoldable pub first_below : (ℕ → Bool) → ℕ → Option ℕ
first_below test zero = None
first_below test (suc n) = option_or (first_below test n) (cond (test n) (Some n) None)

-- the moment with this text (a moment is below 253402300800)
unfoldable pub moment_of : List ℕ → Option ℕ
moment_of text = first_below (λ m. bytes_eq text (moment_text m)) 253402300800

-- the contents of the UTCTime of a moment through 2049 (RFC 5280 4.1.2.5.1): the year in two digits, of which 00 to 49 mean 2000 to 2049
unfoldable pub utc_text : ℕ → List ℕ
utc_text seconds = utc_time (civil_of seconds)

-- the contents of the GeneralizedTime of a moment (RFC 5280 4.1.2.5.2)
unfoldable pub general_text : ℕ → List ℕ
general_text seconds = generalized_time (civil_of seconds)

-- a byte from `-` (45) to `Z` (90), as each byte of a moment's text is: no space, no line end, none above 127
abbrev pub IsTextByte : ℕ → Type 0
IsTextByte byte = (45 ≤ byte) × (byte ≤ 90)
