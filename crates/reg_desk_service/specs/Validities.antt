-- notAfter of a certificate (RFC 5280 4.1.2.5), as the text of a moment.
use Rattle.std.specs.Prelude.{ℕ, cond, nat_lt, ◌==◌, List, [], ◌∷◌, length, drop, get_or, if◌then◌else◌, Option, Some, None}
use Rattle.reg_core.specs.Sequence.{◌>>=◌}
use Rattle.reg_der.specs.TaggedValues.{expect_at, optional_at, whole_at}
use Rattle.reg_der.specs.ValueReading.{value_at}

-- a time as `YYYY-MM-DDTHH:MM:SSZ`, from the two digits of its century, and the 13 bytes YYMMDDHHMMSSZ
abbrev pub dated : ℕ × ℕ → List ℕ → List ℕ
dated century digits =
    century.0 ∷ century.1 ∷ get_or digits 0 0 ∷ get_or digits 1 0 ∷ 45 ∷ get_or digits 2 0 ∷ get_or digits 3 0
    ∷ 45 ∷ get_or digits 4 0 ∷ get_or digits 5 0
    ∷ 84 ∷ get_or digits 6 0 ∷ get_or digits 7 0 ∷ 58 ∷ get_or digits 8 0 ∷ get_or digits 9 0 ∷ 58
    ∷ get_or digits 10 0 ∷ get_or digits 11 0 ∷ get_or digits 12 0 ∷ []

-- the century of a UTCTime, by the first digit of its year: 20 for 0 to 4, else 19 (RFC 5280 4.1.2.5.1)
abbrev pub century : ℕ → ℕ × ℕ
century decade = cond (nat_lt decade 53) (50, 48) (49, 57)

-- the text of a UTCTime YYMMDDHHMMSSZ (RFC 5280 4.1.2.5.1); none unless it has 13 bytes
abbrev pub utc_time_text : List ℕ → Option (List ℕ)
utc_time_text digits = if length digits == 13 then Some (dated (century (get_or digits 0 0)) digits) else None

-- the text of a GeneralizedTime YYYYMMDDHHMMSSZ (RFC 5280 4.1.2.5.2); none unless it has 15 bytes
abbrev pub generalized_text : List ℕ → Option (List ℕ)
generalized_text digits =
    if length digits == 15 then Some (dated (get_or digits 0 0, get_or digits 1 0) (drop 2 digits)) else None

-- the text of a Time, by its tag; none for another tag
abbrev pub validity_time_at : ℕ → List ℕ → Option (List ℕ)
validity_time_at tag digits =
    if tag == 0x17 then utc_time_text digits else if tag == 0x18 then generalized_text digits else None

-- the contents of validity in those of a TBSCertificate: after version, serialNumber, signature and issuer (RFC 5280 4.1)
unfoldable pub validity_at : List ℕ → Option (List ℕ)
validity_at bytes = do
  version ← optional_at 0xA0 bytes
  serial ← expect_at 0x02 version.1
  signature ← expect_at 0x30 serial.1
  issuer ← expect_at 0x30 signature.1
  validity ← expect_at 0x30 issuer.1
  Some validity.0

-- the text of notAfter of a Certificate, which is the second Time in validity
unfoldable pub not_after_at : List ℕ → Option (List ℕ)
not_after_at bytes = do
  certificate ← whole_at 0x30 bytes
  tbs ← expect_at 0x30 certificate
  validity ← validity_at tbs.0
  not_before ← value_at validity
  time ← value_at not_before.1
  validity_time_at time.0.tag time.0.contents
