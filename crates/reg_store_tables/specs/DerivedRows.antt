-- The derived tables: the state letters, their counts and the entries of CRLs; and the days in the office's row.
use Rattle.std.specs.Prelude.{ℕ, ℤ, Bool, true, false, ◌&&◌, nat_lt, List, [], ◌∷◌, codes, filter, length, Option, Some, None, cond}
use Rattle.sqlite_value.specs.declared.value.Value.{Value}
use Rattle.sqlite_value.specs.declared.value.Value.TheVariants.{Null, Text}
use Rattle.sqlite_value.specs.Order.{Row, column}
use Rattle.reg_core.specs.declared.command.Counts.{Counts}
use Rattle.reg_store_tables.specs.Rows.{number, serial_value}

-- the state letter of a certificate at the last accepted moment: G, R or X
pub data Letter : Type 0 where
  good : Letter
  revoked : Letter
  expired : Letter

abbrev pub letter_text : Letter → List ℕ
letter_text good = codes "G"
letter_text revoked = codes "R"
letter_text expired = codes "X"

abbrev pub is_good_letter : Letter → Bool
is_good_letter good = true
is_good_letter revoked = false
is_good_letter expired = false

abbrev pub is_revoked_letter : Letter → Bool
is_revoked_letter good = false
is_revoked_letter revoked = true
is_revoked_letter expired = false

abbrev pub is_expired_letter : Letter → Bool
is_expired_letter good = false
is_expired_letter revoked = false
is_expired_letter expired = true

-- a certificate's state letter
pub record Standing : Type 0 where
  pub serial : ℕ
  pub not_after : ℕ
  pub letter : Letter

-- how many rows have a letter
abbrev pub with_letter : (Letter → Bool) → List Standing → ℕ
with_letter test rows = length (filter (λ row. test row.letter) rows)

-- how many rows have each letter
abbrev pub letter_counts : List Standing → Counts
letter_counts rows =
    record {
      good = with_letter is_good_letter rows;
      revoked = with_letter is_revoked_letter rows;
      expired = with_letter is_expired_letter rows;
    }

-- the letter is that of a good certificate, whose notAfter is before a moment
abbrev pub ends_before : ℕ → Standing → Bool
ends_before now row = is_good_letter row.letter && nat_lt row.not_after now

-- a revocation's entry in CRLs, with its certificate's notAfter, its first CRL, and the last CRL that lists it, if that has been issued
pub record Listed : Type 0 where
  pub serial : ℕ
  pub at : ℕ
  pub reason : ℕ
  pub first : ℕ
  pub not_after : ℕ
  pub last : Option ℕ

-- the rows of the three derived tables, and the days in the office's row
pub record DerivedRows : Type 0 where
  pub letters : List Standing
  pub counts : Counts
  pub listed : List Listed
  pub days : ℤ

-- the column `days` in the first row of the office; Null if there is no row
abbrev pub office_days : List Row → Value
office_days [] = Null
office_days (row ∷ rows) = column row 5

-- standing: serial, not_after, state
abbrev pub stored_standing : Standing → Row
stored_standing row = serial_value row.serial ∷ number row.not_after ∷ Text (letter_text row.letter) ∷ []

-- kept: one, n_good, n_revoked, n_expired
abbrev pub stored_counts : Counts → Row
stored_counts counts =
    number 1 ∷ Null ∷ number counts.good ∷ number counts.revoked ∷ number counts.expired ∷ []

abbrev pub number_or_null : Option ℕ → Value
number_or_null None = Null
number_or_null (Some n) = number n

-- listed: serial, at, reason, first_crl, not_after, last_listed
abbrev pub stored_listed : Listed → Row
stored_listed row =
    serial_value row.serial ∷ number row.at ∷ number row.reason ∷ number row.first ∷ number row.not_after
    ∷ number_or_null row.last ∷ []

-- a value that passes the test is changed, and any other stays
abbrev pub turned : {A : Type 0} → (A → Bool) → (A → A) → A → A
turned test turn x = cond (test x) (turn x) x

-- the derived tables with other counts
abbrev pub with_counts : Counts → DerivedRows → DerivedRows
with_counts counts columns = record columns { counts = counts }
