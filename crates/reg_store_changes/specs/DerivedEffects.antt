-- The effects of the steps of a change on the derived tables.
use Rattle.std.specs.Prelude.{ℕ, ◌+◌, ◌-◌, Bool, ◌&&◌, ◌==◌, nat_lt, [], ◌∷◌, ◌++◌, map, filter, length, is_none, Some, None}
use Rattle.reg_core.specs.declared.command.Counts.{Counts}
use Rattle.reg_core.specs.declared.rows.RevocationRow.{RevocationRow}
use Rattle.reg_store_tables.specs.DerivedRows.{Letter, good, revoked, expired, is_good_letter, ends_before, Standing, Listed, DerivedRows, turned}

-- the row with another letter
abbrev pub lettered : Letter → Standing → Standing
lettered letter row = record row { letter = letter }

-- the letters of good certificates whose notAfter is before a moment become expired
abbrev pub with_expired : ℕ → DerivedRows → DerivedRows
with_expired now columns =
    record columns { letters = map (turned (ends_before now) (lettered expired)) columns.letters }

-- how many good certificates have a notAfter before a moment
abbrev pub count_ended_before : ℕ → DerivedRows → ℕ
count_ended_before now columns = length (filter (ends_before now) columns.letters)

-- the row is that of a good certificate with this serial number
abbrev pub is_good_at : ℕ → Standing → Bool
is_good_at serial row = (row.serial == serial) && is_good_letter row.letter

-- the letter of the good certificate with a serial number becomes revoked
abbrev pub with_revoked_letter : ℕ → DerivedRows → DerivedRows
with_revoked_letter serial columns =
    record columns { letters = map (turned (is_good_at serial) (lettered revoked)) columns.letters }

-- how many good letters a serial number has
abbrev pub good_at : ℕ → DerivedRows → ℕ
good_at serial columns = length (filter (is_good_at serial) columns.letters)

-- the derived tables with the letter of one more certificate, which is good
abbrev pub with_good : ℕ → ℕ → DerivedRows → DerivedRows
with_good serial not_after columns =
    record columns {
      letters = columns.letters
          ++ (record { serial = serial; not_after = not_after; letter = good }) ∷ [];
    }

-- the derived tables with the `listed` row of one more revocation, without a last CRL
abbrev pub with_unlisted : RevocationRow → ℕ → DerivedRows → DerivedRows
with_unlisted row not_after columns =
    record columns {
      listed = columns.listed ++ (record {
        serial = row.serial;
        at = row.at;
        reason = row.reason;
        first = row.first;
        not_after = not_after;
        last = None;
      }) ∷ [];
    }

-- the revocation has no last CRL yet, and its certificate's notAfter is before a moment
abbrev pub has_passed : ℕ → Listed → Bool
has_passed now row = is_none row.last && nat_lt row.not_after now

-- the row with this CRL as its last one
abbrev pub with_last_listing : ℕ → Listed → Listed
with_last_listing number row = record row { last = Some number }

-- the CRL with this number becomes the last one of each revocation that has none yet and whose notAfter is before a moment
abbrev pub with_last_listings : ℕ → ℕ → DerivedRows → DerivedRows
with_last_listings number now columns =
    record columns { listed = map (turned (has_passed now) (with_last_listing number)) columns.listed }

-- the counts after some good certificates ended, some were revoked, and some were added
abbrev pub shifted : Counts → ℕ → ℕ → ℕ → Counts
shifted counts ended newly_revoked added = record {
  good = counts.good + added - (ended + newly_revoked);
  revoked = counts.revoked + newly_revoked;
  expired = counts.expired + ended;
}
