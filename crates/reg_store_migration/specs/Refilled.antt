-- The derived tables while they are rebuilt from the records.
use Rattle.std.specs.Prelude.{◌≡◌, ℕ, pos, ◌&&◌, nat_le, nat_lt, List, [], ◌∷◌, ◌++◌, map, take, find, Option, option_map, IsPermutation}
use Rattle.sqlite.specs.Effect.{Database}
use Rattle.reg_core.specs.Records.{Records}
use Rattle.reg_core.specs.Schedule.{greatest_of}
use Rattle.reg_core.specs.Sound.{NumberedFrom, NeverDecreases}
use Rattle.reg_core.specs.declared.command.Counts.{Counts}
use Rattle.reg_core.specs.declared.rows.CrlRow.{CrlRow}
use Rattle.reg_core.specs.declared.rows.RevocationRow.{RevocationRow}
use Rattle.reg_store_tables.specs.DerivedRows.{Standing, Listed, DerivedRows, office_days}
use Rattle.reg_store_tables.specs.Kept.{Kept, standing_of, listed_of}
use Rattle.reg_store_tables.specs.Rows.{number}
use Rattle.reg_store_tables.specs.Shows.{AreRecordsAndDerived}

abbrev pub no_counts : Counts
no_counts = record { good = 0; revoked = 0; expired = 0 }

-- empty derived tables, with counts of 0; the office's days are the greatest of a schedule
abbrev pub no_derived_rows : List (ℕ × ℕ) → DerivedRows
no_derived_rows schedule =
    record { letters = []; counts = no_counts; listed = []; days = pos (greatest_of schedule) }

-- the derived tables with these letters
abbrev pub with_letters : List Standing → DerivedRows → DerivedRows
with_letters letters columns = record columns { letters = letters }

-- one letter for each certificate, that at the last accepted moment, in any order
abbrev pub HasLetters : DerivedRows → Records → Type 0
HasLetters columns records = IsPermutation (map (standing_of records) records.certificates) columns.letters

-- CRLs in the order of issue: their numbers are 1, 2, 3 and so on, and no thisUpdate is before an earlier CRL's
abbrev pub AreIssued : List CrlRow → Type 0
AreIssued crls = NumberedFrom (λ crl. crl.number) 1 crls × NeverDecreases (λ crl. crl.this_update) crls

-- the number of the first CRL from a number on whose thisUpdate is after a moment (RFC 5280 3.3); `None` if there is none
abbrev pub last_in : List CrlRow → ℕ → ℕ → Option ℕ
last_in crls first not_after =
    option_map (λ crl. crl.number)
    (find (λ crl. nat_le first crl.number && nat_lt not_after crl.this_update) crls)

-- a revocation's row of `listed`, given these CRLs and its certificate's notAfter
abbrev pub listed_by : List CrlRow → RevocationRow → ℕ → Listed
listed_by crls revocation not_after = record {
  serial = revocation.serial;
  at = revocation.at;
  reason = revocation.reason;
  first = revocation.first;
  not_after = not_after;
  last = last_in crls revocation.first not_after;
}

-- the derived tables with one more row of `listed`
abbrev pub with_listed : Listed → DerivedRows → DerivedRows
with_listed row columns = record columns { listed = columns.listed ++ row ∷ [] }

-- the letters match the records, `listed` has the rows of the first `n` revocations, and the office's days are the greatest of the schedule
abbrev pub HasRelisted : Database → Records → ℕ → Type 0
HasRelisted db records n =
    (columns : DerivedRows) × AreRecordsAndDerived db records columns × HasLetters columns records
    × (columns.listed ≡ map (listed_of records) (take n records.revocations))
    × (columns.days ≡ pos (greatest_of records.policy.schedule))

-- the tables show the records, with derived tables that match them
abbrev pub HasKept : Database → Records → Type 0
HasKept db records = (columns : DerivedRows) × AreRecordsAndDerived db records columns × Kept columns records

-- the office's row has the greatest days of the records' schedule
abbrev pub HasGreatestDays : Database → Records → Type 0
HasGreatestDays db records = office_days (db.trees 0) ≡ number (greatest_of records.policy.schedule)
