-- When the derived tables match the records.
use Rattle.std.specs.Prelude.{◌≡◌, ℕ, map, unwrap_or, option_map, IsPermutation}
use Rattle.sqlite_trees.specs.declared.store.Store.{Ghosts}
use Rattle.sqlite.specs.Held.{Held}
use Rattle.sqlite.specs.State.{State}
use Rattle.reg_core.specs.Records.{Records, certificate_in}
use Rattle.reg_core.specs.Status.{status, counts}
use Rattle.reg_core.specs.Crls.{last_listing}
use Rattle.reg_core.specs.declared.rows.CertRow.{CertRow}
use Rattle.reg_core.specs.declared.rows.RevocationRow.{RevocationRow}
use Rattle.reg_core.specs.declared.command.Status.{Status}
use Rattle.reg_core.specs.declared.command.Status.TheVariants.{Unknown, Good, Expired, Revoked}
use Rattle.reg_store_tables.specs.DerivedRows.{Letter, good, revoked, expired, Standing, Listed, DerivedRows}
use Rattle.reg_store_tables.specs.Shows.{AreRecordsAndDerived, HoldsUntil, ShowsBoth, ShowsBothNow}

-- the letter of a status; a registered certificate never has the status unknown
abbrev pub letter_of : Status → Letter
letter_of Unknown = good
letter_of Good = good
letter_of Expired = expired
letter_of (Revoked at reason) = revoked

-- a certificate's row of `standing`: its status at the last accepted moment
abbrev pub standing_of : Records → CertRow → Standing
standing_of records certificate = record {
  serial = certificate.serial;
  not_after = certificate.not_after;
  letter = letter_of (status records certificate.serial records.last);
}

-- the notAfter of a serial number's certificate (RFC 5280 4.1.2.5); 0 if there is none
abbrev pub not_after_of : Records → ℕ → ℕ
not_after_of records serial =
    unwrap_or (option_map (λ certificate. certificate.not_after)
    (certificate_in records.certificates serial)) 0

-- a revocation's row of `listed`: its entry, and the last CRL that lists it, if that has been issued (RFC 5280 3.3)
abbrev pub listed_of : Records → RevocationRow → Listed
listed_of records revocation = record {
  serial = revocation.serial;
  at = revocation.at;
  reason = revocation.reason;
  first = revocation.first;
  not_after = not_after_of records revocation.serial;
  last = last_listing records revocation;
}

-- one letter for each certificate, the counts at the last accepted moment, and one row for each revocation; the rows are in any order
pub record Kept (columns : DerivedRows) (records : Records) : Type 0 where
  pub letters : IsPermutation (map (standing_of records) records.certificates) columns.letters
  pub counts : columns.counts ≡ counts records records.last
  pub listed : IsPermutation (map (listed_of records) records.revocations) columns.listed

-- the tables show the records, with derived tables that match them
abbrev pub ShowsKept : {S : Type 0} → Ghosts S → Held S → Records → Type 0
ShowsKept g h records = (columns : DerivedRows) × ShowsBoth g h records columns × Kept columns records

-- the same before a call, under the conditions of `HoldsUntil`
abbrev pub ShowsKeptUntil : {S : Type 0} → Ghosts S → Held S → Held S → Records → Type 0
ShowsKeptUntil g old new records =
    (columns : DerivedRows) × HoldsUntil g old new (λ db. AreRecordsAndDerived db records columns)
    × Kept columns records

-- the same under the conditions of `ShowsBothNow`
abbrev pub ShowsKeptNow : State → Records → Type 0
ShowsKeptNow s records = (columns : DerivedRows) × ShowsBothNow s records columns × Kept columns records
