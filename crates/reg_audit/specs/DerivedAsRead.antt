-- The rows of the derived tables, as they were read.
use Rattle.std.specs.Prelude.{◌≡◌, ℕ, Bool, true, false, List, length, map, filter, Option, None, Some}
use Rattle.reg_core.specs.Status.{status_by}
use Rattle.reg_core.specs.declared.command.Counts.{Counts}
use Rattle.reg_core.specs.declared.command.Status.{Status}
use Rattle.reg_core.specs.declared.command.Status.TheVariants as state
use Rattle.reg_core.specs.declared.rows.CertRow.{CertRow}
use Rattle.reg_core.specs.declared.rows.CrlRow.{CrlRow}
use Rattle.reg_core.specs.declared.rows.RevocationRow.{RevocationRow}
use Rattle.reg_store_tables.specs.DerivedRows as column
use Rattle.reg_store_migration.specs.Refilled.{last_in}
use Rattle.reg_audit.specs.declared.derived_rows.StoredDerivedRows.{StoredDerivedRows}
use Rattle.reg_audit.specs.declared.derived_rows.Letter.{Letter}
use Rattle.reg_audit.specs.declared.derived_rows.Letter.TheVariants.{Good, Revoked, Expired}
use Rattle.reg_audit.specs.declared.derived_rows.Standing.{Standing}
use Rattle.reg_audit.specs.declared.derived_rows.Listed.{Listed}

-- the letter in reg_store_tables `DerivedRows` for a letter of the code
abbrev pub letter_in : Letter → column.Letter
letter_in Good = column.good
letter_in Revoked = column.revoked
letter_in Expired = column.expired

abbrev pub standing_in : Standing → column.Standing
standing_in row = record { serial = row.serial; not_after = row.not_after; letter = letter_in row.letter }

abbrev pub listed_in : Listed → column.Listed
listed_in row =
    record {
      serial = row.serial;
      at = row.at;
      reason = row.reason;
      first = row.first;
      not_after = row.not_after;
      last = row.last;
    }

-- the rows that were read are those of these derived tables
pub record AreDerivedRowsOf (kept : StoredDerivedRows) (columns : column.DerivedRows) : Type 0 where
  pub letters : map standing_in kept.letters.now ≡ columns.letters
  pub counts : kept.counts ≡ columns.counts
  pub listed : map listed_in kept.listed.now ≡ columns.listed

-- the letter of a status; a registered certificate never has the status unknown
abbrev pub letter_by : Status → Letter
letter_by state.Unknown = Good
letter_by state.Good = Good
letter_by state.Expired = Expired
letter_by (state.Revoked at reason) = Revoked

-- a certificate's row of `standing`, by its status at a moment, with the revocation that a look-up finds
abbrev pub standing_by : ℕ → (ℕ → Option RevocationRow) → CertRow → Standing
standing_by last revocations certificate = record {
  serial = certificate.serial;
  not_after = certificate.not_after;
  letter = letter_by (status_by last (Some certificate) (revocations certificate.serial));
}

-- the notAfter of a certificate that was looked up; 0 if there is none
abbrev pub found_not_after : Option CertRow → ℕ
found_not_after None = 0
found_not_after (Some certificate) = certificate.not_after

-- a revocation's row of `listed`, by these CRLs, with the certificate that a look-up finds
abbrev pub listed_with : List CrlRow → (ℕ → Option CertRow) → RevocationRow → Listed
listed_with crls certificates revocation = record {
  serial = revocation.serial;
  at = revocation.at;
  reason = revocation.reason;
  first = revocation.first;
  not_after = found_not_after (certificates revocation.serial);
  last = last_in crls revocation.first (found_not_after (certificates revocation.serial));
}

abbrev pub same_letter : Letter → Letter → Bool
same_letter Good Good = true
same_letter Good Revoked = false
same_letter Good Expired = false
same_letter Revoked Good = false
same_letter Revoked Revoked = true
same_letter Revoked Expired = false
same_letter Expired Good = false
same_letter Expired Revoked = false
same_letter Expired Expired = true

-- how many rows have each letter
abbrev pub found_counts : List Standing → Counts
found_counts rows = record {
  good = length (filter (λ row. same_letter row.letter Good) rows);
  revoked = length (filter (λ row. same_letter row.letter Revoked) rows);
  expired = length (filter (λ row. same_letter row.letter Expired) rows);
}
