-- What the statements that test the tables read of a register's of any version.
use Rattle.std.proofs.Common.{◌≡◌, ◌<◌, ◌≤◌, ◌⊎◌, inl, inr, ℕ, List, [], ◌∷◌, Option, None, Some, Result, Ok, Err, MatchResult, IfOk, IfErr, refl, sym, ap, ◌∙◌, arith}
use Rattle.sqlite_value.specs.declared.value.Value.TheVariants.{Blob}
use Rattle.sqlite_value.specs.Order.{Row, column}
use Rattle.sqlite_sql.specs.Term.{Term, col}
use Rattle.sqlite_tied.specs.Compute.{everything}
use Rattle.sqlite.specs.Effect.{Database}
use Rattle.sqlite.specs.Listing.{understood}
use Rattle.reg_core.specs.Records.{Records}
use Rattle.reg_core.specs.Schedule.{one_step}
use Rattle.reg_store_tables.specs.Rows.{number, stored_office}
use Rattle.reg_store_tables.specs.Schema.{register_schema}
use Rattle.reg_store_tables.specs.Shows.{IsShownBy}
use Rattle.reg_store_tables.specs.Stays.{IsDatabaseFault}
use Rattle.reg_store_tables.specs.declared.fault.StoreFault.{StoreFault}
use Rattle.reg_store_tables.specs.declared.fault.StoreFault.TheVariants.{NotARegister, NewVersion}
use Rattle.reg_store_migration.specs.Older.{older_schema, stored_older, IsShownByOlder}
use Rattle.reg_store_migration.specs.declared.version.OlderVersion.{OlderVersion}
use Rattle.reg_store_migration.specs.declared.version.OlderVersion.TheVariants.{First, Second}
use Rattle.reg_store_opening.specs.VersionAndOffice.{IsNeverRefused, IsRead, InRange, AreOlderOffice, AreVersionRows, version_of, schema_of, IsOfVersion, Refuses}
use Rattle.reg_store_opening.specs.declared.sql.TheConstants.{VERSION, OLDER_OFFICE}
use Rattle.reg_store_opening.proofs.Registered.{ReadsAll, never_refused, row_read, number_one}
use Rattle.reg_store_opening.proofs.ScheduleRows.{one_version, only_row}
use Rattle.reg_store_opening.proofs.TableTexts.{older_names, version_names}

-- ---- the version

abbrev version_columns : List Term
version_columns = col 1 2 ∷ []

version_reads : (version : Option OlderVersion) → ReadsAll (schema_of version) VERSION.now 0 version_columns [] version_names
unfolding understood everything register_schema
version_reads None = record { plain = (refl, refl); unlisted = refl; means = refl; accepted = refl }
version_reads (Some First) = record { plain = (refl, refl); unlisted = refl; means = refl; accepted = refl }
version_reads (Some Second) = record { plain = (refl, refl); unlisted = refl; means = refl; accepted = refl }

pub version_never : (version : Option OlderVersion) → IsNeverRefused (schema_of version) VERSION.now
version_never version = never_refused (schema_of version) VERSION.now 0 version_columns [] version_names (version_reads version)

pub version_read : (version : Option OlderVersion) (db : Database) (rows : List Row) → IsOfVersion version db → IsRead db VERSION.now rows → AreVersionRows (version_of version) rows
version_read version db rows of read =
    (column of.row 2 ∷ [], row_read (schema_of version) VERSION.now version_columns version_names (version_reads version) db of.row of.schema of.office rows read, of.says)

-- a register is of the program's version
pub register_of : (db : Database) (records : Records) → IsShownBy db records → IsOfVersion None db
register_of db records shown = record { schema = shown.schema; row = stored_office shown.rows.days records.issuer records.policy records.last; office = shown.rows.office; says = refl }

pub older_of : (version : OlderVersion) (db : Database) (records : Records) → IsShownByOlder version db records → IsOfVersion (Some version) db
older_of version db records shown =
    record { schema = shown.schema; row = stored_older version shown.days records.issuer records.policy records.last; office = shown.office; says = refl }

one_of_version : (a b : Option OlderVersion) → version_of a ≡ version_of b → a ≡ b
one_of_version None None e = refl
one_of_version None (Some First) e = absurd (omega arith)
one_of_version None (Some Second) e = absurd (omega arith)
one_of_version (Some First) None e = absurd (omega arith)
one_of_version (Some Second) None e = absurd (omega arith)
one_of_version (Some First) (Some First) e = refl
one_of_version (Some First) (Some Second) e = absurd (omega arith)
one_of_version (Some Second) (Some First) e = absurd (omega arith)
one_of_version (Some Second) (Some Second) e = refl

low_version : (version : Option OlderVersion) → (1 ≤ version_of version) × (version_of version ≤ 3)
low_version None = (omega arith, omega arith)
low_version (Some First) = (omega arith, omega arith)
low_version (Some Second) = (omega arith, omega arith)

-- a version up to the program's is told as it is
pub judged_version : (rows : List Row) (version : Option OlderVersion) (r : Result (Option OlderVersion) StoreFault) → AreVersionRows (version_of version) rows
    → IfOk r (λ found. AreVersionRows (version_of found) rows) → (r ≡ Err NewVersion → (n : ℕ) × (3 < n) × AreVersionRows n rows)
    → (r ≡ Err NotARegister → (n : ℕ) → 1 ≤ n → AreVersionRows n rows → ⊥)
    → IfErr r (λ fault. (fault ≡ NotARegister) ⊎ (fault ≡ NewVersion)) → MatchResult r (λ found. found ≡ version) IsDatabaseFault
judged_version rows version (Ok found) one ok newer none faults = one_of_version found version (one_version rows (version_of found) (version_of version) ok one)
judged_version rows version (Err f) one ok newer none (inl is) = absurd (none (ap Err is) (version_of version) (low_version version).0 one)
judged_version rows version (Err f) one ok newer none (inr is) =
    let found = newer (ap Err is) in
    let same : version_of version ≡ found.0 = one_version rows (version_of version) found.0 one found.2 in
    absurd (omega (arith, found.1, same, low_version version))

-- ---- the office of an older version

abbrev older_columns : List Term
older_columns = col 1 3 ∷ col 1 4 ∷ col 1 6 ∷ col 1 7 ∷ col 1 8 ∷ col 1 9 ∷ col 1 5 ∷ []

older_reads : (version : OlderVersion) → ReadsAll (older_schema version) OLDER_OFFICE.now 0 older_columns [] older_names
unfolding understood everything
older_reads First = record { plain = (refl, refl); unlisted = refl; means = refl; accepted = refl }
older_reads Second = record { plain = (refl, refl); unlisted = refl; means = refl; accepted = refl }

pub older_never : (version : OlderVersion) → IsNeverRefused (older_schema version) OLDER_OFFICE.now
older_never version = never_refused (older_schema version) OLDER_OFFICE.now 0 older_columns [] older_names (older_reads version)

module _ (version : OlderVersion) (db : Database) (records : Records) (shown : IsShownByOlder version db records) (rows : List Row) (read : IsRead db OLDER_OFFICE.now rows) where
  abbrev row : Row
  row = Blob records.issuer.name ∷ Blob records.issuer.key ∷ number records.policy.crl_life ∷ number records.policy.ocsp_life ∷ number records.policy.cap ∷ number records.last ∷ number shown.days ∷ []

  rows_are : rows ≡ row ∷ []
  rows_are =
      row_read (older_schema version) OLDER_OFFICE.now older_columns older_names (older_reads version) db (stored_older version shown.days records.issuer records.policy records.last) shown.schema shown.office rows read

  -- an office within its ranges
  older_office : InRange records → AreOlderOffice shown.days records.last rows
  older_office within = (
    row,
    rows_are,
    (refl, refl, ((records.issuer, (within.issuer, refl, refl)), (records.policy, (shown.policy, shown.schedule, refl, refl, refl)), (records.last, (within.last, refl)))),
  )

  -- what is told of it are the days and the last accepted moment of the records
  older_found : (days last : ℕ) → AreOlderOffice days last rows → (records.policy.schedule ≡ one_step days) × (records.last ≡ last)
  older_found days last are =
      let same : are.0 ≡ row = only_row rows are.0 row are.1 rows_are in
      let d : days ≡ shown.days = number_one days shown.days (sym are.2.0 ∙ ap (λ r. column r 6) same) in
      let l : last ≡ records.last = number_one last records.last (sym are.2.1 ∙ ap (λ r. column r 5) same) in
      (shown.schedule ∙ ap one_step (sym d), sym l)

  -- and they are refused as no register's where they are none
  pub older_judged : (r : Result (ℕ × ℕ) StoreFault) → MatchResult r (λ found. AreOlderOffice found.0 found.1 rows) (Refuses ((days last : ℕ) → AreOlderOffice days last rows → ⊥))
      → MatchResult r (λ found. (records.policy.schedule ≡ one_step found.0) × (records.last ≡ found.1)) (λ fault. InRange records → IsDatabaseFault fault)
  older_judged (Ok found) are = older_found found.0 found.1 are
  older_judged (Err f) (inl is) = λ within. inl is
  older_judged (Err f) (inr is) = λ within. absurd (is.1 shown.days records.last (older_office within))
