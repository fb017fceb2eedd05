-- Statements about a register in a file: how it was opened, created or audited.
use Rattle.std.specs.Prelude.{◌≡◌, ◌≤◌, ◌⊎◌, Some, None}
use Rattle.sqlite.specs.Files.{file_state, over_files, IsOpened}
use Rattle.sqlite.specs.Held.{Held, IsNew, state}
use Rattle.sqlite.specs.Start.{FindsIn}
use Rattle.sqlite.specs.State.{HasCleanDisk, IsLive, Opens}
use Rattle.sqlite_trees.specs.declared.store.Store.{Ghosts}
use Rattle.sqlite_wal.specs.Recovery.{Image}
use Rattle.sqlite_disk.specs.declared.Disk as disk
use Rattle.sqlite_store.specs.declared.store.FileStore.{FileStore}
use Rattle.sqlite_trees.specs.View.{doubt}
use Rattle.reg_core.specs.Records.{Records}
use Rattle.reg_core.specs.Reached.{Reached}
use Rattle.reg_core.specs.Sound.{SoundRows}
use Rattle.reg_store_migration.specs.Older.{ShowsOlder}
use Rattle.reg_store_migration.specs.declared.version.OlderVersion.{OlderVersion}
use Rattle.reg_store_tables.specs.DerivedRows.{DerivedRows}
use Rattle.reg_store_tables.specs.Kept.{Kept, ShowsKept}
use Rattle.reg_store_tables.specs.Schema.{no_schema}
use Rattle.reg_store_tables.specs.Shows.{ShowsBoth}
use Rattle.reg_store_tables.specs.Stays.{IsRegister, Stays}
use Rattle.reg_audit.specs.Complete.{ShowsSound}
use Rattle.reg_audit.specs.Stored.{IsSomeCrl}
use Rattle.reg_audit.specs.ReadableValues.{HasAllowedDays}
use Rattle.reg_audit.specs.Presumed.{IsPresumed}
use Rattle.reg_audit.specs.AuditResults.{CountedBy, DisprovedBy, IsSound, ReportsTables}
use Rattle.reg_core.specs.declared.audit_result.AuditResult.{AuditResult}
use Rattle.reg_office_api.specs.CallSteps.{Signs}
use Rattle.reg_office_api.specs.Signers.{OfficeSigners}
use Rattle.reg_crl.specs.Signing.{Identity}
use Rattle.reg_crl.specs.declared.signer.Signer.{Ghosts as Signer}
use Rattle.reg_desk_cli.specs.declared.failure.Failure.{Failure}
use Rattle.reg_desk_cli.specs.declared.failure.Failure.TheVariants as failure
use Rattle.reg_desk_files.specs.declared.read_only.ReadFailure.{ReadFailure}
use Rattle.reg_desk_files.specs.declared.read_only.ReadFailure.TheVariants as unread
use Rattle.reg_office.specs.AfterStoppedCommand.{LeavesThese, LeavesReported}
use Rattle.reg_office.specs.Calls.{seen}
use Rattle.reg_office.specs.Stands.{Stands}
use Rattle.reg_office.specs.declared.office.Office.{Office}
use Rattle.reg_office_reads.specs.declared.responder.Responder.{Responder}
use Rattle.reg_desk_service.specs.Signers.{EmbeddedKeyFits, Follows, IsSigning}
use Rattle.reg_desk_service.specs.declared.crl_signer.CrlSignerChoice.{CrlSignerChoice}

-- the tables showed the records of a register, of this program's version or of an older one
abbrev pub Showed : {C : Type 0} → Ghosts C → Held C → Records → Type 0
Showed g held records =
    ShowsKept g held records
    ⊎ ((version : OlderVersion) × ShowsOlder version g held records × SoundRows records)

-- A connection to a database.
module _ {C : Type 0} (g : Ghosts C) (connection : Held C) where
  -- its database is complete if its store returned what was written
  abbrev pub IsWhole : Type 0
  IsWhole = HasCleanDisk (state g connection) → Opens (state g connection) × IsLive (state g connection)

  -- A register that was opened over it has the records that the tables showed, also those of an older version. The signer of CRLs is the given one,
  -- or one with the algorithm of the latest CRL if nothing is to be signed. It has the issuer's key, and the algorithm of the latest CRL unless
  -- that has a placeholder digest. A certificate that is embedded in OCSP responses signed with the issuer's key has that key. A stop leaves
  -- the records that the tables showed, if the database was complete (`IsWhole`).
  pub record OpensOver (signing : CrlSignerChoice) (register : Held C) (signers : OfficeSigners) : Type 0 where
    pub shows : (records : Records) → Showed g connection records → ShowsKept g register records
    pub clean : doubt (state g connection).is_clean ≤ doubt (state g register).is_clean
    pub is_signing : (records : Records) → Showed g connection records → HasCleanDisk (state g register)
        → IsSigning signing records.issuer.key signers.crls
    pub follows : (records : Records) → Showed g connection records → SoundRows records
        → HasCleanDisk (state g register)
        → Follows records signers.crls.algorithm
    pub embeds : (records : Records) → Showed g connection records → HasCleanDisk (state g register)
        → EmbeddedKeyFits records.issuer.key signers.answers
    pub leaves : IsWhole → (records : Records) → Showed g connection records → LeavesThese g register records

  -- In a register that was created over it these records stand, and a stop leaves them. The database had no table, index or view.
  pub record MakesOver (signs : Signs) (register : Held C) (signers : Identity)
      (records : Records) : Type 0 where
    pub stands : Stands g signs register signers records
    pub leaves : IsWhole → LeavesReported g signs register signers records None
    pub empty : connection.schema ≡ no_schema
    pub clean : doubt (state g connection).is_clean ≤ doubt (state g register).is_clean

module _ {D : Type 0} {g : disk.Ghosts D} where
  -- a connection that is new and in no transaction, to a database that is complete if the disk returned what was written
  pub record IsConnection (connection : Held (FileStore D g)) : Type 0 where
    pub fresh : IsNew connection
    pub whole : HasCleanDisk (file_state connection) → IsOpened connection

  -- a register was opened over a connection to a file
  pub record IsOpenedFrom (signing : CrlSignerChoice) (register : Held (FileStore D g))
      (signers : OfficeSigners) : Type 0 where
    pub connection : Held (FileStore D g)
    pub connects : IsConnection connection
    pub opens : OpensOver over_files connection signing register signers

  -- a register was created over a connection to a database with no table, index or view
  pub record IsMadeFrom (connection register : Held (FileStore D g)) : Type 0 where
    pub empty : connection.schema ≡ no_schema
    pub clean : doubt (file_state connection).is_clean ≤ doubt (file_state register).is_clean

  -- an office was opened over a connection to a file, with this signer of CRLs and this responder
  pub record OpensFor {S : Type 0} (signer : Signer S) (connection : Held (FileStore D g)) (crls : CrlSignerChoice)
      (responder : Responder S)
      (office : Office (FileStore D g) S) : Type 0 where
    pub opens : OpensOver over_files connection crls office.store (seen signer office).1
    pub answers : office.responder ≡ responder

-- An audit of a database, with its state before and after: the tables did not change. If the result is `Sound`, they are a register's tables: any
-- records that they showed are sound (`Reached`) and as many as the result says, the bytes of each CRL are those of its entries with any signature,
-- the derived tables agree with the records, and the column `days` of `office` is one that a schedule can have. There are such records if the
-- connection has what `IsPresumed` states. If the result is a broken row, the tables showed no sound records with a register's values; if that row is
-- not the bytes of a CRL, this is true whatever the bytes of CRLs are. An older version and other tables are reported only if the tables have them.
pub record Says {D : Type 0} {g : disk.Ghosts D} (connection after : Held (FileStore D g))
    (audit_result : AuditResult) : Type 0 where
  pub sound : (records : Records) (columns : DerivedRows) → ShowsBoth over_files connection records columns
      → HasCleanDisk (file_state after)
      → IsSound audit_result → Reached IsSomeCrl records × Kept columns records × HasAllowedDays columns
  pub shown : IsPresumed over_files connection → HasCleanDisk (file_state after) → IsSound audit_result
      → ShowsSound (file_state connection).now
  pub counted : (records : Records) (columns : DerivedRows) → ShowsBoth over_files connection records columns
      → HasCleanDisk (file_state after)
      → CountedBy audit_result records
  pub broken : (records : Records) (columns : DerivedRows) → ShowsBoth over_files connection records columns
      → HasCleanDisk (file_state after)
      → DisprovedBy audit_result records columns
  pub reports_tables : HasCleanDisk (file_state after) → ReportsTables audit_result (file_state connection).now
  pub register : IsSound audit_result → IsRegister (file_state after)
  pub stays : Stays (file_state connection) (file_state after)

-- an audit of a database had this result: the connection before and after it, and what the result says
pub record IsAudited {D : Type 0} (g : disk.Ghosts D) (audit_result : AuditResult) : Type 0 where
  pub connection : Held (FileStore D g)
  pub after : Held (FileStore D g)
  pub connects : IsConnection connection
  pub says : Says connection after audit_result

-- an audit of files with these bytes had this result: the connection found the database that the bytes encode
pub record IsAuditOf {D : Type 0} (g : disk.Ghosts D) (image : Image)
    (audit_result : AuditResult) : Type 0 where
  pub audited : IsAudited g audit_result
  pub found : HasCleanDisk (file_state audited.connection) → FindsIn image (file_state audited.connection)

-- the failure of a job for files that can't be read
abbrev pub failure_of : ReadFailure → Failure
failure_of unread.Nothing = failure.NotARegister
failure_of (unread.Fault why) = failure.Fault why.fault
