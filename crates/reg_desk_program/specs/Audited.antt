-- An audit found tables sound: what follows for a register that is opened over the same tables.
use Rattle.std.specs.Prelude.{◌≡◌, ◌≤◌, ℕ, List}
use Rattle.sqlite.specs.Effect.{Database}
use Rattle.sqlite.specs.Files.{file_state, over_files}
use Rattle.sqlite.specs.Held.{Held}
use Rattle.sqlite.specs.State.{HasCleanDisk}
use Rattle.sqlite_disk.specs.declared.Disk as disk
use Rattle.sqlite_store.specs.declared.store.FileStore.{FileStore}
use Rattle.reg_core.specs.Crls.{next_number}
use Rattle.reg_core.specs.Records.{Records}
use Rattle.reg_core.specs.Sound.{CrlsSigned}
use Rattle.reg_office_api.specs.Signers.{OfficeSigners}
use Rattle.reg_crl.specs.Signing.{Identity, signed_since}
use Rattle.reg_office.specs.Stands.{Stands}
use Rattle.reg_store_tables.specs.DerivedRows.{DerivedRows}
use Rattle.reg_store_tables.specs.Shows.{AreRecordsAndDerived}
use Rattle.reg_audit.specs.Complete.{ShowsSound}
use Rattle.reg_audit.specs.Presumed.{IsPresumed}
use Rattle.reg_audit.specs.AuditResults.{CountedBy, IsSound}
use Rattle.reg_core.specs.declared.audit_result.AuditResult.{AuditResult}
use Rattle.reg_desk_program.specs.Files.{IsAudited, IsOpenedFrom}
use Rattle.reg_desk_service.specs.declared.crl_signer.CrlSignerChoice.{CrlSignerChoice}

-- an audit of a file with the result `Sound`, over a disk that returned what was written; and the assumptions about the connection and the file that
-- no audit can check (`IsPresumed`)
pub record FoundSound {D : Type 0} (g : disk.Ghosts D) : Type 0 where
  pub audit_result : AuditResult
  pub audited : IsAudited g audit_result
  pub sound : IsSound audit_result
  pub clean : HasCleanDisk (file_state audited.after)
  pub presumed : IsPresumed over_files audited.connection

-- the tables that were audited
abbrev pub tables_of : {D : Type 0} {g : disk.Ghosts D} → FoundSound g → Database
tables_of found = (file_state found.audited.connection).now

-- a register that was opened over the same tables as were audited: the audit's file is read-only, the register's is written
pub record OpensSame {A D : Type 0} {a : disk.Ghosts A} {g : disk.Ghosts D} (found : FoundSound a)
    (register : Held (FileStore D g)) (signers : OfficeSigners) : Type 0 where
  pub signing : CrlSignerChoice
  pub opened : IsOpenedFrom signing register signers
  pub same : (file_state opened.connection).now ≡ tables_of found

-- The audited tables show records, which are sound and as many as the result says, and the derived tables agree with them. Any records that the
-- tables show stand in each register that is opened over these tables, if each stored CRL there has the signature of the signer, or, below some
-- number that is at most the next one, the placeholder digest: an audit does not check that.
pub record StandsOnceAudited {A D : Type 0} {a : disk.Ghosts A} (g : disk.Ghosts D)
    (signs : Identity → List ℕ → List ℕ → Type 0) (found : FoundSound a) : Type 0 where
  pub shown : ShowsSound (tables_of found)
  pub counted : CountedBy found.audit_result shown.records
  pub stand : (records : Records) (columns : DerivedRows)
      → AreRecordsAndDerived (tables_of found) records columns
      → (register : Held (FileStore D g)) (signers : OfficeSigners) → OpensSame found register signers
      → (since : ℕ) → since ≤ next_number records.crls
      → CrlsSigned (signed_since since signs signers.crls) records
      → Stands over_files signs register signers.crls records
