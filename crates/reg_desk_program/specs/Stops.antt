-- The records that a stop at any moment of a job leaves in the register in a file.
use Rattle.std.specs.Prelude.{◌≡◌, ◌⊎◌, Option, None}
use Rattle.sqlite.specs.Closing.{IsCopied}
use Rattle.sqlite.specs.Files.{file_state, image_of, over_files, Finds, IsOpened}
use Rattle.sqlite.specs.Held.{Held}
use Rattle.sqlite.specs.State.{IsLive}
use Rattle.sqlite_disk.specs.declared.Disk as disk
use Rattle.sqlite_disk.specs.declared.Files.{Files}
use Rattle.sqlite_store.specs.declared.store.FileStore.{FileStore}
use Rattle.sqlite_wal.specs.Files.{outcomes}
use Rattle.reg_core.specs.Records.{Records}
use Rattle.reg_office_api.specs.Signers.{OfficeSigners}
use Rattle.reg_office_api.specs.CallSteps.{Signs}
use Rattle.reg_desk_service.specs.declared.crl_signer.CrlSignerChoice.{CrlSignerChoice}
use Rattle.reg_office.specs.AfterStoppedCommand.{ChangingCall}
use Rattle.reg_office.specs.Calls.{StandsFor, StandsWith}
use Rattle.reg_office.specs.InterruptedCalls.{InterruptsOneOfThem, InterruptsOnlyItself}
use Rattle.reg_office.specs.OpenedAgain.{OpensReported}
use Rattle.reg_office.specs.Stands.{SoundFor, Stands}
use Rattle.reg_desk_program.specs.Files.{IsOpenedFrom, Showed}

-- The files of an open connection were closed, perhaps the machine stopped then, and what the files have was opened. `copied` is a clause of
-- `Connection::close_files` in the crate `sqlite`, and `found` and `opened` are clauses of `Connection::open_files`, if the disk returned what was
-- written.
pub record IsReopened {D : Type 0} {g : disk.Ghosts D} (held again : Held (FileStore D g)) : Type 0 where
  pub closed : Files D
  pub copied : IsCopied held closed
  pub files : Files D
  pub kept : (files ≡ closed) ⊎ outcomes g closed.log closed.db (image_of g files)
  pub found : Finds files again
  pub opened : IsOpened again

-- An office is a store and its signers. In an office that is opened, the sound records stand that the file's tables showed, also those of an older
-- version, and no call was interrupted (`begins`). The machine may stop in any later call, or after it. A call that is executed over an open
-- connection interrupts only itself (`call`), and of calls one after another only one is interrupted (`calls`). If a register is then opened again,
-- it has the records that stood in the office, or those after the interrupted call (`leaves`). A closing in order leaves the records that stood
-- (`closes`).
pub record LeavesWhatWasReported {D : Type 0} (g : disk.Ghosts D) (signs : Signs) : Type 0 where
  pub begins : (signing : CrlSignerChoice) (office : Held (FileStore D g) × OfficeSigners)
      (opened : IsOpenedFrom signing office.0 office.1) (records : Records)
      → Showed over_files opened.connection records → SoundFor signs office.1.crls records
      → StandsWith over_files signs office office.1 records None
  pub call : InterruptsOnlyItself (over_files {D = D} {g = g}) signs
  pub calls : InterruptsOneOfThem (over_files {D = D} {g = g}) signs
  pub leaves : (office : Held (FileStore D g) × OfficeSigners) (signers : OfficeSigners) (records : Records)
      (interrupted : Option ChangingCall)
      → StandsWith over_files signs office signers records interrupted
      → OpensReported over_files signs office.0 signers.crls records interrupted
  pub closes : (office : Held (FileStore D g) × OfficeSigners) (signers : OfficeSigners) (records : Records)
      (again : Held (FileStore D g)) → StandsFor over_files signs office signers records
      → IsLive (file_state office.0) → IsReopened office.0 again
      → ∥ Stands over_files signs again signers.crls records ∥₁
