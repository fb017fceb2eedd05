-- Why files can't be opened, read or created.
use Rattle.std.specs.Prelude.{◌≡◌, ◌⊎◌, IfOk, Result}
use Rattle.sqlite.specs.Files.{image_of}
use Rattle.sqlite_disk.specs.declared.Disk.{Ghosts as Disk}
use Rattle.sqlite_disk.specs.declared.Files.{Files}
use Rattle.sqlite_wal.specs.Reads.{AreClean}
use Rattle.sqlite_wal.specs.Recovery.{Image}
use Rattle.reg_core.specs.declared.refusal.Fault.TheVariants.{Memory, Store}
use Rattle.reg_desk_files.specs.declared.file_fault.FileFault.{FileFault}
use Rattle.reg_desk_files.specs.declared.read_only.ReadFailure.{ReadFailure}
use Rattle.reg_desk_files.specs.declared.read_only.ReadFailure.TheVariants as unread

-- out of memory, or the store failed
abbrev pub IsFileFault : FileFault → Type 0
IsFileFault why = (why.fault ≡ Memory) ⊎ (why.fault ≡ Store)

-- there is no database in the files yet; or the fault is out of memory or of the store
abbrev pub IsReadFailureOfFiles : ReadFailure → Type 0
IsReadFailureOfFiles unread.Nothing = Unit {0}
IsReadFailureOfFiles (unread.Fault why) = IsFileFault why

-- `IsSo` holds of the result and of the image that the files held, if the disk returned all that was written
abbrev pub ReportsImage
    : {D T E : Type 0} → Disk D → Files D → Files D → Result T E → (T → Image → Type 0) → Type 0
ReportsImage disk old new result IsSo =
    IfOk result (λ found. AreClean disk new.log new.db → IsSo found (image_of disk old))
