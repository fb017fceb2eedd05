-- The files that a database gets if nothing may be written to disk: a file that is only read, or bytes in memory.
use Rattle.std.specs.Prelude.{ℕ, Bool, true, List, Option, Some, None}
use Rattle.sqlite_wal.specs.Recovery.{Image}
use Rattle.reg_desk_files.specs.declared.overlay.Overlay.{Overlay}

-- a log and a database file
abbrev pub image : List ℕ → List ℕ → Image
image log db = record { log = log; db = db }

module _ {F : Type 0} where
  -- the bytes of the file that is read, or, if there is none, those in memory
  abbrev pub bytes_with : (F → List ℕ) → Option F → List ℕ → List ℕ
  bytes_with bytes None kept = kept
  bytes_with bytes (Some file) kept = bytes file

  -- whether each call returns these bytes; memory always does
  abbrev pub honest_with : (F → Bool) → Option F → Bool
  honest_with is_honest None = true
  honest_with is_honest (Some file) = is_honest file

  -- the bytes that a database reads
  abbrev pub bytes_of : (F → List ℕ) → Overlay F → List ℕ
  bytes_of bytes it = bytes_with bytes it.below it.kept.items

  -- the file that is read
  abbrev pub file_below : Overlay F → Option F
  file_below it = it.below
