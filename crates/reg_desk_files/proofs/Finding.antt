-- The database that a connection to files finds, from what the files have returned so far; and the bytes of a copy of a file.
use Rattle.std.proofs.Common.{◌≡◌, ◌<◌, ◌∙◌, ◌++◌, ℕ, Bool, cond, List, length, slice_index, take, drop, sym, ap, arith, append-nil, drop_of_length-le, take_all, zero-add}
use Rattle.std.proofs.lemmas.List.{ext_get_or}
use Rattle.sqlite_disk.specs.Disk.{Holds}
use Rattle.sqlite_disk.specs.Events.{Event, replay}

-- what a file that held these bytes shows after a history
abbrev pub shown : List ℕ → List ℕ → Bool → List Event → List ℕ
shown log db is_log history = (replay (cond is_log log db) history).seen

-- bytes that agree with a file from its beginning on, and are as many as it has, are the file's
pub whole : (file copy : List ℕ) → length copy ≡ length file → (0 < length copy → Holds file 0 copy) → copy ≡ file
whole file copy same holds = ext_get_or 0 copy file same (λ i low. sym ((holds (omega (arith, low))).each i low) ∙ ap (slice_index file) (zero-add i))

-- bytes that overwrite a whole list are the list
pub over_all : (len : ℕ) (new old : List ℕ) → length new ≡ length old → len ≡ length old → take len (new ++ drop (length new) old) ≡ new
over_all len new old same all =
    ap (λ (rest : List ℕ). take len (new ++ rest)) (drop_of_length-le old (omega arith)) ∙ ap (take len) (append-nil new) ∙ take_all len new (omega arith)
