-- Failures of the system, which end the event loop.
use Rattle.std.specs.Prelude.{◌≡◌, ◌≢◌, ◌⊎◌, ℕ, pos, Some}
use Rattle.std.specs.IoError.{error_kind, raw_os_error}
use Rattle.std.specs.declared.io.Error.{Error}
use Rattle.std.specs.declared.io.ErrorKind.TheVariants.{ConnectionAborted, Interrupted, WouldBlock}

-- The event loop ended early: the system failed, or the loop waited for its sockets 2^64 - 1 times.
abbrev pub EndsEarly : Type 0 → (ℕ → Type 0) → Type 0
EndsEarly failed waited = failed ⊎ waited 18446744073709551615

-- no file descriptor is left, in the process (EMFILE) or in the system (ENFILE)
abbrev pub IsOutOfDescriptors : Error → Type 0
IsOutOfDescriptors error = (raw_os_error error ≡ Some (pos 24)) ⊎ (raw_os_error error ≡ Some (pos 23))

-- accept(2) gave this error: the system failed, unless no connection waits, a signal came, the client is gone, or no descriptor is left
abbrev pub AcceptFails : Type 0 → Error → Type 0
AcceptFails failed error =
    error_kind error ≢ WouldBlock → error_kind error ≢ Interrupted → error_kind error ≢ ConnectionAborted
    → (IsOutOfDescriptors error → ⊥) → failed
