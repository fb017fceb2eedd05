-- Why a file, a port or the clock can't be used, why a signer does not fit a register, or which part of a policy is invalid: the line of each cause.
use Rattle.std.specs.Prelude.{ℕ, Bool, ◌||◌, nat_lt, List, codes, if◌then◌else◌, Some, None}
use Rattle.std.specs.declared.option.Option.{Option}
use Rattle.std.specs.declared.io.ErrorKind.{ErrorKind}
use Rattle.std.specs.declared.io.ErrorKind.TheVariants as kind
use Rattle.reg_core.specs.declared.cause.Cause.{Cause}
use Rattle.reg_core.specs.declared.cause.Cause.TheVariants as cause

-- the line of standard error for a cause, without its LF
unfoldable pub cause_line : Cause → List ℕ
cause_line cause.NoFile = codes "  no such file"
cause_line cause.NoPermission = codes "  permission denied, or the file system is read-only"
cause_line cause.InUse = codes "  in use by another program"
cause_line cause.Damaged = codes "  damaged, or not a database: check the path and the disk"
cause_line cause.DiskFull = codes "  disk full"
cause_line cause.PathExists = codes "  the path already exists: give another one"
cause_line cause.PortInUse = codes "  port in use"
cause_line cause.Clock = codes "  the machine's clock can't be read"
cause_line cause.OtherAlgorithm = codes "  the latest CRL has another algorithm: set --algorithm to it"
cause_line cause.UnknownAlgorithm = codes "  the latest CRL has an unknown algorithm: run desk audit"
cause_line cause.OtherKey = codes "  --algorithm does not fit the issuer's key"
cause_line cause.Days = codes "  --days: 1 to 398"
cause_line cause.CrlLife = codes "  --crl-life: 1 to 863999"
cause_line cause.OcspLife = codes "  --ocsp-life: 28800 to 863999"
cause_line cause.Cap = codes "  --cap: 1 to 1000000"
cause_line cause.Steps = codes "  1 to 16 MOMENT=DAYS, ascending from 1970-01-01, DAYS 1 to 398"

-- the cause of a failed system call, by the kind of its error, if that has one
unfoldable pub io_cause : ErrorKind → Option Cause
io_cause kind.NotFound = Some cause.NoFile
io_cause kind.PermissionDenied = Some cause.NoPermission
io_cause kind.ReadOnlyFilesystem = Some cause.NoPermission
io_cause kind.AddrInUse = Some cause.InUse
io_cause kind.StorageFull = Some cause.DiskFull
io_cause kind.QuotaExceeded = Some cause.DiskFull
io_cause _ = None

-- the same of the call that creates a file
unfoldable pub create_cause : ErrorKind → Option Cause
create_cause kind.AlreadyExists = Some cause.PathExists
create_cause it = io_cause it

-- the same of the call that binds a port
unfoldable pub port_cause : ErrorKind → Option Cause
port_cause kind.AddrInUse = Some cause.PortInUse
port_cause it = io_cause it

-- whether a number is below `least` or above `most`
abbrev pub is_out : ℕ → ℕ → ℕ → Bool
is_out least most number = nat_lt number least || nat_lt most number

-- the cause for the first value of a policy that is out of its range, if one is (docs/RULES.md, "What is kept")
unfoldable pub policy_cause : ℕ → ℕ → ℕ → ℕ → Option Cause
policy_cause days crl_life ocsp_life cap =
    if is_out 1 398 days then Some cause.Days
    else if is_out 1 863999 crl_life then Some cause.CrlLife
    else if is_out 28800 863999 ocsp_life then Some cause.OcspLife
    else if is_out 1 1000000 cap then Some cause.Cap
    else None
