-- The values that the records of a register have. Tables could show others.
use Rattle.std.specs.Prelude.{ℕ, ◌<◌}
use Rattle.std.specs.List.{AllByRecursion}
use Rattle.reg_core.specs.Calendar.{IsMoment, clock_end}
use Rattle.reg_core.specs.Label.{IsLabel}
use Rattle.reg_core.specs.Records.{Records}

-- both ends of a validity are moments, at most 9999-12-31T23:59:59Z (RFC 5280 4.1.2.5)
abbrev pub IsValidity : ℕ → ℕ → Type 0
IsValidity not_before not_after = IsMoment not_before × IsMoment not_after

-- a revocation's moment is before the clock's end, and its reasonCode (RFC 5280 5.3.1) is one byte
abbrev pub AreMomentAndReason : ℕ → ℕ → Type 0
AreMomentAndReason at reason = (at < clock_end) × (reason < 256)

-- names are labels, the ends of validities are moments, reasonCodes are one byte; sound records may have other values
pub record HasValues (records : Records) : Type 0 where
  pub names : AllByRecursion (λ row. IsLabel row.name) records.subscribers
  pub validities : AllByRecursion (λ row. IsValidity row.not_before row.not_after) records.certificates
  pub reasons : AllByRecursion (λ row. row.reason < 256) records.revocations
