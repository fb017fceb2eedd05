-- The status of serial numbers, and the number of registered certificates with each status.
use Rattle.std.specs.Prelude.{ℕ, Bool, true, false, cond, nat_lt, List, length, filter, Option, Some, None}
use Rattle.reg_core.specs.Records.{Records, certificate_in, revocation_in}
use Rattle.reg_core.specs.declared.rows.CertRow.{CertRow}
use Rattle.reg_core.specs.declared.rows.RevocationRow.{RevocationRow}
use Rattle.reg_core.specs.declared.command.Counts.{Counts}
use Rattle.reg_core.specs.declared.command.Status.{Status}
use Rattle.reg_core.specs.declared.command.Status.TheVariants.{Unknown, Good, Expired, Revoked}

-- the status at a moment, by the certificate and the revocation that were looked up
abbrev pub status_by : ℕ → Option CertRow → Option RevocationRow → Status
status_by moment None revocation = Unknown
status_by moment (Some certificate) (Some revocation) = Revoked revocation.at revocation.reason
status_by moment (Some certificate) None = cond (nat_lt certificate.not_after moment) Expired Good

-- the status of a serial number at a moment: unknown if not registered; else revoked, whatever the moment, if it has a revocation; else expired
-- after notAfter (RFC 5280 4.1.2.5); else good
abbrev pub status : Records → ℕ → ℕ → Status
status records serial moment =
    status_by moment (certificate_in records.certificates serial) (revocation_in records.revocations serial)

abbrev pub is_good : Status → Bool
is_good Unknown = false
is_good Good = true
is_good Expired = false
is_good (Revoked at reason) = false

abbrev pub is_revoked : Status → Bool
is_revoked Unknown = false
is_revoked Good = false
is_revoked Expired = false
is_revoked (Revoked at reason) = true

abbrev pub is_expired : Status → Bool
is_expired Unknown = false
is_expired Good = false
is_expired Expired = true
is_expired (Revoked at reason) = false

-- the registered certificates whose status at a moment passes a test
abbrev pub registered : (Status → Bool) → Records → ℕ → List CertRow
registered test records moment = filter (λ row. test (status records row.serial moment)) records.certificates

-- how many registered certificates are good, revoked and expired at a moment
abbrev pub counts : Records → ℕ → Counts
counts records moment = record {
  good = length (registered is_good records moment);
  revoked = length (registered is_revoked records moment);
  expired = length (registered is_expired records moment);
}
