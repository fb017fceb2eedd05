-- The numbers that an audit reports.
use Rattle.std.specs.Prelude.{◌≡◌, length}
use Rattle.reg_core.specs.Records.{Records}
use Rattle.reg_core.specs.declared.audit_result.Audited.{Audited}

-- the numbers are those of the records' certificates, revocations and CRLs
pub record AreNumbersOf (records : Records) (found : Audited) : Type 0 where
  pub certificates : found.certificates ≡ length records.certificates
  pub revoked : found.revoked ≡ length records.revocations
  pub crls : found.crls ≡ length records.crls
