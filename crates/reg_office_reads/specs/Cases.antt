-- The rows over which `decline` and `revoke` are decided.
use Rattle.std.specs.Prelude.{◌≡◌, ℕ, option_and_then}
use Rattle.reg_core.specs.Records.{Records, certificate_in, request_in, revocation_in}
use Rattle.reg_office_reads.specs.declared.requests.Case.{Case}

-- the request with an id, and the certificate and the revocation of its serial number
pub record IsCase (records : Records) (id : ℕ) (found : Case) : Type 0 where
  pub request : found.request ≡ request_in records.requests id
  pub certificate : found.certificate
      ≡ option_and_then (λ row. certificate_in records.certificates row.serial) found.request
  pub revocation : found.revocation
      ≡ option_and_then (λ row. revocation_in records.revocations row.serial) found.request
