-- The undecided requests that an office keeps from one query to the next.
use Rattle.std.specs.Prelude.{◌≡◌, ◌≤◌, ℕ, nat_le, nat_lt, Bool, not, ◌&&◌, List, map, filter, take, length, Option, Some, None, option_map, ◌==◌, cond, IfSome}
use Rattle.std.specs.List.{AllByRecursion, list_any}
use Rattle.reg_core.specs.Due.{deadline}
use Rattle.reg_core.specs.Records.{Records, certificate_in}
use Rattle.reg_core.specs.declared.rows.RequestRow.{RequestRow}
use Rattle.reg_core.specs.declared.rows.RevocationRow.{RevocationRow}
use Rattle.reg_office_cache.specs.declared.undecided.UndecidedRequest.{UndecidedRequest}
use Rattle.reg_office_cache.specs.declared.undecided.UndecidedRequests.{UndecidedRequests}

-- one of these revocations has the serial number
abbrev pub has_revocation : List RevocationRow → ℕ → Bool
has_revocation revocations serial = list_any (λ revocation. revocation.serial == serial) revocations

-- the request was not declined, and none of the revocations is of its certificate
abbrev pub is_undecided : List RevocationRow → RequestRow → Bool
is_undecided revocations request =
    not request.declined && not (has_revocation revocations request.serial)

-- the certificate is not past its notAfter
abbrev pub ends_from : ℕ → UndecidedRequest → Bool
ends_from now row = nat_le now row.not_after

-- the same, and the request's deadline is past
abbrev pub is_late_row : ℕ → UndecidedRequest → Bool
is_late_row now row = ends_from now row && nat_lt (deadline row.request) now

-- the row has the notAfter of the certificate with the request's serial number
abbrev pub HasEnd : Records → UndecidedRequest → Type 0
HasEnd records row =
    option_map (λ certificate. certificate.not_after) (certificate_in records.certificates row.request.serial)
    ≡ Some row.not_after

-- The rows are the undecided ones among the first `requests` requests of the records, as far as their first `revocations` revocations decide, each
-- with the notAfter of its certificate.
pub record AreUndecided (records : Records) (known : UndecidedRequests) : Type 0 where
  pub requests : known.requests ≤ length records.requests
  pub revocations : known.revocations ≤ length records.revocations
  pub rows :
      map (λ row. row.request) known.rows.items
      ≡ filter (is_undecided (take known.revocations records.revocations)) (take known.requests records.requests)
  pub ends : AllByRecursion (HasEnd records) known.rows.items

-- what is kept of a request: if it is undecided, the request and the notAfter of its certificate; else nothing
abbrev pub IsUndecidedRow : Records → RequestRow → Option UndecidedRequest → Type 0
IsUndecidedRow records request found =
    (option_map (λ row. row.request) found ≡ cond (is_undecided records.revocations request) (Some request) None)
    × IfSome found (HasEnd records)

-- they are all undecided requests of the records
pub record AreAllUndecided (records : Records) (known : UndecidedRequests) : Type 0 where
  pub are : AreUndecided records known
  pub requests : known.requests ≡ length records.requests
  pub revocations : known.revocations ≡ length records.revocations

-- all revocations being taken, requests were taken, and what is kept is still so
abbrev pub TakesRequests : Records → UndecidedRequests → UndecidedRequests → Type 0
TakesRequests records old new =
    AreUndecided records old → old.revocations ≡ length records.revocations
    → AreUndecided records new × (new.revocations ≡ old.revocations)
