-- Reached records: sound records with more properties, which `desk audit` checks. Every command keeps records reached.
use Rattle.std.specs.Prelude.{◌≡◌, ◌⊎◌, ℕ, ◌*◌, ◌<◌, ◌≤◌, ◌==◌, false, List, [], IfSome, IsSomeAnd, IsTrue}
use Rattle.std.specs.List.{AllByRecursion, list_any}
use Rattle.reg_core.specs.Checks.{clock_end, validity_seconds}
use Rattle.reg_core.specs.Crls.{CertList}
use Rattle.reg_core.specs.Grounds.{reason_of}
use Rattle.reg_core.specs.Label.{IsName}
use Rattle.reg_core.specs.Policy.{IsPolicy}
use Rattle.reg_core.specs.Records.{Records, Crl, order_in, certificate_in, request_in, revocation_in}
use Rattle.reg_core.specs.Schedule.{IsDays}
use Rattle.reg_core.specs.Sound.{NeverDecreases, SoundSubscribers, SoundOrders, SoundCertificates, SoundRequests, SoundRevocations, SoundCrls, CrlsSigned}
use Rattle.reg_core.specs.declared.rows.SubscriberRow.{SubscriberRow}
use Rattle.reg_core.specs.declared.rows.OrderRow.{OrderRow}
use Rattle.reg_core.specs.declared.rows.CertRow.{CertRow}
use Rattle.reg_core.specs.declared.rows.RequestRow.{RequestRow}
use Rattle.reg_core.specs.declared.rows.RevocationRow.{RevocationRow}

-- each name has only the bytes that a name may have
pub record ReachedSubscribers (cap : ℕ) (subscribers : List SubscriberRow) : Type 0 where
  pub sound : SoundSubscribers cap subscribers
  pub names : AllByRecursion (λ row. IsName row.name) subscribers

-- each order has 1 to 398 days, which a schedule can allow
pub record ReachedOrders (cap : ℕ) (subscribers : List SubscriberRow) (orders : List OrderRow) : Type 0 where
  pub sound : SoundOrders cap subscribers orders
  pub days : AllByRecursion (λ row. IsDays row.days) orders

-- notAfter is not before notBefore, and no validity is longer than was ordered
pub record ReachedCertificates (cap : ℕ) (orders : List OrderRow) (certificates : List CertRow) : Type 0 where
  pub sound : SoundCertificates cap orders certificates
  pub forward : AllByRecursion (λ row. row.not_before ≤ row.not_after) certificates
  pub as_ordered : AllByRecursion (λ row.
      IsSomeAnd (order_in orders row.order) (λ order. validity_seconds row ≤ 86400 * order.days)) certificates

-- each request was received by its certificate's notAfter, and not before an earlier request
pub record ReachedRequests (cap last : ℕ) (certificates : List CertRow)
    (requests : List RequestRow) : Type 0 where
  pub sound : SoundRequests cap last certificates requests
  pub within_validity : AllByRecursion (λ row.
      IsSomeAnd (certificate_in certificates row.serial)
      (λ certificate. row.received ≤ certificate.not_after)) requests
  pub receipts_never_decrease : NeverDecreases (λ row. row.received) requests

-- the request led to the revocation: it has its serial number, was not declined, and its ground has the revocation's reason
pub record LeadsTo (revocation : RevocationRow) (request : RequestRow) : Type 0 where
  pub same_serial : request.serial ≡ revocation.serial
  pub not_declined : request.declined ≡ false
  pub with_reason : revocation.reason ≡ reason_of request.ground

-- each revocation's request led to it; later revocations have no earlier moment and no smaller `first`; and no request for a serial
-- number was received after its revocation
pub record ReachedRevocations (last : ℕ) (certificates : List CertRow) (requests : List RequestRow)
    (crls : List Crl) (revocations : List RevocationRow) : Type 0 where
  pub sound : SoundRevocations last certificates requests crls revocations
  pub led : AllByRecursion (λ row. IsSomeAnd (request_in requests row.request) (LeadsTo row)) revocations
  pub moments_never_decrease : NeverDecreases (λ row. row.at) revocations
  pub firsts_never_decrease : NeverDecreases (λ row. row.first) revocations
  pub none_after : AllByRecursion (λ request.
      IfSome (revocation_in revocations request.serial)
      (λ revocation. request.received ≤ revocation.at)) requests

-- the policy is valid, each table is reached, and the last accepted moment is before the clock's end; without a subscriber, that moment is
-- 0 or the thisUpdate of a CRL
pub record ReachedRows (records : Records) : Type 0 where
  pub policy : IsPolicy records.policy
  pub before_clock_end : records.last < clock_end
  pub last_set : records.subscribers ≡ []
      → (records.last ≡ 0) ⊎ IsTrue (list_any (λ crl. crl.this_update == records.last) records.crls)
  pub subscribers : ReachedSubscribers records.policy.cap records.subscribers
  pub orders : ReachedOrders records.policy.cap records.subscribers records.orders
  pub certificates : ReachedCertificates records.policy.cap records.orders records.certificates
  pub requests : ReachedRequests records.policy.cap records.last records.certificates records.requests
  pub revocations : ReachedRevocations records.last records.certificates records.requests records.crls
      records.revocations
  pub crls : SoundCrls records.policy.cap records.last records.crls

-- the rows are reached, and the bytes of each CRL are the signed CRL with its entries
pub record Reached (signed : CertList → List ℕ → Type 0) (records : Records) : Type 0 where
  pub rows : ReachedRows records
  pub signatures : CrlsSigned signed records
