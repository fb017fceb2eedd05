-- Sound records: ids count up, keys differ, each row refers to rows that exist, and revocations and CRLs agree in time.
use Rattle.std.specs.Prelude.{◌≡◌, ◌≢◌, ℕ, ◌+◌, ◌<◌, ◌≤◌, List, [], ◌∷◌, length, IsSome, IsSomeAnd}
use Rattle.std.specs.List.{AllByRecursion}
use Rattle.reg_core.specs.Checks.{clock_end}
use Rattle.reg_core.specs.Crls.{CertList, cert_list}
use Rattle.reg_core.specs.Records.{Records, Crl, subscriber_in, order_in, certificate_in, request_in}
use Rattle.reg_core.specs.declared.rows.SubscriberRow.{SubscriberRow}
use Rattle.reg_core.specs.declared.rows.OrderRow.{OrderRow}
use Rattle.reg_core.specs.declared.rows.CertRow.{CertRow}
use Rattle.reg_core.specs.declared.rows.RequestRow.{RequestRow}
use Rattle.reg_core.specs.declared.rows.RevocationRow.{RevocationRow}

-- the rows have ascending numbers from `from` on, without gaps
abbrev pub NumberedFrom : {Row : Type 0} → (Row → ℕ) → ℕ → List Row → Type 0
NumberedFrom number from [] = Unit {0}
NumberedFrom number from (row ∷ rest) = (number row ≡ from) × NumberedFrom number (from + 1) rest

-- no two rows have the same key
abbrev pub KeysDiffer : {Row Key : Type 0} → (Row → Key) → List Row → Type 0
KeysDiffer key [] = Unit {0}
KeysDiffer key (row ∷ rest) = AllByRecursion (λ other. key row ≢ key other) rest × KeysDiffer key rest

-- no later row has a smaller value
abbrev pub NeverDecreases : {Row : Type 0} → (Row → ℕ) → List Row → Type 0
NeverDecreases value [] = Unit {0}
NeverDecreases value (row ∷ rest) =
    AllByRecursion (λ later. value row ≤ value later) rest × NeverDecreases value rest

-- ids are 1, 2, 3 and so on; names differ; there are at most `cap` rows
pub record SoundSubscribers (cap : ℕ) (subscribers : List SubscriberRow) : Type 0 where
  pub numbered : NumberedFrom (λ row. row.id) 1 subscribers
  pub names_differ : KeysDiffer (λ row. row.name) subscribers
  pub within_cap : length subscribers ≤ cap

-- ids are 1, 2, 3 and so on; each order's subscriber exists; there are at most `cap` rows
pub record SoundOrders (cap : ℕ) (subscribers : List SubscriberRow) (orders : List OrderRow) : Type 0 where
  pub numbered : NumberedFrom (λ row. row.id) 1 orders
  pub subscribers_exist : AllByRecursion (λ row. IsSome (subscriber_in subscribers row.subscriber)) orders
  pub within_cap : length orders ≤ cap

-- serial numbers differ (RFC 5280 4.1.2.2), and so do orders; each certificate's order exists; there are at most `cap` rows
pub record SoundCertificates (cap : ℕ) (orders : List OrderRow) (certificates : List CertRow) : Type 0 where
  pub serials_differ : KeysDiffer (λ row. row.serial) certificates
  pub orders_differ : KeysDiffer (λ row. row.order) certificates
  pub orders_exist : AllByRecursion (λ row. IsSome (order_in orders row.order)) certificates
  pub within_cap : length certificates ≤ cap

-- ids are 1, 2, 3 and so on; each request's certificate exists; none was received after the last accepted moment; there are at most
-- `cap` rows
pub record SoundRequests (cap last : ℕ) (certificates : List CertRow)
    (requests : List RequestRow) : Type 0 where
  pub numbered : NumberedFrom (λ row. row.id) 1 requests
  pub certificates_exist : AllByRecursion (λ row. IsSome (certificate_in certificates row.serial)) requests
  pub received_by_last : AllByRecursion (λ row. row.received ≤ last) requests
  pub within_cap : length requests ≤ cap

-- A revocation is of a registered certificate that was not expired, by a request for it, at the last accepted moment or earlier.
-- Its `first` is the number of an issued CRL or of the next one. CRLs with lower numbers were issued at its moment or earlier, the
-- others at its moment or later.
pub record SoundRevocation (last : ℕ) (certificates : List CertRow) (requests : List RequestRow)
    (crls : List Crl) (revocation : RevocationRow) : Type 0 where
  pub within_validity : IsSomeAnd (certificate_in certificates revocation.serial)
      (λ certificate. revocation.at ≤ certificate.not_after)
  pub by_request : IsSomeAnd (request_in requests revocation.request)
      (λ request. request.serial ≡ revocation.serial)
  pub at_by_last : revocation.at ≤ last
  pub first_from_one : 1 ≤ revocation.first
  pub first_by_next : revocation.first ≤ length crls + 1
  pub crls_before : AllByRecursion
      (λ crl. crl.number < revocation.first → crl.this_update ≤ revocation.at) crls
  pub crls_after : AllByRecursion
      (λ crl. revocation.first ≤ crl.number → revocation.at ≤ crl.this_update) crls

-- a serial number has at most one revocation, and so has a request; each revocation is sound
pub record SoundRevocations (last : ℕ) (certificates : List CertRow) (requests : List RequestRow)
    (crls : List Crl) (revocations : List RevocationRow) : Type 0 where
  pub serials_differ : KeysDiffer (λ row. row.serial) revocations
  pub requests_differ : KeysDiffer (λ row. row.request) revocations
  pub each : AllByRecursion (SoundRevocation last certificates requests crls) revocations

-- CRL numbers are 1, 2, 3 and so on (RFC 5280 5.2.3); no thisUpdate is before an earlier CRL's, or after the last accepted moment
pub record SoundCrls (cap last : ℕ) (crls : List Crl) : Type 0 where
  pub numbered : NumberedFrom (λ crl. crl.number) 1 crls
  pub updates_never_decrease : NeverDecreases (λ crl. crl.this_update) crls
  pub updates_by_last : AllByRecursion (λ crl. crl.this_update ≤ last) crls
  pub within_cap : length crls ≤ cap

-- each table is sound, and the last accepted moment is before the clock's end; the bytes of CRLs may be any
pub record SoundRows (records : Records) : Type 0 where
  pub before_clock_end : records.last < clock_end
  pub subscribers : SoundSubscribers records.policy.cap records.subscribers
  pub orders : SoundOrders records.policy.cap records.subscribers records.orders
  pub certificates : SoundCertificates records.policy.cap records.orders records.certificates
  pub requests : SoundRequests records.policy.cap records.last records.certificates records.requests
  pub revocations : SoundRevocations records.last records.certificates records.requests records.crls
      records.revocations
  pub crls : SoundCrls records.policy.cap records.last records.crls

-- the bytes of each CRL are the signed CRL with its entries
abbrev pub CrlsSigned : (CertList → List ℕ → Type 0) → Records → Type 0
CrlsSigned signed records =
    AllByRecursion (λ crl. signed (cert_list records crl.number crl.this_update) crl.bytes) records.crls

-- the rows are sound, and the bytes of each CRL are the signed CRL with its entries
pub record Sound (signed : CertList → List ℕ → Type 0) (records : Records) : Type 0 where
  pub rows : SoundRows records
  pub signatures : CrlsSigned signed records
