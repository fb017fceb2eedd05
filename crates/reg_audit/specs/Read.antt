-- Rows that were read from a register's tables.
use Rattle.std.specs.Prelude.{◌≡◌, ◌⊎◌, ◌==◌, find, ℕ, ◌+◌, ◌*◌, ◌<◌, ◌≤◌, List, [], map, length, Option, IfSome, IsSome, IsSomeAnd, IsTrue}
use Rattle.std.specs.BTreeMap.{get}
use Rattle.std.specs.List.{AllByRecursion, list_any}
use Rattle.std.specs.Ordering.{nat_cmp}
use Rattle.reg_core.specs.Checks.{validity_seconds}
use Rattle.reg_core.specs.Crls.{row_of}
use Rattle.reg_core.specs.Policy.{IsPolicy}
use Rattle.reg_core.specs.Records.{Records, order_in, request_in, revocation_in, subscriber_in}
use Rattle.reg_core.specs.Reached.{LeadsTo}
use Rattle.reg_core.specs.Sound.{NumberedFrom, KeysDiffer, NeverDecreases}
use Rattle.reg_core.specs.declared.rows.CertRow.{CertRow}
use Rattle.reg_core.specs.declared.rows.OrderRow.{OrderRow}
use Rattle.reg_core.specs.declared.rows.SubscriberRow.{SubscriberRow}
use Rattle.reg_core.specs.declared.rows.RequestRow.{RequestRow}
use Rattle.reg_core.specs.declared.rows.RevocationRow.{RevocationRow}
use Rattle.reg_core.specs.declared.rows.CrlRow.{CrlRow}
use Rattle.reg_audit.specs.declared.rows.RowsBySerial.{RowsBySerial}
use Rattle.reg_audit.specs.declared.rows.Rows.{Rows}

-- the rows are those of the records, each list in the order of entry, the CRLs without their bytes; the policy is valid
pub record AreOf (rows : Rows) (records : Records) : Type 0 where
  pub policy : IsPolicy records.policy
  pub cap : rows.cap ≡ records.policy.cap
  pub last : rows.last ≡ records.last
  pub subscribers : rows.subscribers.now ≡ records.subscribers
  pub orders : rows.orders.now ≡ records.orders
  pub certificates : rows.certificates.now ≡ records.certificates
  pub requests : rows.requests.now ≡ records.requests
  pub revocations : rows.revocations.now ≡ records.revocations
  pub crls : rows.crls.now ≡ map row_of records.crls

-- if there is no subscriber, the last accepted moment is 0 or the thisUpdate of a CRL
abbrev pub IsLastSet : Rows → Type 0
IsLastSet rows =
    rows.subscribers.now ≡ []
    → (rows.last ≡ 0) ⊎ IsTrue (list_any (λ crl. crl.this_update == rows.last) rows.crls.now)

-- a look-up by a key finds the first row with it
abbrev pub Indexes : {Row : Type 0} → (Row → ℕ) → List Row → (ℕ → Option Row) → Type 0
Indexes key rows row_with = (k : ℕ) → row_with k ≡ find (λ row. key row == k) rows

-- the subscriber of each order exists
abbrev pub HaveSubscribers : List SubscriberRow → List OrderRow → Type 0
HaveSubscribers subscribers orders =
    AllByRecursion (λ row. IsSome (subscriber_in subscribers row.subscriber)) orders

-- the look-up found an order, and the validity is no longer than its days
abbrev pub IsAsOrdered : CertRow → Option OrderRow → Type 0
IsAsOrdered certificate order = IsSomeAnd order (λ found. validity_seconds certificate ≤ 86400 * found.days)

abbrev pub AreAsOrdered : List OrderRow → List CertRow → Type 0
AreAsOrdered orders certificates =
    AllByRecursion (λ row. IsAsOrdered row (order_in orders row.order)) certificates

-- the look-up found a certificate, and the request was not received after its notAfter
abbrev pub IsInTime : RequestRow → Option CertRow → Type 0
IsInTime request certificate = IsSomeAnd certificate (λ found. request.received ≤ found.not_after)

abbrev pub AreInTime : (ℕ → Option CertRow) → List RequestRow → Type 0
AreInTime certificate_with requests =
    AllByRecursion (λ row. IsInTime row (certificate_with row.serial)) requests

-- if the look-up found a revocation, the request was not received after it
abbrev pub IsBefore : RequestRow → Option RevocationRow → Type 0
IsBefore request revocation = IfSome revocation (λ found. request.received ≤ found.at)

abbrev pub AreBeforeRevocation : (ℕ → Option RevocationRow) → List RequestRow → Type 0
AreBeforeRevocation revocation_with requests =
    AllByRecursion (λ row. IsBefore row (revocation_with row.serial)) requests

-- no CRL with a number below `first` has a thisUpdate after `at`, and no other CRL has one before it
pub record AreAround (first at : ℕ) (crls : List CrlRow) : Type 0 where
  pub before : AllByRecursion (λ crl. crl.number < first → crl.this_update ≤ at) crls
  pub after : AllByRecursion (λ crl. first ≤ crl.number → at ≤ crl.this_update) crls

-- the look-ups found a certificate and a request, and the revocation fits these, the CRLs and the last accepted moment
pub record FitsIn (last : ℕ) (certificate : Option CertRow) (request : Option RequestRow) (crls : List CrlRow)
    (revocation : RevocationRow) : Type 0 where
  pub within_validity : IsSomeAnd certificate (λ found. revocation.at ≤ found.not_after)
  pub by_request : IsSomeAnd request (LeadsTo revocation)
  pub at_by_last : revocation.at ≤ last
  pub first_from_one : 1 ≤ revocation.first
  pub first_by_next : revocation.first ≤ length crls + 1
  pub around : AreAround revocation.first revocation.at crls

-- each revocation fits its certificate, its request and the CRLs
abbrev pub FitTogether : ℕ → (ℕ → Option CertRow) → List RequestRow → List CrlRow
    → List RevocationRow → Type 0
FitTogether last certificate_with requests crls revocations =
    AllByRecursion (λ row.
    FitsIn last (certificate_with row.serial) (request_in requests row.request) crls row) revocations

-- CRL numbers are 1, 2, 3 and so on (RFC 5280 5.2.3), thisUpdates do not fall, none is after the last accepted moment; at most `cap` rows
pub record AreCrls (cap last : ℕ) (crls : List CrlRow) : Type 0 where
  pub numbered : NumberedFrom (λ crl. crl.number) 1 crls
  pub updates_never_decrease : NeverDecreases (λ crl. crl.this_update) crls
  pub updates_by_last : AllByRecursion (λ crl. crl.this_update ≤ last) crls
  pub within_cap : length crls ≤ cap

-- a serial number and a request have one revocation at most; each revocation fits the rows that it refers to; neither moments nor first
-- CRL numbers fall; and no request for a serial number was received after its revocation
pub record AreRevocations (found : ℕ → Option CertRow) (rows : Rows) : Type 0 where
  pub serials_differ : KeysDiffer (λ row. row.serial) rows.revocations.now
  pub requests_differ : KeysDiffer (λ row. row.request) rows.revocations.now
  pub each : AllByRecursion (λ row.
      FitsIn rows.last (found row.serial) (request_in rows.requests.now row.request) rows.crls.now row)
      rows.revocations.now
  pub moments_never_decrease : NeverDecreases (λ row. row.at) rows.revocations.now
  pub firsts_never_decrease : NeverDecreases (λ row. row.first) rows.revocations.now
  pub none_after : AllByRecursion
      (λ row. IsBefore row (revocation_in rows.revocations.now row.serial)) rows.requests.now

-- look-ups by serial number find the first certificate and the first revocation with it
pub record IsIndexOf (rows : Rows) (found : RowsBySerial) : Type 0 where
  pub certificates : Indexes (λ row. row.serial) rows.certificates.now (get nat_cmp found.certificates)
  pub revocations : Indexes (λ row. row.serial) rows.revocations.now (get nat_cmp found.revocations)
