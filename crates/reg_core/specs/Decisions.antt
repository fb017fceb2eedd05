-- The result of each decision over the rows that were looked up: a refusal, or the row to add or change.
use Rattle.std.specs.Prelude.{◌≡◌, ℕ, Bool, true, false, cond, ◌+◌, nat_le, nat_lt, List, [], ◌++◌, Option, Some, None, Result, Ok, Err, IfSome, IsOkAnd}
use Rattle.reg_core.specs.Checks.{first_refusal, clock_checks, subscriber_checks, order_checks, register_checks, request_checks, pending_request_checks, crl_checks}
use Rattle.reg_core.specs.Crls.{number_after}
use Rattle.reg_core.specs.Due.{deadline}
use Rattle.reg_core.specs.Grounds.{ground_or_refusal, reason_of}
use Rattle.reg_core.specs.Records.{Records}
use Rattle.reg_core.specs.Step.{same_certificate}
use Rattle.reg_core.specs.declared.rows.Head.{Head}
use Rattle.reg_core.specs.declared.rows.SubscriberRow.{SubscriberRow}
use Rattle.reg_core.specs.declared.rows.OrderRow.{OrderRow}
use Rattle.reg_core.specs.declared.rows.CertRow.{CertRow}
use Rattle.reg_core.specs.declared.rows.RequestRow.{RequestRow}
use Rattle.reg_core.specs.declared.rows.RevocationRow.{RevocationRow}
use Rattle.reg_core.specs.declared.rows.CrlRow.{CrlRow}
use Rattle.reg_core.specs.declared.refusal.Refusal.{Refusal}

-- the input that all decisions share: `held` is the number of rows of the table to which the command would add one
abbrev pub head_of : Records → ℕ → ℕ → Head
head_of records now held = record { now = now; last = records.last; policy = records.policy; held = held }

-- the table that would grow has at least as many rows as the policy allows
abbrev pub table_is_full : Head → Bool
table_is_full head = nat_le head.policy.cap head.held

-- the refusal, or else the answer
abbrev pub refused_or : {Answer : Type 0} → Option Refusal → Answer → Result Answer Refusal
refused_or (Some refusal) answer = Err refusal
refused_or None answer = Ok answer

-- the refusal if one applies, or else an answer that satisfies `IsAnswer`
abbrev pub IsDecidedBy : {Answer : Type 0} → Option Refusal → (Answer → Type 0)
    → Result Answer Refusal → Type 0
IsDecidedBy (Some refusal) IsAnswer result = result ≡ Err refusal
IsDecidedBy None IsAnswer result = IsOkAnd result IsAnswer

-- the first refusal that applies, those of the clock before the others, or else an answer that satisfies `IsAnswer`
abbrev pub IsDecidedAfterClock : {Answer : Type 0} → Head → List (Option Refusal) → (Answer → Type 0)
    → Result Answer Refusal → Type 0
IsDecidedAfterClock head checks IsAnswer result =
    IsDecidedBy (first_refusal (clock_checks head.now head.last ++ checks)) IsAnswer result

-- the row of the new subscriber, with the next id
abbrev pub DecidesSubscriber : Head → List ℕ → Option SubscriberRow → Result SubscriberRow Refusal → Type 0
DecidesSubscriber head name by_name result =
    IsDecidedAfterClock
    head
    (subscriber_checks name by_name (table_is_full head))
    (λ row. row ≡ record { id = head.held + 1; name = name })
    result

-- the row of the new order, with the next id
abbrev pub DecidesOrder : Head → Option SubscriberRow → ℕ → Result OrderRow Refusal → Type 0
DecidesOrder head subscriber days result =
    IsDecidedAfterClock
    head
    (order_checks head.policy subscriber days (table_is_full head))
    (λ row. IfSome subscriber
    (λ known. row ≡ record { id = head.held + 1; subscriber = known.id; days = days }))
    result

-- the certificate with the serial number is equal in all fields to the wanted one
abbrev pub is_same : CertRow → Option CertRow → Bool
is_same wanted None = false
is_same wanted (Some registered) = same_certificate wanted registered

-- the new row is the wanted certificate; if it is registered already, there is no new row, and only the clock is checked
abbrev pub DecidesRegister : Head → CertRow → Option OrderRow → Option CertRow → Option CertRow
    → Result (Option CertRow) Refusal → Type 0
DecidesRegister head wanted order by_order by_serial result =
    IsDecidedAfterClock
    head
    (cond (is_same wanted by_serial) []
    (register_checks head.policy head.now wanted order by_order by_serial (table_is_full head)))
    (λ row. row ≡ cond (is_same wanted by_serial) None (Some wanted))
    result

-- the request for a certificate, received now, on the ground with the name `word`
pub record IsRequest (head : Head) (certificate : CertRow) (word : List ℕ) (row : RequestRow) : Type 0 where
  pub next_id : row.id ≡ head.held + 1
  pub of_certificate : row.serial ≡ certificate.serial
  pub on_named : ground_or_refusal word ≡ Ok row.ground
  pub received_now : row.received ≡ head.now
  pub not_declined : row.declined ≡ false

-- the row of the new request, with the next id
abbrev pub DecidesRequest : Head → Option CertRow → List ℕ → Option RevocationRow
    → Result RequestRow Refusal → Type 0
DecidesRequest head certificate word revocation result =
    IsDecidedAfterClock
    head
    (request_checks head.now certificate word revocation (table_is_full head))
    (λ row. IfSome certificate (λ known. IsRequest head known word row))
    result

-- the row of the request, declined
abbrev pub DecidesDecline : Head → Option RequestRow → Option CertRow → Option RevocationRow
    → Result RequestRow Refusal → Type 0
DecidesDecline head request certificate revocation result =
    IsDecidedAfterClock
    head
    (pending_request_checks head.now request certificate revocation)
    (λ row. IfSome request (λ known. row ≡ record known { declined = true }))
    result

-- the revocation by a request now, and whether that is after the request's deadline
abbrev pub revocation_by : Head → RequestRow → Option CrlRow → RevocationRow × Bool
revocation_by head request latest = (
  record {
    serial = request.serial;
    at = head.now;
    reason = reason_of request.ground;
    request = request.id;
    first = number_after latest;
  },
  nat_lt (deadline request) head.now,
)

-- the row of the new revocation, and whether it is late
abbrev pub DecidesRevoke : Head → Option RequestRow → Option CertRow → Option RevocationRow → Option CrlRow
    → Result (RevocationRow × Bool) Refusal → Type 0
DecidesRevoke head request certificate revocation latest result =
    IsDecidedAfterClock
    head
    (pending_request_checks head.now request certificate revocation)
    (λ answer. IfSome request (λ known. answer ≡ revocation_by head known latest))
    result

-- the row of the new CRL, with the next number and this moment as its thisUpdate
abbrev pub DecidesCrl : Head → Option CrlRow → Result CrlRow Refusal → Type 0
DecidesCrl head latest result =
    IsDecidedAfterClock head (crl_checks (table_is_full head))
    (λ row. row ≡ record { number = number_after latest; this_update = head.now }) result
