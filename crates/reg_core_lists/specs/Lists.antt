-- The rows of each list, and the rows of each page.
use Rattle.std.specs.Prelude.{◌≡◌, ℕ, Bool, ◌&&◌, ◌-◌, ◌==◌, cond, nat_lt, List, length, map, filter_map, take, slice_get, Option, Some, None, option_map, option_and_then}
use Rattle.reg_core.specs.AscendingRows.{key_of, past}
use Rattle.reg_core.specs.Crls.{row_of}
use Rattle.reg_core.specs.Due.{deadline, is_open}
use Rattle.reg_core.specs.Queries.{listing}
use Rattle.reg_core.specs.Records.{Records, Crl, certificate_in, certificate_of_order, order_in, request_in, revocation_in, subscriber_in}
use Rattle.reg_core.specs.Status.{is_good, status, status_by}
use Rattle.reg_core.specs.declared.command.Status.{Status}
use Rattle.reg_core.specs.declared.command.Status.TheVariants as state
use Rattle.reg_core.specs.declared.rows.CertRow.{CertRow}
use Rattle.reg_core.specs.declared.rows.OrderRow.{OrderRow}
use Rattle.reg_core.specs.declared.rows.RequestRow.{RequestRow}
use Rattle.reg_core.specs.declared.rows.RevocationRow.{RevocationRow}
use Rattle.reg_core.specs.declared.rows.SubscriberRow.{SubscriberRow}
use Rattle.reg_core_lists.specs.declared.cursor.Cursor.{Cursor}
use Rattle.reg_core_lists.specs.declared.cursor.Cursor.TheVariants.{Revoked, Certificates, Ending, OpenRequests, Overdue, Requests, Subscribers, Orders, Crls}
use Rattle.reg_core_lists.specs.declared.rows.ListedCertificate.{ListedCertificate}
use Rattle.reg_core_lists.specs.declared.rows.ListedOrder.{ListedOrder}
use Rattle.reg_core_lists.specs.declared.rows.RequestWithState.{RequestWithState}
use Rattle.reg_core_lists.specs.declared.rows.ListedRequest.{ListedRequest}
use Rattle.reg_core_lists.specs.declared.rows.ListedRevocation.{ListedRevocation}
use Rattle.reg_core_lists.specs.declared.rows.Row.{Row}
use Rattle.reg_core_lists.specs.declared.rows.Row.TheVariants as kind

-- ---- the fields of each record; `None` if its order, subscriber, certificate or request is missing, which sound records rule out

-- the subscriber of an order
abbrev pub subscriber_of_order : Records → ℕ → Option SubscriberRow
subscriber_of_order records order =
    option_and_then (λ order. subscriber_in records.subscribers order.subscriber)
    (order_in records.orders order)

-- the status of a registered certificate at a moment
abbrev pub status_at : Records → ℕ → CertRow → Status
status_at records now certificate =
    status_by now (Some certificate) (revocation_in records.revocations certificate.serial)

-- the fields of a certificate at a moment
abbrev pub listed_certificate : Records → ℕ → CertRow → Option ListedCertificate
listed_certificate records now certificate =
    option_map
    (λ subscriber. record {
      certificate = certificate;
      subscriber = subscriber;
      status = status_at records now certificate;
      listing = listing records certificate.serial;
    })
    (subscriber_of_order records certificate.order)

-- the fields of a request
abbrev pub listed_request : Records → RequestRow → Option ListedRequest
listed_request records request =
    option_and_then
    (λ certificate. option_map
    (λ subscriber. record {
      request = request;
      due = deadline request;
      certificate = certificate;
      subscriber = subscriber;
    })
    (subscriber_of_order records certificate.order))
    (certificate_in records.certificates request.serial)

-- the fields of a revocation: its certificate at a moment, and the request that led to it
abbrev pub listed_revocation : Records → ℕ → RevocationRow → Option ListedRevocation
listed_revocation records now revocation =
    option_and_then
    (λ request. option_map
    (λ line. record {
      certificate = line;
      revocation = revocation;
      request = request;
      due = deadline request;
    })
    (option_and_then (listed_certificate records now)
    (certificate_in records.certificates revocation.serial)))
    (request_in records.requests revocation.request)

-- when a request that was not declined stopped being open: at its certificate's revocation or notAfter; now, if it is open
abbrev pub open_until : ℕ → CertRow → Status → ℕ
open_until now certificate (state.Revoked at reason) = at
open_until now certificate state.Expired = certificate.not_after
open_until now certificate state.Good = now
open_until now certificate state.Unknown = now

-- how many seconds a request was open after its deadline, or 0; `None` if it was declined, because no record has the moment of that
abbrev pub lateness_of : ℕ → RequestRow → CertRow → Status → Option ℕ
lateness_of now request certificate standing =
    cond request.declined None (Some (open_until now certificate standing - deadline request))

-- a request and its state at a moment
abbrev pub request_with_state : Records → ℕ → RequestRow → Option RequestWithState
request_with_state records now request =
    option_map
    (λ line. record {
      request = line;
      status = status records request.serial now;
      lateness = lateness_of now request line.certificate (status records request.serial now);
    })
    (listed_request records request)

-- the fields of an order
abbrev pub listed_order : Records → OrderRow → Option ListedOrder
listed_order records order =
    option_map
    (λ subscriber. record {
      order = order;
      subscriber = subscriber;
      serial = option_map (λ certificate. certificate.serial)
          (certificate_of_order records.certificates order.id);
    })
    (subscriber_in records.subscribers order.subscriber)

-- ---- the row for a record in a list, if the list has it

-- the row for a certificate in the list of all certificates
abbrev pub certificate_row : Records → ℕ → CertRow → Option Row
certificate_row records now certificate =
    option_map (λ line. kind.Certificate line) (listed_certificate records now certificate)

abbrev pub revoked_row : Records → ℕ → RevocationRow → Option Row
revoked_row records now revocation =
    option_map (λ line. kind.Revoked line) (listed_revocation records now revocation)

-- a certificate is good, and its notAfter is before a moment
abbrev pub is_expiring : Records → ℕ → ℕ → CertRow → Bool
is_expiring records now before certificate =
    is_good (status_at records now certificate) && nat_lt certificate.not_after before

abbrev pub expiring_row : Records → ℕ → ℕ → CertRow → Option Row
expiring_row records now before certificate =
    cond (is_expiring records now before certificate) (certificate_row records now certificate) None

-- the row for a request, if it is open
abbrev pub open_row : Records → ℕ → RequestRow → Option Row
open_row records now request =
    cond (is_open records now request)
    (option_map (λ line. kind.Request line) (listed_request records request)) None

-- the row for a request, if it is open and its deadline is past
abbrev pub overdue_row : Records → ℕ → RequestRow → Option Row
overdue_row records now request = cond (nat_lt (deadline request) now) (open_row records now request) None

-- the row for any request
abbrev pub history_row : Records → ℕ → RequestRow → Option Row
history_row records now request =
    option_map (λ history. kind.AnyRequest history) (request_with_state records now request)

abbrev pub subscriber_row : SubscriberRow → Option Row
subscriber_row subscriber = Some (kind.Subscriber subscriber)

abbrev pub order_row : Records → OrderRow → Option Row
order_row records order = option_map (λ line. kind.Order line) (listed_order records order)

abbrev pub crl_row : Crl → Option Row
crl_row crl = Some (kind.Crl (row_of crl))

-- ---- pages

-- a page: its rows, and the cursor of the next page
pub record ShownPage : Type 0 where
  pub rows : List Row
  pub next : Option Cursor

-- the cursor of the next page, after the last key that was read; `None` if fewer rows were read than a page may read
abbrev pub next_cursor : (ℕ → Cursor) → ℕ → List ℕ → Option Cursor
next_cursor at most keys = cond (length keys == most) (option_map at (slice_get keys (length keys - 1))) None

-- a page reads the first `most` rows after a key, and has those of them that are rows of the list
abbrev pub page_over : {A : Type 0} → (A → ℕ) → (A → Option Row) → (ℕ → Cursor) → ℕ → ℕ → List A → ShownPage
page_over key row_for at after most rows = record {
  rows = filter_map row_for (take most (past key after rows));
  next = next_cursor at most (map key (take most (past key after rows)));
}

-- the page of a list from a cursor on, at a moment
abbrev pub page : Records → ℕ → ℕ → Cursor → ShownPage
page records now most (Revoked after) =
    page_over (λ row. row.serial) (revoked_row records now) (λ serial. Revoked (Some serial)) (key_of after)
    most records.revocations
page records now most (Certificates after) =
    page_over (λ row. row.serial) (certificate_row records now) (λ serial. Certificates (Some serial))
    (key_of after) most records.certificates
page records now most (Ending before after) =
    page_over (λ row. row.serial) (expiring_row records now before) (λ serial. Ending before (Some serial))
    (key_of after) most records.certificates
page records now most (OpenRequests after) =
    page_over (λ row. row.id) (open_row records now) (λ id. OpenRequests id) after most records.requests
page records now most (Overdue after) =
    page_over (λ row. row.id) (overdue_row records now) (λ id. Overdue id) after most records.requests
page records now most (Requests after) =
    page_over (λ row. row.id) (history_row records now) (λ id. Requests id) after most records.requests
page records now most (Subscribers after) =
    page_over (λ row. row.id) subscriber_row (λ id. Subscribers id) after most records.subscribers
page records now most (Orders after) =
    page_over (λ row. row.id) (order_row records) (λ id. Orders id) after most records.orders
page records now most (Crls after) =
    page_over (λ crl. crl.number) crl_row (λ number. Crls number) after most records.crls

-- all rows of a list from a cursor on, at a moment
abbrev pub rows_from : Records → ℕ → Cursor → List Row
rows_from records now (Revoked after) =
    filter_map (revoked_row records now) (past (λ row. row.serial) (key_of after) records.revocations)
rows_from records now (Certificates after) =
    filter_map (certificate_row records now) (past (λ row. row.serial) (key_of after) records.certificates)
rows_from records now (Ending before after) =
    filter_map (expiring_row records now before)
    (past (λ row. row.serial) (key_of after) records.certificates)
rows_from records now (OpenRequests after) =
    filter_map (open_row records now) (past (λ row. row.id) after records.requests)
rows_from records now (Overdue after) =
    filter_map (overdue_row records now) (past (λ row. row.id) after records.requests)
rows_from records now (Requests after) =
    filter_map (history_row records now) (past (λ row. row.id) after records.requests)
rows_from records now (Subscribers after) =
    filter_map subscriber_row (past (λ row. row.id) after records.subscribers)
rows_from records now (Orders after) =
    filter_map (order_row records) (past (λ row. row.id) after records.orders)
rows_from records now (Crls after) = filter_map crl_row (past (λ crl. crl.number) after records.crls)
