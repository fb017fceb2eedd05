-- The changes of the records by accepted commands, which also set the last accepted moment, and by a new schedule, which doesn't.
use Rattle.std.specs.Prelude.{◌≡◌, ◌≤◌, ◌+◌, ℕ, true, cond, ◌==◌, List, [], ◌∷◌, ◌++◌, map, length, None, IsSomeAnd}
use Rattle.reg_core.specs.Crls.{next_number}
use Rattle.reg_core.specs.Records.{Records, Crl, certificate_in, revocation_in}
use Rattle.reg_core.specs.declared.change.Change.{Change}
use Rattle.reg_core.specs.declared.change.Change.TheVariants.{Touch, Subscriber, Order, Certificate, Request, Decline, Revocation, Crl as NewCrl}
use Rattle.reg_core.specs.declared.rows.SubscriberRow.{SubscriberRow}
use Rattle.reg_core.specs.declared.rows.OrderRow.{OrderRow}
use Rattle.reg_core.specs.declared.rows.CertRow.{CertRow}
use Rattle.reg_core.specs.declared.rows.RequestRow.{RequestRow}
use Rattle.reg_core.specs.declared.rows.RevocationRow.{RevocationRow}

-- only the last accepted moment changes
abbrev pub touched : Records → ℕ → Records
touched records now = record records { last = now }

-- a new subscriber, after the others
abbrev pub with_subscriber : Records → ℕ → SubscriberRow → Records
with_subscriber records now row = record records { last = now; subscribers = records.subscribers ++ row ∷ [] }

-- a new order, after the others
abbrev pub with_order : Records → ℕ → OrderRow → Records
with_order records now row = record records { last = now; orders = records.orders ++ row ∷ [] }

-- a new certificate, after the others
abbrev pub with_certificate : Records → ℕ → CertRow → Records
with_certificate records now row =
    record records { last = now; certificates = records.certificates ++ row ∷ [] }

-- a new request, after the others
abbrev pub with_request : Records → ℕ → RequestRow → Records
with_request records now row = record records { last = now; requests = records.requests ++ row ∷ [] }

-- the row of a request: declined if it has the id, else the same
abbrev pub declined_if : ℕ → RequestRow → RequestRow
declined_if id row = cond (row.id == id) (record row { declined = true }) row

-- the request with an id declined
abbrev pub with_declined : Records → ℕ → ℕ → Records
with_declined records now id = record records { last = now; requests = map (declined_if id) records.requests }

-- a new revocation, after the others
abbrev pub with_revocation : Records → ℕ → RevocationRow → Records
with_revocation records now row = record records { last = now; revocations = records.revocations ++ row ∷ [] }

-- a new CRL, after the others
abbrev pub with_crl : Records → ℕ → Crl → Records
with_crl records now crl = record records { last = now; crls = records.crls ++ crl ∷ [] }

-- the records after a change at a moment
abbrev pub changed_by : Records → ℕ → Change → Records
changed_by records now Touch = touched records now
changed_by records now (Subscriber row) = with_subscriber records now row
changed_by records now (Order row) = with_order records now row
changed_by records now (Certificate row) = with_certificate records now row
changed_by records now (Request row) = with_request records now row
changed_by records now (Decline id) = with_declined records now id
changed_by records now (Revocation row not_after) = with_revocation records now row
changed_by records now (NewCrl row der) =
    with_crl records now (record { number = row.number; this_update = row.this_update; bytes = der.now })

-- properties of a change that a decision at this moment ensures: the id of a new row, the number of a new CRL and the `first` of a new
-- revocation are the next ones; the serial number of a new certificate is not registered, and its notAfter is not past; the serial number
-- of a new revocation is not revoked, and is registered with this notAfter, which is not past
abbrev pub Fits : Records → ℕ → Change → Type 0
Fits records now Touch = Unit {0}
Fits records now (Subscriber row) = row.id ≡ length records.subscribers + 1
Fits records now (Order row) = row.id ≡ length records.orders + 1
Fits records now (Certificate row) =
    (certificate_in records.certificates row.serial ≡ None) × (now ≤ row.not_after)
Fits records now (Request row) = row.id ≡ length records.requests + 1
Fits records now (Decline id) = Unit {0}
Fits records now (Revocation row not_after) =
    (revocation_in records.revocations row.serial ≡ None)
    × IsSomeAnd (certificate_in records.certificates row.serial)
    (λ certificate. certificate.not_after ≡ not_after)
    × (now ≤ not_after)
    × (row.first ≡ next_number records.crls)
Fits records now (NewCrl row der) = row.number ≡ next_number records.crls

-- another schedule of longest validities. This is not a command, so the last accepted moment stays.
abbrev pub with_schedule : Records → List (ℕ × ℕ) → Records
with_schedule records schedule = record records { policy = record records.policy { schedule = schedule } }
