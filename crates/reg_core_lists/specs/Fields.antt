-- The fields of each kind of row: their names and values.
use Rattle.std.specs.Prelude.{ℕ, Bool, true, false, ◌-◌, List, [], ◌∷◌, ◌++◌, Option, Some, None, codes, decimal, cond}
use Rattle.reg_core.specs.Calendar.{moment_text}
use Rattle.reg_core.specs.Serial.{serial_text}
use Rattle.reg_core.specs.declared.command.Listing.{Listing}
use Rattle.reg_core.specs.declared.command.Status.{Status}
use Rattle.reg_core.specs.declared.command.Status.TheVariants.{Unknown, Good, Expired, Revoked}
use Rattle.reg_core.specs.declared.grounds.Ground.{Ground}
use Rattle.reg_core.specs.declared.grounds.Ground.TheVariants.{Asked, Unauthorized, KeyCompromise, ControlLost, Affiliation, Superseded, Cessation, Misuse, NameNotPermitted, Nonconforming, Inaccurate}
use Rattle.reg_core.specs.declared.rows.CrlRow.{CrlRow}
use Rattle.reg_core.specs.declared.rows.SubscriberRow.{SubscriberRow}
use Rattle.reg_core_lists.specs.declared.fields.Cell.{Cell}
use Rattle.reg_core_lists.specs.declared.fields.Cell.TheVariants.{Empty, Number, Serial, At, Text}
use Rattle.reg_core_lists.specs.declared.fields.Field.{Field}
use Rattle.reg_core_lists.specs.declared.rows.ListedCertificate.{ListedCertificate}
use Rattle.reg_core_lists.specs.declared.rows.ListedOrder.{ListedOrder}
use Rattle.reg_core_lists.specs.declared.rows.RequestWithState.{RequestWithState}
use Rattle.reg_core_lists.specs.declared.rows.ListedRequest.{ListedRequest}
use Rattle.reg_core_lists.specs.declared.rows.ListedRevocation.{ListedRevocation}
use Rattle.reg_core_lists.specs.declared.rows.Row.{Row}
use Rattle.reg_core_lists.specs.declared.rows.Row.TheVariants as kind

-- a field: its name and its value
abbrev pub field_of_text : Field → List ℕ × Cell
field_of_text field = (field.name.now, field.cell)

-- the name of a status
abbrev pub status_name : Status → List ℕ
status_name Unknown = codes "unknown"
status_name Good = codes "good"
status_name Expired = codes "expired"
status_name (Revoked at reason) = codes "revoked"

-- the moment of revocation (RFC 5280 5.1.2.6), if revoked
abbrev pub revoked_at_cell : Status → Cell
revoked_at_cell (Revoked at reason) = At at
revoked_at_cell Unknown = Empty
revoked_at_cell Good = Empty
revoked_at_cell Expired = Empty

-- the state of a request, by whether it was declined and by the status of its certificate
abbrev pub state_name : Bool → Status → List ℕ
state_name true status = codes "declined"
state_name false Good = codes "open"
state_name false (Revoked at reason) = status_name (Revoked at reason)
state_name false Expired = status_name Expired
state_name false Unknown = status_name Unknown

-- the moment at which the request's certificate was revoked; empty for a declined request, because no record has that moment
abbrev pub decided_cell : Bool → Status → Cell
decided_cell declined status = cond declined Empty (revoked_at_cell status)

-- the reasonCode of a revocation (RFC 5280 5.3.1), if revoked
abbrev pub reason_cell : Status → Cell
reason_cell (Revoked at reason) = Number reason
reason_cell Unknown = Empty
reason_cell Good = Empty
reason_cell Expired = Empty

abbrev pub number_or_empty : Option ℕ → Cell
number_or_empty None = Empty
number_or_empty (Some number) = Number number

abbrev pub serial_or_empty : Option ℕ → Cell
serial_or_empty None = Empty
serial_or_empty (Some serial) = Serial serial

-- the number of the first CRL that lists a certificate; `last_listing_cell` has that of the last one, if it is issued
abbrev pub first_listing_cell : Option Listing → Cell
first_listing_cell None = Empty
first_listing_cell (Some listing) = Number listing.first

abbrev pub last_listing_cell : Option Listing → Cell
last_listing_cell None = Empty
last_listing_cell (Some listing) = number_or_empty listing.last

-- the name of a ground, as in a request for revocation
abbrev pub ground_name : Ground → List ℕ
ground_name Asked = codes "asked"
ground_name Unauthorized = codes "unauthorized"
ground_name KeyCompromise = codes "key-compromise"
ground_name ControlLost = codes "control-lost"
ground_name Affiliation = codes "affiliation"
ground_name Superseded = codes "superseded"
ground_name Cessation = codes "cessation"
ground_name Misuse = codes "misuse"
ground_name NameNotPermitted = codes "name-not-permitted"
ground_name Nonconforming = codes "nonconforming"
ground_name Inaccurate = codes "inaccurate"

-- the fields of a certificate; here and below, each kind of row has its fields in the order of its header
abbrev pub certificate_fields : ListedCertificate → List (List ℕ × Cell)
certificate_fields line =
    (codes "serial", Serial line.certificate.serial)
    ∷ (codes "subscriber", Number line.subscriber.id)
    ∷ (codes "name", Text line.subscriber.name)
    ∷ (codes "order", Number line.certificate.order)
    ∷ (codes "notBefore", At line.certificate.not_before)
    ∷ (codes "notAfter", At line.certificate.not_after)
    ∷ (codes "status", Text (status_name line.status))
    ∷ (codes "revokedAt", revoked_at_cell line.status)
    ∷ (codes "reason", reason_cell line.status)
    ∷ (codes "firstCrl", first_listing_cell line.listing)
    ∷ (codes "lastCrl", last_listing_cell line.listing)
    ∷ []

-- the fields of a revocation: those of its certificate, and then those of its request
abbrev pub revoked_fields : ListedRevocation → List (List ℕ × Cell)
revoked_fields line =
    certificate_fields line.certificate
    ++ ((codes "request", Number line.request.id)
    ∷ (codes "ground", Text (ground_name line.request.ground))
    ∷ (codes "received", At line.request.received)
    ∷ (codes "due", At line.due)
    ∷ (codes "lateness", Number (line.revocation.at - line.due))
    ∷ [])

abbrev pub request_fields : ListedRequest → List (List ℕ × Cell)
request_fields line =
    (codes "request", Number line.request.id)
    ∷ (codes "serial", Serial line.request.serial)
    ∷ (codes "ground", Text (ground_name line.request.ground))
    ∷ (codes "received", At line.request.received)
    ∷ (codes "due", At line.due)
    ∷ (codes "subscriber", Number line.subscriber.id)
    ∷ (codes "name", Text line.subscriber.name)
    ∷ (codes "order", Number line.certificate.order)
    ∷ (codes "notBefore", At line.certificate.not_before)
    ∷ (codes "notAfter", At line.certificate.not_after)
    ∷ []

abbrev pub request_with_state_fields : RequestWithState → List (List ℕ × Cell)
request_with_state_fields history =
    request_fields history.request
    ++ ((codes "state", Text (state_name history.request.request.declined history.status))
    ∷ (codes "decided", decided_cell history.request.request.declined history.status)
    ∷ (codes "lateness", number_or_empty history.lateness)
    ∷ [])

abbrev pub subscriber_fields : SubscriberRow → List (List ℕ × Cell)
subscriber_fields subscriber =
    (codes "subscriber", Number subscriber.id)
    ∷ (codes "name", Text subscriber.name)
    ∷ []

abbrev pub order_fields : ListedOrder → List (List ℕ × Cell)
order_fields line =
    (codes "order", Number line.order.id)
    ∷ (codes "subscriber", Number line.subscriber.id)
    ∷ (codes "name", Text line.subscriber.name)
    ∷ (codes "days", Number line.order.days)
    ∷ (codes "serial", serial_or_empty line.serial)
    ∷ []

abbrev pub crl_fields : CrlRow → List (List ℕ × Cell)
crl_fields crl =
    (codes "crl", Number crl.number)
    ∷ (codes "thisUpdate", At crl.this_update)
    ∷ []

-- the fields of any row
abbrev pub row_fields : Row → List (List ℕ × Cell)
row_fields (kind.Certificate line) = certificate_fields line
row_fields (kind.Revoked line) = revoked_fields line
row_fields (kind.Request line) = request_fields line
row_fields (kind.AnyRequest history) = request_with_state_fields history
row_fields (kind.Subscriber subscriber) = subscriber_fields subscriber
row_fields (kind.Order line) = order_fields line
row_fields (kind.Crl crl) = crl_fields crl

-- the bytes of a field's value
unfoldable pub plain_text : Cell → List ℕ
plain_text Empty = []
plain_text (Number number) = decimal number
plain_text (Serial serial) = serial_text serial
plain_text (At moment) = moment_text moment
plain_text (Text text) = text

-- a field's value in JSON (RFC 8259 3): `null` if empty, a number, or else a string (34 is the code of `"`)
unfoldable pub json_text : Cell → List ℕ
json_text Empty = codes "null"
json_text (Number number) = plain_text (Number number)
json_text (Serial serial) = 34 ∷ plain_text (Serial serial) ++ 34 ∷ []
json_text (At moment) = 34 ∷ plain_text (At moment) ++ 34 ∷ []
json_text (Text text) = 34 ∷ plain_text (Text text) ++ 34 ∷ []
