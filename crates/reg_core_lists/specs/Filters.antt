-- Filters of a list's rows, by their fields.
use Rattle.std.specs.Prelude.{ℕ, Bool, true, false, not, ◌==◌, ◌&&◌, ◌||◌, List, length, take, drop, bytes_eq, filter, nat_le, nat_lt, Option, Some, None, is_none}
use Rattle.std.specs.List.{position_or_len}
use Rattle.std.specs.Str.{str_eq_ignore_ascii_case}
use Rattle.reg_core.specs.Serial.{serial_text}
use Rattle.reg_core_lists.specs.declared.cursor.Cursor.{Cursor}
use Rattle.reg_core_lists.specs.declared.cursor.Cursor.TheVariants as cursor
use Rattle.reg_core_lists.specs.declared.filter.Filter.{Filter}
use Rattle.reg_core_lists.specs.declared.rows.Row.{Row}
use Rattle.reg_core_lists.specs.declared.rows.Row.TheVariants.{Certificate, Revoked, Request, AnyRequest, Subscriber, Order, Crl}

-- the filter without conditions, which all rows pass
abbrev pub all_rows : Filter
all_rows = record { subscriber = None; serial = None; from = None; to = None }

-- ---- the fields of a row that a filter uses

-- the name of the subscriber
abbrev pub name_of_row : Row → Option (List ℕ)
name_of_row (Certificate line) = Some line.subscriber.name
name_of_row (Revoked line) = Some line.certificate.subscriber.name
name_of_row (Request line) = Some line.subscriber.name
name_of_row (AnyRequest history) = Some history.request.subscriber.name
name_of_row (Subscriber subscriber) = Some subscriber.name
name_of_row (Order line) = Some line.subscriber.name
name_of_row (Crl crl) = None

-- the serial number; for an order, that of the certificate that fills it
abbrev pub serial_of_row : Row → Option ℕ
serial_of_row (Certificate line) = Some line.certificate.serial
serial_of_row (Revoked line) = Some line.revocation.serial
serial_of_row (Request line) = Some line.request.serial
serial_of_row (AnyRequest history) = Some history.request.request.serial
serial_of_row (Subscriber subscriber) = None
serial_of_row (Order line) = line.serial
serial_of_row (Crl crl) = None

-- the notBefore of a certificate, the moment of a revocation, the receipt of a request, the thisUpdate of a CRL
abbrev pub time_of_row : Row → Option ℕ
time_of_row (Certificate line) = Some line.certificate.not_before
time_of_row (Revoked line) = Some line.revocation.at
time_of_row (Request line) = Some line.request.received
time_of_row (AnyRequest history) = Some history.request.request.received
time_of_row (Subscriber subscriber) = None
time_of_row (Order line) = None
time_of_row (Crl crl) = Some crl.this_update

-- ---- whether a field satisfies a condition

-- each row satisfies a condition that is not given; only a row with the field can satisfy one that is given
abbrev pub wanted_field : {A B : Type 0} → (A → B → Bool) → Option A → Option B → Bool
wanted_field is_wanted None found = true
wanted_field is_wanted (Some wanted) None = false
wanted_field is_wanted (Some wanted) (Some found) = is_wanted wanted found

-- a text starts with these digits, in either case
abbrev pub starts_in_any_case : List ℕ → List ℕ → Bool
starts_in_any_case text digits =
    nat_le (length digits) (length text) && str_eq_ignore_ascii_case (take (length digits) text) digits

-- a serial number begins with these digits, as its text in lists or without leading zeros (48 is the code of `0`)
abbrev pub begins_with : List ℕ → ℕ → Bool
begins_with digits serial =
    starts_in_any_case (serial_text serial) digits
    || starts_in_any_case
    (drop (position_or_len (λ byte. not (byte == 48)) (serial_text serial)) (serial_text serial)) digits

-- a row passes the filter
abbrev pub keeps : Filter → Row → Bool
keeps wanted row =
    wanted_field bytes_eq wanted.subscriber (name_of_row row)
    && wanted_field begins_with wanted.serial (serial_of_row row)
    && wanted_field nat_le wanted.from (time_of_row row)
    && wanted_field (λ to time. nat_lt time to) wanted.to (time_of_row row)

-- the rows that pass the filter, in their order
abbrev pub filtered_rows : Filter → List Row → List Row
filtered_rows wanted rows = filter (keeps wanted) rows

-- the filter has no condition on time
abbrev pub has_no_time : Filter → Bool
has_no_time wanted = is_none wanted.from && is_none wanted.to

-- the rows of the list have the fields that the filter needs
abbrev pub fits : Filter → Cursor → Bool
fits wanted (cursor.Crls after) = is_none wanted.subscriber && is_none wanted.serial
fits wanted (cursor.Subscribers after) = is_none wanted.serial && has_no_time wanted
fits wanted (cursor.Orders after) = has_no_time wanted
fits wanted (cursor.Revoked after) = true
fits wanted (cursor.Certificates after) = true
fits wanted (cursor.Ending before after) = true
fits wanted (cursor.OpenRequests after) = true
fits wanted (cursor.Overdue after) = true
fits wanted (cursor.Requests after) = true
