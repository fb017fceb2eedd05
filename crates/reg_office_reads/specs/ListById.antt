-- The lists by ids: the row for an id, and the cursor after an id; and the lists of certificates.
use Rattle.std.specs.Prelude.{ℕ, ◌-◌, ◌==◌, List, Option, Some, None, cond, length, option_and_then, option_map, slice_get}
use Rattle.reg_core.specs.Records.{Records, order_in, request_in, subscriber_in}
use Rattle.reg_core.specs.declared.rows.CertRow.{CertRow}
use Rattle.reg_core_lists.specs.Lists.{certificate_row, expiring_row, history_row, open_row, order_row, overdue_row, subscriber_row}
use Rattle.reg_core_lists.specs.declared.cursor.Cursor.{Cursor}
use Rattle.reg_core_lists.specs.declared.cursor.Cursor.TheVariants as cursor
use Rattle.reg_core_lists.specs.declared.rows.Row.{Row}
use Rattle.reg_store_tables.specs.declared.sizes.Table.{Table}
use Rattle.reg_store_tables.specs.declared.sizes.Table.TheVariants.{Subscribers as OfSubscribers, Orders as OfOrders, Requests as OfRequests}
use Rattle.reg_office_reads.specs.declared.pages.ListById.{ListById}
use Rattle.reg_office_reads.specs.declared.pages.ListById.TheVariants.{OpenRequests, Overdue, Requests, Subscribers, Orders}

-- the table whose rows the list has
abbrev pub numbered_table : ListById → Table
numbered_table OpenRequests = OfRequests
numbered_table Overdue = OfRequests
numbered_table Requests = OfRequests
numbered_table Subscribers = OfSubscribers
numbered_table Orders = OfOrders

-- the cursor of the list, after an id
abbrev pub cursor_of : ListById → ℕ → Cursor
cursor_of OpenRequests after = cursor.OpenRequests after
cursor_of Overdue after = cursor.Overdue after
cursor_of Requests after = cursor.Requests after
cursor_of Subscribers after = cursor.Subscribers after
cursor_of Orders after = cursor.Orders after

-- the list's row for the record with an id; none if the list does not select it
abbrev pub row_at : Records → ℕ → ListById → ℕ → Option Row
row_at records now OpenRequests id = option_and_then (open_row records now) (request_in records.requests id)
row_at records now Overdue id = option_and_then (overdue_row records now) (request_in records.requests id)
row_at records now Requests id = option_and_then (history_row records now) (request_in records.requests id)
row_at records now Subscribers id = option_and_then subscriber_row (subscriber_in records.subscribers id)
row_at records now Orders id = option_and_then (order_row records) (order_in records.orders id)

-- the cursor after a serial number, of all certificates, or of the good ones whose notAfter is before a moment
abbrev pub certificates_after : Option ℕ → Option ℕ → Cursor
certificates_after None after = cursor.Certificates after
certificates_after (Some before) after = cursor.Ending before after

-- the row of a certificate in one of these two lists; none if the list does not select it
abbrev pub certificate_listed : Records → ℕ → Option ℕ → CertRow → Option Row
certificate_listed records now None certificate = certificate_row records now certificate
certificate_listed records now (Some before) certificate = expiring_row records now before certificate

-- the key of the last of these rows, if they are as many as a page may read; else none
abbrev pub last_of_full : {A : Type 0} → (A → ℕ) → ℕ → List A → Option ℕ
last_of_full key most found =
    cond (length found == most) (option_map key (slice_get found (length found - 1))) None
