-- How many rows a table of the records has, and the statement that finds the number of its last row.
use Rattle.std.specs.Prelude.{ℕ, List, length}
use Rattle.reg_core.specs.Records.{Records}
use Rattle.reg_store_tables.specs.declared.sizes.Table.{Table}
use Rattle.reg_store_tables.specs.declared.sql.TheConstants.{LAST_SUBSCRIBER, LAST_ORDER, LAST_CERT, LAST_REQUEST, LAST_CRL}
use Rattle.reg_store_tables.specs.declared.sizes.Table.TheVariants.{Subscribers, Orders, Certs, Requests, Crls}

abbrev pub rows_of : Records → Table → ℕ
rows_of records Subscribers = length records.subscribers
rows_of records Orders = length records.orders
rows_of records Certs = length records.certificates
rows_of records Requests = length records.requests
rows_of records Crls = length records.crls

abbrev pub text_of_last : Table → List ℕ
text_of_last Subscribers = LAST_SUBSCRIBER.now
text_of_last Orders = LAST_ORDER.now
text_of_last Certs = LAST_CERT.now
text_of_last Requests = LAST_REQUEST.now
text_of_last Crls = LAST_CRL.now
