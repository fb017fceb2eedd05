-- What each text of the schema defines, beside the tables that are made before it.
use Rattle.std.proofs.Common.{refl}
use Rattle.sqlite_resolve.specs.Compile.{table_defined_by}
use Rattle.sqlite_catalog.specs.Change.{created}
use Rattle.sqlite.specs.Listing.{understood}
use Rattle.sqlite_tied.specs.Compute.{everything}
use Rattle.reg_store_tables.specs.Schema.{no_schema, office, subscriber, orders, cert, request, revocation, crl}
use Rattle.reg_store_tables.specs.declared.schema.TheConstants.{OFFICE, SUBSCRIBER, ORDERS, CERT, REQUEST, REVOCATION, CRL}
use Rattle.reg_store_migration.specs.Makes.{DefinesTable}
use Rattle.reg_store_opening.specs.Blank.{entry_tables}

pub office_defined : DefinesTable no_schema OFFICE.now (record office { tree = 0 })
unfolding understood everything table_defined_by
office_defined = record { plain = (refl, refl); is = refl; whole = refl; defined = refl; uncounted = refl }

pub subscriber_defined : DefinesTable (created no_schema office) SUBSCRIBER.now (record subscriber { tree = 0 })
unfolding understood everything table_defined_by
subscriber_defined = record { plain = (refl, refl); is = refl; whole = refl; defined = refl; uncounted = refl }

pub orders_defined : DefinesTable (created (created no_schema office) subscriber) ORDERS.now (record orders { tree = 0 })
unfolding understood everything table_defined_by
orders_defined = record { plain = (refl, refl); is = refl; whole = refl; defined = refl; uncounted = refl }

pub cert_defined : DefinesTable (created (created (created no_schema office) subscriber) orders) CERT.now (record cert { tree = 0 })
unfolding understood everything table_defined_by
cert_defined = record { plain = (refl, refl); is = refl; whole = refl; defined = refl; uncounted = refl }

pub request_defined : DefinesTable entry_tables REQUEST.now (record request { tree = 0 })
unfolding understood everything table_defined_by
request_defined = record { plain = (refl, refl); is = refl; whole = refl; defined = refl; uncounted = refl }

pub revocation_defined : DefinesTable (created entry_tables request) REVOCATION.now (record revocation { tree = 0 })
unfolding understood everything table_defined_by
revocation_defined = record { plain = (refl, refl); is = refl; whole = refl; defined = refl; uncounted = refl }

pub crl_defined : DefinesTable (created (created entry_tables request) revocation) CRL.now (record crl { tree = 0 })
unfolding understood everything table_defined_by
crl_defined = record { plain = (refl, refl); is = refl; whole = refl; defined = refl; uncounted = refl }
