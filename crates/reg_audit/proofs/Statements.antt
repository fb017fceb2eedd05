-- The texts read, and do nothing else.
use Rattle.std.proofs.Common.{refl}
use Rattle.sqlite.specs.Listing.{understood}
use Rattle.sqlite_resolve.specs.Compile.{first}
use Rattle.sqlite_tied.specs.Compute.{everything}
use Rattle.reg_store_tables.specs.Schema.{register_schema}
use Rattle.reg_store_tables.specs.ReadStatements.{IsReading}
use Rattle.reg_store_tables.proofs.PublicLaws.{select_never}
use Rattle.reg_audit.specs.ReadQueries.{sql_of}
use Rattle.reg_audit.specs.declared.sql.AuditQuery.{AuditQuery}
use Rattle.reg_audit.specs.declared.sql.AuditQuery.TheVariants.{Office, Subscribers, Orders, Certificates, Requests, Revocations, Crls, Standings, Counts, Listings, CertificateRowids, RevocationRowids, StandingRowids, CountsRowid, ListingRowids, Terms, Steps}
use Rattle.reg_audit.specs.declared.sql.TheConstants.{OFFICE, SUBSCRIBERS, ORDERS, CERTIFICATES, REQUESTS, REVOCATIONS, CRLS, STANDINGS, COUNTS, LISTINGS, CERTIFICATE_ROWIDS, REVOCATION_ROWIDS, STANDING_ROWIDS, COUNTS_ROWID, LISTING_ROWIDS, TERMS, STEPS}

reading_office : IsReading OFFICE.now
unfolding understood everything register_schema first
reading_office = record { plain = (refl, refl); unlisted = refl; never = select_never OFFICE.now _ _ refl refl refl }

reading_subscribers : IsReading SUBSCRIBERS.now
unfolding understood everything register_schema first
reading_subscribers = record { plain = (refl, refl); unlisted = refl; never = select_never SUBSCRIBERS.now _ _ refl refl refl }

reading_orders : IsReading ORDERS.now
unfolding understood everything register_schema first
reading_orders = record { plain = (refl, refl); unlisted = refl; never = select_never ORDERS.now _ _ refl refl refl }

reading_certificates : IsReading CERTIFICATES.now
unfolding understood everything register_schema first
reading_certificates = record { plain = (refl, refl); unlisted = refl; never = select_never CERTIFICATES.now _ _ refl refl refl }

reading_requests : IsReading REQUESTS.now
unfolding understood everything register_schema first
reading_requests = record { plain = (refl, refl); unlisted = refl; never = select_never REQUESTS.now _ _ refl refl refl }

reading_revocations : IsReading REVOCATIONS.now
unfolding understood everything register_schema first
reading_revocations = record { plain = (refl, refl); unlisted = refl; never = select_never REVOCATIONS.now _ _ refl refl refl }

reading_crls : IsReading CRLS.now
unfolding understood everything register_schema first
reading_crls = record { plain = (refl, refl); unlisted = refl; never = select_never CRLS.now _ _ refl refl refl }

reading_standings : IsReading STANDINGS.now
unfolding understood everything register_schema first
reading_standings = record { plain = (refl, refl); unlisted = refl; never = select_never STANDINGS.now _ _ refl refl refl }

reading_counts : IsReading COUNTS.now
unfolding understood everything register_schema first
reading_counts = record { plain = (refl, refl); unlisted = refl; never = select_never COUNTS.now _ _ refl refl refl }

reading_listings : IsReading LISTINGS.now
unfolding understood everything register_schema first
reading_listings = record { plain = (refl, refl); unlisted = refl; never = select_never LISTINGS.now _ _ refl refl refl }

reading_certificate_rowids : IsReading CERTIFICATE_ROWIDS.now
unfolding understood everything register_schema first
reading_certificate_rowids = record { plain = (refl, refl); unlisted = refl; never = select_never CERTIFICATE_ROWIDS.now _ _ refl refl refl }

reading_revocation_rowids : IsReading REVOCATION_ROWIDS.now
unfolding understood everything register_schema first
reading_revocation_rowids = record { plain = (refl, refl); unlisted = refl; never = select_never REVOCATION_ROWIDS.now _ _ refl refl refl }

reading_standing_rowids : IsReading STANDING_ROWIDS.now
unfolding understood everything register_schema first
reading_standing_rowids = record { plain = (refl, refl); unlisted = refl; never = select_never STANDING_ROWIDS.now _ _ refl refl refl }

reading_counts_rowid : IsReading COUNTS_ROWID.now
unfolding understood everything register_schema first
reading_counts_rowid = record { plain = (refl, refl); unlisted = refl; never = select_never COUNTS_ROWID.now _ _ refl refl refl }

reading_listing_rowids : IsReading LISTING_ROWIDS.now
unfolding understood everything register_schema first
reading_listing_rowids = record { plain = (refl, refl); unlisted = refl; never = select_never LISTING_ROWIDS.now _ _ refl refl refl }

reading_terms : IsReading TERMS.now
unfolding understood everything register_schema first
reading_terms = record { plain = (refl, refl); unlisted = refl; never = select_never TERMS.now _ _ refl refl refl }

reading_steps : IsReading STEPS.now
unfolding understood everything register_schema first
reading_steps = record { plain = (refl, refl); unlisted = refl; never = select_never STEPS.now _ _ refl refl refl }

pub reading : (what : AuditQuery) → IsReading (sql_of what)
reading Office = reading_office
reading Subscribers = reading_subscribers
reading Orders = reading_orders
reading Certificates = reading_certificates
reading Requests = reading_requests
reading Revocations = reading_revocations
reading Crls = reading_crls
reading Standings = reading_standings
reading Counts = reading_counts
reading Listings = reading_listings
reading CertificateRowids = reading_certificate_rowids
reading RevocationRowids = reading_revocation_rowids
reading StandingRowids = reading_standing_rowids
reading CountsRowid = reading_counts_rowid
reading ListingRowids = reading_listing_rowids
reading Terms = reading_terms
reading Steps = reading_steps
