-- The SQL statements that read the tables, and the rows that they return.
use Rattle.std.specs.Prelude.{ℕ, List, [], ◌∷◌}
use Rattle.sqlite_value.specs.Order.{Row}
use Rattle.sqlite.specs.Effect.{Database, Reads}
use Rattle.sqlite.specs.Listing.{understood}
use Rattle.reg_core.specs.Records.{Records}
use Rattle.reg_store_tables.specs.DerivedRows.{DerivedRows}
use Rattle.reg_store_tables.specs.ReadStatements.{command_of}
use Rattle.reg_store_tables.specs.Schema.{register_schema}
use Rattle.reg_store_tables.specs.Shows.{AreRecordsAndDerived}
use Rattle.reg_audit.specs.declared.sql.AuditQuery.{AuditQuery}
use Rattle.reg_audit.specs.declared.sql.AuditQuery.TheVariants.{Office, Subscribers, Orders, Certificates, Requests, Revocations, Crls, Standings, Counts, Listings, CertificateRowids, RevocationRowids, StandingRowids, CountsRowid, ListingRowids, Terms, Steps}
use Rattle.reg_audit.specs.declared.sql.TheConstants.{OFFICE, SUBSCRIBERS, ORDERS, CERTIFICATES, REQUESTS, REVOCATIONS, CRLS, STANDINGS, COUNTS, LISTINGS, CERTIFICATE_ROWIDS, REVOCATION_ROWIDS, STANDING_ROWIDS, COUNTS_ROWID, LISTING_ROWIDS, TERMS, STEPS}

-- the SQL of each statement
abbrev pub sql_of : AuditQuery → List ℕ
sql_of Office = OFFICE.now
sql_of Subscribers = SUBSCRIBERS.now
sql_of Orders = ORDERS.now
sql_of Certificates = CERTIFICATES.now
sql_of Requests = REQUESTS.now
sql_of Revocations = REVOCATIONS.now
sql_of Crls = CRLS.now
sql_of Standings = STANDINGS.now
sql_of Counts = COUNTS.now
sql_of Listings = LISTINGS.now
sql_of CertificateRowids = CERTIFICATE_ROWIDS.now
sql_of RevocationRowids = REVOCATION_ROWIDS.now
sql_of StandingRowids = STANDING_ROWIDS.now
sql_of CountsRowid = COUNTS_ROWID.now
sql_of ListingRowids = LISTING_ROWIDS.now
sql_of Terms = TERMS.now
sql_of Steps = STEPS.now

-- the statement returns these rows from these tables
abbrev pub IsReadFrom : Database → AuditQuery → List Row → Type 0
IsReadFrom db what rows = Reads (command_of (understood register_schema (sql_of what))) db [] rows

-- the statement returns these rows from some tables that show these records and derived rows
pub record IsReadOf (records : Records) (columns : DerivedRows) (what : AuditQuery)
    (rows : List Row) : Type 0 where
  pub db : Database
  pub both : AreRecordsAndDerived db records columns
  pub reads : Reads (command_of (understood register_schema (sql_of what))) db [] rows

-- there are rows for each statement, in this order, and `Is` holds of each pair
abbrev pub AreEach : {Rows : Type 0} → (AuditQuery → List Row → Type 0) → List AuditQuery → List Rows
    → (Rows → List Row) → Type 0
AreEach Is [] [] items = Unit {0}
AreEach Is [] (rows ∷ more) items = ⊥
AreEach Is (what ∷ whats) [] items = ⊥
AreEach Is (what ∷ whats) (rows ∷ more) items = Is what (items rows) × AreEach Is whats more items

-- the rows of each statement over tables that show these records and derived rows
abbrev pub AreRead : {Rows : Type 0} → Records → DerivedRows → List AuditQuery → List Rows → (Rows → List Row)
    → Type 0
AreRead records columns = AreEach (IsReadOf records columns)

-- the rows of each statement over these tables
abbrev pub AreReadFrom : {Rows : Type 0} → Database → List AuditQuery → List Rows → (Rows → List Row) → Type 0
AreReadFrom db = AreEach (IsReadFrom db)

-- the statements for the rows of all tables except that of the schedule, in the order in which an audit runs them
abbrev pub whole : List AuditQuery
whole =
    Office ∷ Subscribers ∷ Orders ∷ Certificates ∷ Requests ∷ Revocations ∷ Crls ∷ Standings
    ∷ Counts ∷ Listings ∷ []

-- the statements that it runs after those
abbrev pub other_queries : List AuditQuery
other_queries =
    CertificateRowids ∷ RevocationRowids ∷ StandingRowids ∷ CountsRowid ∷ ListingRowids ∷ Terms ∷ Steps ∷ []
