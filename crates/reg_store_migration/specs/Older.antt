-- The records that a register's file of an older version shows.
use Rattle.std.specs.Prelude.{◌≡◌, ℕ, [], ◌∷◌, map}
use Rattle.std.specs.List.{AllByRecursion}
use Rattle.sqlite_value.specs.declared.value.Value.TheVariants.{Null, Blob}
use Rattle.sqlite_value.specs.Order.{Row}
use Rattle.sqlite_trees.specs.Tree.{Trees}
use Rattle.sqlite_trees.specs.declared.store.Store.{Ghosts}
use Rattle.sqlite_schema.specs.declared.schema.Schema.{Schema}
use Rattle.sqlite.specs.Effect.{Database}
use Rattle.sqlite.specs.Held.{Held}
use Rattle.reg_core.specs.Issuer.{Issuer}
use Rattle.reg_core.specs.Policy.{Terms, IsPolicy}
use Rattle.reg_core.specs.Records.{Records}
use Rattle.reg_core.specs.Schedule.{one_step}
use Rattle.reg_core.specs.Sound.{NumberedFrom}
use Rattle.reg_store_tables.specs.Schema.{record_tables}
use Rattle.reg_store_tables.specs.Rows.{number, counted_rows, stored_subscriber, stored_order, stored_certificate, stored_request, stored_revocation, stored_crl}
use Rattle.reg_store_tables.specs.Shows.{HaveSerials, Holds}
pub use Rattle.reg_store_tables.specs.Schema.{with_derived_tables}
use Rattle.reg_store_migration.specs.NumberedRows.{IsNumbered}
use Rattle.reg_store_migration.specs.declared.version.OlderVersion.{OlderVersion}
use Rattle.reg_store_migration.specs.declared.version.OlderVersion.TheVariants.{First, Second}

-- the number of the version in the row of the office
abbrev pub version_number : OlderVersion → ℕ
version_number First = 1
version_number Second = 2

-- version 1 has the tables of the office and the records, version 2 also the derived tables; neither has the indexes of version 3
abbrev pub older_schema : OlderVersion → Schema
older_schema First = record_tables
older_schema Second = with_derived_tables

-- office: one, version, name, pubkey, days, crl_life, ocsp_life, cap, last_at; days is the longest validity at any moment
abbrev pub stored_older : OlderVersion → ℕ → Issuer → Terms → ℕ → Row
stored_older version days issuer policy last =
    number 1 ∷ Null ∷ number (version_number version) ∷ Blob issuer.name ∷ Blob issuer.key ∷ number days
    ∷ number policy.crl_life ∷ number policy.ocsp_life ∷ number policy.cap ∷ number last ∷ []

-- each record is one row of its table, and each row is one record, as in a register of the program's version; serial numbers are valid
pub record AreRecords (trees : Trees) (records : Records) : Type 0 where
  pub subscribers : trees 1 ≡ map stored_subscriber records.subscribers
  pub orders : trees 3 ≡ map stored_order records.orders
  pub certificates : trees 4 ≡ counted_rows (map stored_certificate records.certificates)
  pub requests : trees 7 ≡ map stored_request records.requests
  pub revocations : trees 8 ≡ counted_rows (map stored_revocation records.revocations)
  pub crls : trees 11 ≡ map stored_crl records.crls
  pub subscribers_numbered : NumberedFrom (λ row. row.id) 1 records.subscribers
  pub orders_numbered : NumberedFrom (λ row. row.id) 1 records.orders
  pub requests_numbered : NumberedFrom (λ row. row.id) 1 records.requests
  pub crls_numbered : NumberedFrom (λ crl. crl.number) 1 records.crls
  pub certificate_serials : HaveSerials (λ row. row.serial) records.certificates
  pub request_serials : HaveSerials (λ row. row.serial) records.requests
  pub revocation_serials : HaveSerials (λ row. row.serial) records.revocations

-- the derived tables of version 2 may have any rows whose rowids are integers: they are rebuilt; version 1 has no derived tables
abbrev pub HasDerivedRows : OlderVersion → Trees → Type 0
HasDerivedRows First trees = Unit {0}
HasDerivedRows Second trees =
    AllByRecursion IsNumbered (trees 12) × AllByRecursion IsNumbered (trees 14)
    × AllByRecursion IsNumbered (trees 15)

-- the database has the schema of an older version, and its tables show the records, whose policy is valid and whose schedule has one step
pub record IsShownByOlder (version : OlderVersion) (db : Database) (records : Records) : Type 0 where
  pub schema : db.schema ≡ older_schema version
  pub days : ℕ
  pub office : db.trees 0 ≡ stored_older version days records.issuer records.policy records.last ∷ []
  pub schedule : records.policy.schedule ≡ one_step days
  pub policy : IsPolicy records.policy
  pub rows : AreRecords db.trees records
  pub beside : HasDerivedRows version db.trees

-- if the disk returned what was written, and the connection is open, its tables are of an older version, show the records, and are committed
abbrev pub ShowsOlder : {S : Type 0} → OlderVersion → Ghosts S → Held S → Records → Type 0
ShowsOlder version g h records = Holds g h (λ db. IsShownByOlder version db records)
