-- Tables that hold a register's rows and nothing else.
use Rattle.std.specs.Prelude.{◌≡◌, ℕ, ℤ, List, [], ◌∷◌, map, length}
use Rattle.std.specs.List.{AllByRecursion}
use Rattle.sqlite_value.specs.Order.{Row}
use Rattle.sqlite_trees.specs.Tree.{Trees, IsTable}
use Rattle.sqlite.specs.Effect.{Database, IsDatabase}
use Rattle.reg_core.specs.Issuer.{Issuer}
use Rattle.reg_core.specs.Policy.{Terms, IsPolicy}
use Rattle.reg_core.specs.Records.{Records, Crl}
use Rattle.reg_core.specs.Serial.{IsSerial}
use Rattle.reg_core.specs.Reached.{Reached}
use Rattle.reg_core.specs.Sound.{NumberedFrom}
use Rattle.reg_core.specs.declared.command.Counts.{Counts}
use Rattle.reg_core.specs.declared.rows.CertRow.{CertRow}
use Rattle.reg_core.specs.declared.rows.OrderRow.{OrderRow}
use Rattle.reg_core.specs.declared.rows.RequestRow.{RequestRow}
use Rattle.reg_core.specs.declared.rows.RevocationRow.{RevocationRow}
use Rattle.reg_core.specs.declared.rows.SubscriberRow.{SubscriberRow}
use Rattle.reg_store_tables.specs.DerivedRows.{DerivedRows, Standing, Listed, stored_standing, stored_counts, stored_listed}
use Rattle.reg_store_tables.specs.Kept.{Kept}
use Rattle.reg_store_tables.specs.Rows.{number, version, counted_rows, stored_office, stored_subscriber, stored_order, stored_certificate, stored_request, stored_revocation, stored_crl, stored_step}
use Rattle.reg_store_tables.specs.Schema.{register_schema, table_trees}
use Rattle.reg_store_tables.specs.Shows.{AreRecordsAndDerived}
use Rattle.reg_audit.specs.Cells.{HasCells}
use Rattle.reg_audit.specs.Stored.{IsSomeCrl}
use Rattle.reg_audit.specs.declared.complete.OfficeNumbers.{OfficeNumbers as Found}

-- What holds of a register's tables, whatever rows they have: they have its schema and obey it, and the rowids of each table
-- rise. Each row of `listed` has all its columns. In SQLite a row may lack the last one, which a query returns as NULL. No
-- statement of a register writes such a row.
pub record AreTables (db : Database) : Type 0 where
  pub schema : db.schema ≡ register_schema
  pub obeyed : IsDatabase db
  pub rises : AllByRecursion (λ tree. IsTable (db.trees tree)) table_trees
  pub whole : AllByRecursion (λ row. length row ≡ 7) (db.trees 15)

-- the rows of a table are those of some records; their numbers are 1, 2, 3 and so on, and `well` holds of each
pub record AreKeyed {A : Type 0} (well : A → Type 0) (stored : A → Row) (number : A → ℕ)
    (rows : List Row) : Type 0 where
  pub these : List A
  pub are : rows ≡ map stored these
  pub numbered : NumberedFrom number 1 these
  pub each : AllByRecursion well these

-- the rows of a table are the rowids 1, 2, 3 and so on, each before the columns of some record, of which `well` holds
pub record AreCounted {A : Type 0} (well : A → Type 0) (stored : A → Row) (rows : List Row) : Type 0 where
  pub these : List A
  pub are : rows ≡ counted_rows (map stored these)
  pub each : AllByRecursion well these

-- the one row of `office`, and the steps of the schedule, are those of an issuer, a valid policy and a moment
pub record AreOffice (trees : Trees) : Type 0 where
  pub days : ℤ
  pub issuer : Issuer
  pub policy : Terms
  pub last : ℕ
  pub office : trees 0 ≡ stored_office days issuer policy last ∷ []
  pub schedule : trees 17 ≡ map stored_step policy.schedule
  pub in_range : IsPolicy policy

-- ---- the rows of each table, by the number of its B-tree in `register_schema`, are those of some records, or some derived rows
abbrev pub SubscribersAgree : Trees → Type 0
SubscribersAgree trees =
    AreKeyed {A = SubscriberRow} (λ _. Unit {0}) stored_subscriber (λ row. row.id) (trees 1)

abbrev pub OrdersAgree : Trees → Type 0
OrdersAgree trees = AreKeyed {A = OrderRow} (λ _. Unit {0}) stored_order (λ row. row.id) (trees 3)

abbrev pub CertificatesAgree : Trees → Type 0
CertificatesAgree trees = AreCounted {A = CertRow} (λ row. IsSerial row.serial) stored_certificate (trees 4)

abbrev pub RequestsAgree : Trees → Type 0
RequestsAgree trees =
    AreKeyed {A = RequestRow} (λ row. IsSerial row.serial) stored_request (λ row. row.id) (trees 7)

abbrev pub RevocationsAgree : Trees → Type 0
RevocationsAgree trees =
    AreCounted {A = RevocationRow} (λ row. IsSerial row.serial) stored_revocation (trees 8)

abbrev pub CrlsAgree : Trees → Type 0
CrlsAgree trees = AreKeyed {A = Crl} (λ _. Unit {0}) stored_crl (λ crl. crl.number) (trees 11)

abbrev pub LettersAgree : Trees → Type 0
LettersAgree trees = AreCounted {A = Standing} (λ row. IsSerial row.serial) stored_standing (trees 12)

abbrev pub ListingsAgree : Trees → Type 0
ListingsAgree trees = AreCounted {A = Listed} (λ row. IsSerial row.serial) stored_listed (trees 15)

-- the table `kept` has one row, with some counts
pub record AreCounts (rows : List Row) : Type 0 where
  pub counts : Counts
  pub are : rows ≡ stored_counts counts ∷ []

-- the numbers of the one row that was read of `office`: one, version, crl_life, ocsp_life, cap, last_at
pub record IsTermsOf (rows : List Row) (found : Found) : Type 0 where
  pub row : Row
  pub only : rows ≡ row ∷ []
  pub cells : HasCells 0 row (number 1 ∷ number version ∷ number found.crl_life ∷ number found.ocsp_life
      ∷ number found.cap ∷ number found.last ∷ [])

-- the tables show some records and some derived rows
pub record ShowSome (db : Database) : Type 0 where
  pub records : Records
  pub columns : DerivedRows
  pub both : AreRecordsAndDerived db records columns

-- the tables show some sound records (`Reached`), in which each CRL has the bytes of its entries, and derived rows that match
-- them
pub record ShowsSound (db : Database) : Type 0 where
  pub records : Records
  pub columns : DerivedRows
  pub both : AreRecordsAndDerived db records columns
  pub reached : Reached IsSomeCrl records
  pub kept : Kept columns records
