-- The records that the tables of a connection show.
use Rattle.std.specs.Prelude.{◌≡◌, ℕ, ℤ, false, List, [], ◌∷◌, map, IsTrue}
use Rattle.std.specs.List.{AllByRecursion}
use Rattle.reg_core.specs.Serial.{IsSerial}
use Rattle.sqlite_value.specs.declared.value.Value.TheVariants.{Int}
use Rattle.sqlite_trees.specs.Tree.{Trees}
use Rattle.sqlite_trees.specs.declared.store.Store.{Ghosts}
use Rattle.sqlite.specs.Effect.{Database}
use Rattle.sqlite.specs.Held.{Held, state}
use Rattle.sqlite.specs.State.{State, HasCleanDisk}
use Rattle.reg_core.specs.Records.{Records}
use Rattle.reg_core.specs.Policy.{IsPolicy}
use Rattle.reg_core.specs.Sound.{NumberedFrom}
use Rattle.reg_store_tables.specs.Schema.{register_schema}
use Rattle.reg_store_tables.specs.Rows.{number, counted_rows, stored_office, stored_subscriber, stored_order, stored_certificate, stored_request, stored_revocation, stored_crl, stored_step}
use Rattle.reg_store_tables.specs.DerivedRows.{DerivedRows, office_days, stored_standing, stored_counts, stored_listed}

-- the serial numbers of the rows are valid (RFC 5280 4.1.2.2)
abbrev pub HaveSerials : {A : Type 0} → (A → ℕ) → List A → Type 0
HaveSerials serial rows = AllByRecursion (λ row. IsSerial (serial row)) rows

-- each record is one row, in the order of entry, and each row is one record; the rows of office and longest are the issuer,
-- the policy and the last accepted moment. Ids and CRL numbers are 1, 2, 3 and so on, and so are the rowids of the tables
-- whose key is a serial number. The policy and the serial numbers are valid.
pub record AreRows (trees : Trees) (records : Records) : Type 0 where
  pub days : ℤ
  pub office : trees 0 ≡ stored_office days records.issuer records.policy records.last ∷ []
  pub subscribers : trees 1 ≡ map stored_subscriber records.subscribers
  pub orders : trees 3 ≡ map stored_order records.orders
  pub certificates : trees 4 ≡ counted_rows (map stored_certificate records.certificates)
  pub requests : trees 7 ≡ map stored_request records.requests
  pub revocations : trees 8 ≡ counted_rows (map stored_revocation records.revocations)
  pub crls : trees 11 ≡ map stored_crl records.crls
  pub schedule : trees 17 ≡ map stored_step records.policy.schedule
  pub policy : IsPolicy records.policy
  pub subscribers_numbered : NumberedFrom (λ row. row.id) 1 records.subscribers
  pub orders_numbered : NumberedFrom (λ row. row.id) 1 records.orders
  pub requests_numbered : NumberedFrom (λ row. row.id) 1 records.requests
  pub crls_numbered : NumberedFrom (λ crl. crl.number) 1 records.crls
  pub certificate_serials : HaveSerials (λ row. row.serial) records.certificates
  pub request_serials : HaveSerials (λ row. row.serial) records.requests
  pub revocation_serials : HaveSerials (λ row. row.serial) records.revocations

-- the derived tables have these rows, with valid serial numbers, and the office's row has these days
pub record AreDerivedRows (trees : Trees) (columns : DerivedRows) : Type 0 where
  pub letters : trees 12 ≡ counted_rows (map stored_standing columns.letters)
  pub counts : trees 14 ≡ stored_counts columns.counts ∷ []
  pub listed : trees 15 ≡ counted_rows (map stored_listed columns.listed)
  pub days : office_days (trees 0) ≡ Int columns.days
  pub letter_serials : HaveSerials (λ row. row.serial) columns.letters
  pub listed_serials : HaveSerials (λ row. row.serial) columns.listed

-- the database has a register's schema, and its tables show the records
pub record IsShownBy (db : Database) (records : Records) : Type 0 where
  pub schema : db.schema ≡ register_schema
  pub rows : AreRows db.trees records

-- the database has a register's schema, its tables show the records, and its derived tables have these rows
pub record AreRecordsAndDerived (db : Database) (records : Records) (columns : DerivedRows) : Type 0 where
  pub shown : IsShownBy db records
  pub kept : AreDerivedRows db.trees columns

-- if the disk returned what was written, and the connection is open, its database has the property, and all of it is committed
pub record Holds {S : Type 0} (g : Ghosts S) (h : Held S) (P : Database → Type 0) : Type 0 where
  pub saved : HasCleanDisk (state g h) → IsTrue (state g h).is_open → (state g h).now ≡ (state g h).committed
  pub tables : HasCleanDisk (state g h) → IsTrue (state g h).is_open → P (state g h).now

-- The property holds of the database before a call, if the disk returned what was written and the connection is open. All of the database is
-- committed, unless a transaction is under way after the call: a failure of the call would have rolled it back.
pub record HoldsUntil {S : Type 0} (g : Ghosts S) (old new : Held S) (P : Database → Type 0) : Type 0 where
  pub saved : new.in_transaction ≡ false → HasCleanDisk (state g old) → IsTrue (state g old).is_open
      → (state g old).now ≡ (state g old).committed
  pub tables : HasCleanDisk (state g old) → IsTrue (state g old).is_open → P (state g old).now

-- the tables show the records, under the conditions of `Holds`
abbrev pub Shows : {S : Type 0} → Ghosts S → Held S → Records → Type 0
Shows g h records = Holds g h (λ db. IsShownBy db records)

-- the tables show the records, and the derived tables have these rows
abbrev pub ShowsBoth : {S : Type 0} → Ghosts S → Held S → Records → DerivedRows → Type 0
ShowsBoth g h records columns = Holds g h (λ db. AreRecordsAndDerived db records columns)

-- the tables show the records before a call, under the conditions of `HoldsUntil`
abbrev pub ShowsUntil : {S : Type 0} → Ghosts S → Held S → Held S → Records → Type 0
ShowsUntil g old new records = HoldsUntil g old new (λ db. IsShownBy db records)

-- the tables show the records, and the derived tables have these rows, if the disk returned what was written and the connection is open
abbrev pub ShowsBothNow : State → Records → DerivedRows → Type 0
ShowsBothNow s records columns = HasCleanDisk s → IsTrue s.is_open → AreRecordsAndDerived s.now records columns

-- the office's row has these days
abbrev pub HasOfficeDays : {S : Type 0} → Ghosts S → Held S → ℕ → Type 0
HasOfficeDays g h days = Holds g h (λ db. office_days (db.trees 0) ≡ number days)

-- the office's row has the days that it had
abbrev pub KeepsOfficeDays : {S : Type 0} → Ghosts S → Held S → Held S → Type 0
KeepsOfficeDays g old new = (days : ℕ) → HasOfficeDays g old days → HasOfficeDays g new days
