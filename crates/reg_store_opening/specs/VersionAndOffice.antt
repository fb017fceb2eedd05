-- The version and the office (the row of the table `office`) that the tables of an opened database have.
use Rattle.std.specs.Prelude.{◌≡◌, ◌≢◌, ◌⊎◌, ◌<◌, ◌≤◌, ℕ, Bool, true, false, List, [], ◌∷◌, length, Option, None, Some, Ok, Err, IsTrue, ◌↔◌}
use Rattle.std.specs.List.{AllByRecursion}
use Rattle.sqlite_value.specs.declared.value.Value.TheVariants.{Blob}
use Rattle.sqlite_value.specs.Order.{Row, column}
use Rattle.sqlite_trees.specs.declared.store.Store.{Ghosts}
use Rattle.sqlite_schema.specs.declared.schema.Schema.{Schema}
use Rattle.sqlite_resolve.specs.declared.compiled.Compiled.{Compiled}
use Rattle.sqlite_resolve.specs.declared.error.CompileError.{CompileError}
use Rattle.sqlite.specs.Effect.{Database, Reads, RefusesToRead}
use Rattle.sqlite.specs.Given.{IsPlain}
use Rattle.sqlite.specs.Held.{Held}
use Rattle.sqlite.specs.Listing.{understood, reads_listing, IsSourceOf}
use Rattle.sqlite.specs.declared.error.Error.{Error}
use Rattle.sqlite.specs.declared.error.Error.TheVariants.{SqliteFailure}
use Rattle.sqlite.specs.declared.error.ErrorCode.TheVariants as code
use Rattle.reg_core.specs.Calendar.{IsMoment, clock_end}
use Rattle.reg_core.specs.Issuer.{Issuer}
use Rattle.reg_core.specs.Policy.{Terms, IsPolicy}
use Rattle.reg_core.specs.Records.{Records}
use Rattle.reg_core.specs.Schedule.{one_step}
use Rattle.reg_der.specs.Authority.{IsIssuer}
use Rattle.reg_store_tables.specs.ReadStatements.{command_of}
use Rattle.reg_store_tables.specs.Rows.{number}
use Rattle.reg_store_tables.specs.Schema.{register_schema}
use Rattle.reg_store_tables.specs.Shows.{Holds, IsShownBy}
use Rattle.reg_store_tables.specs.declared.sql.TheConstants.{STEPS}
use Rattle.reg_store_migration.specs.Older.{version_number, older_schema, IsShownByOlder}
use Rattle.reg_store_migration.specs.declared.version.OlderVersion.{OlderVersion}
use Rattle.reg_store_opening.specs.declared.sql.TheConstants.{VERSION, OFFICE, OLDER_OFFICE}
use Rattle.reg_store_tables.specs.declared.fault.StoreFault.{StoreFault}
use Rattle.reg_store_tables.specs.declared.fault.StoreFault.TheVariants.{Memory, NotARegister}
use Rattle.reg_store_opening.specs.declared.versions.Version.{Version}
use Rattle.reg_store_opening.specs.declared.versions.Version.TheVariants as version
use Rattle.reg_store_migration.specs.declared.version.OlderVersion.TheVariants.{First, Second}

-- the error is out of memory, of the disk, of a closed connection, or of the limit on steps that the caller has set
abbrev pub is_call_error : Error → Bool
is_call_error (SqliteFailure code.OutOfMemory) = true
is_call_error (SqliteFailure code.SystemIoFailure) = true
is_call_error (SqliteFailure code.DatabaseCorrupt) = true
is_call_error (SqliteFailure code.DiskFull) = true
is_call_error (SqliteFailure code.Closed) = true
is_call_error (SqliteFailure code.OperationInterrupted) = true
is_call_error _ = false

-- the text is one statement, without RETURNING, the time or parameters
pub record NeverWrites (text : List ℕ) (compiled : Compiled) : Type 0 where
  pub returning : compiled.returning ≡ None
  pub formats : compiled.formats ≡ []
  pub names : length compiled.names ≡ 0
  pub whole : length text ≤ compiled.tail

-- `NeverWrites` holds of the text over each schema over which it compiles
abbrev pub IsQuery : List ℕ → Type 0
IsQuery text =
    (schema : Schema) (compiled : Compiled) → understood schema text ≡ Ok compiled → NeverWrites text compiled

-- over a schema, the text compiles without RETURNING, reads neither the time nor the list of tables, and its errors pass `is_call_error`
pub record IsNeverRefused (schema : Schema) (text : List ℕ) : Type 0 where
  pub plain : IsPlain (understood schema text)
  pub unlisted : reads_listing schema text ≡ false
  pub never : (limit : Option ℕ) (db : Database) (e : Error) → db.schema ≡ schema
      → RefusesToRead limit (command_of (understood schema text)) db [] e → IsTrue (is_call_error e)

-- the rows are what a text reads of a database
pub record IsRead (db : Database) (text : List ℕ) (rows : List Row) : Type 0 where
  pub compiled : Compiled
  pub is : understood db.schema text ≡ Ok compiled
  pub source : Database
  pub from : IsSourceOf (reads_listing db.schema text) db source
  pub reads : Reads compiled.command source [] rows

-- there is one row, and it has a property
abbrev pub IsOne : (Row → Type 0) → List Row → Type 0
IsOne P rows = (row : Row) × (rows ≡ row ∷ []) × P row

-- the number of the version; `None` is the program's
abbrev pub version_of : Option OlderVersion → ℕ
version_of None = 3
version_of (Some version) = version_number version

-- the schema of that version
abbrev pub schema_of : Option OlderVersion → Schema
schema_of None = register_schema
schema_of (Some version) = older_schema version

-- the schema is that of a version, and the one row of the office has the number of this version
pub record IsOfVersion (version : Option OlderVersion) (db : Database) : Type 0 where
  pub schema : db.schema ≡ schema_of version
  pub row : Row
  pub office : db.trees 0 ≡ row ∷ []
  pub says : column row 2 ≡ number (version_of version)

-- one row, with this version
abbrev pub AreVersionRows : ℕ → List Row → Type 0
AreVersionRows version rows = IsOne (λ row. column row 0 ≡ number version) rows

-- the statement `VERSION` returns one row, with this version
abbrev pub HasVersion : Database → ℕ → Type 0
HasVersion db version = (rows : List Row) × IsRead db VERSION.now rows × AreVersionRows version rows

-- the one row of the office has a newer version than the program's
abbrev pub IsNewer : Database → Type 0
IsNewer db = (n : ℕ) × (3 < n) × HasVersion db n

-- the tables of a version show the records
abbrev pub IsShownAs : Option OlderVersion → Database → Records → Type 0
IsShownAs None db records = IsShownBy db records
IsShownAs (Some version) db records = IsShownByOlder version db records

-- `IsShownAs`, and all is committed, if the disk returned what was written, and the connection is open
abbrev pub ShowsAs : {S : Type 0} → Option OlderVersion → Ghosts S → Held S → Records → Type 0
ShowsAs version g held records = Holds g held (λ db. IsShownAs version db records)

-- the rows begin with the columns of these steps, one row for each
abbrev pub AreSteps : List Row → List (ℕ × ℕ) → Type 0
AreSteps [] [] = Unit {0}
AreSteps [] (step ∷ steps) = ⊥
AreSteps (row ∷ rows) [] = ⊥
AreSteps (row ∷ rows) (step ∷ steps) =
    (column row 0 ≡ number step.0) × (column row 1 ≡ number step.1) × AreSteps rows steps

-- each step begins at a moment
abbrev pub HaveMoments : List (ℕ × ℕ) → Type 0
HaveMoments steps = AllByRecursion (λ step. IsMoment step.0) steps

-- the row of an office has this policy, which is valid and has this schedule
abbrev pub HasPolicy : List (ℕ × ℕ) → Row → Terms → Type 0
HasPolicy schedule row policy =
    IsPolicy policy × (policy.schedule ≡ schedule)
    × (column row 2 ≡ number policy.crl_life) × (column row 3 ≡ number policy.ocsp_life)
    × (column row 4 ≡ number policy.cap)

-- the row of an office has this last accepted moment, which is before the clock's end
abbrev pub HasLast : Row → ℕ → Type 0
HasLast row last = (last < clock_end) × (column row 5 ≡ number last)

-- the row of an office has this issuer, which is valid
abbrev pub HasIssuer : Row → Issuer → Type 0
HasIssuer row issuer = IsIssuer issuer × (column row 0 ≡ Blob issuer.name) × (column row 1 ≡ Blob issuer.key)

-- the row of an office has an issuer, a policy with this schedule, and a last accepted moment
abbrev pub HasOfficeValues : List (ℕ × ℕ) → Row → Type 0
HasOfficeValues schedule row =
    ((issuer : Issuer) × HasIssuer row issuer) × ((policy : Terms) × HasPolicy schedule row policy)
    × ((last : ℕ) × HasLast row last)

-- the fault for rows that are refused: out of memory; or they are no register's, for this reason
abbrev pub Refuses : Type 0 → StoreFault → Type 0
Refuses Reason fault = (fault ≡ Memory) ⊎ ((fault ≡ NotARegister) × Reason)

-- the row of a step: its moment and its days
abbrev pub IsStep : Row → ℕ × ℕ → Type 0
IsStep row step = (column row 0 ≡ number step.0) × (column row 1 ≡ number step.1) × IsMoment step.0

-- the rows of these steps, each of which begins at a moment
abbrev pub HaveSteps : List Row → List (ℕ × ℕ) → Type 0
HaveSteps rows steps = AreSteps rows steps × HaveMoments steps

-- the one row of the table `office` and the steps of the schedule, each value within its range
abbrev pub AreOfficeRows : List Row → List Row → Type 0
AreOfficeRows rows steps =
    (schedule : List (ℕ × ℕ)) × HaveMoments schedule × AreSteps steps schedule × IsOne (HasOfficeValues schedule) rows

-- the tables have an office, each value within its range
abbrev pub HasOfficeRow : Database → Type 0
HasOfficeRow db =
    (rows : List Row) × (steps : List Row) × IsRead db OFFICE.now rows × IsRead db STEPS.now steps
    × AreOfficeRows rows steps

-- the row of an older office: its days and its last accepted moment, and a schedule of the one step
abbrev pub IsOlderRow : ℕ → ℕ → Row → Type 0
IsOlderRow days last row =
    (column row 6 ≡ number days) × (column row 5 ≡ number last) × HasOfficeValues (one_step days) row

-- the one row of an older office, each value within its range
abbrev pub AreOlderOffice : ℕ → ℕ → List Row → Type 0
AreOlderOffice days last rows = IsOne (IsOlderRow days last) rows

-- the tables have the program's version, and an office
abbrev pub IsCurrent : Database → Type 0
IsCurrent db = HasVersion db 3 × HasOfficeRow db

-- the tables have an older office, with these days and this last accepted moment
abbrev pub ReadsOlder : Database → ℕ → ℕ → Type 0
ReadsOlder db days last = (rows : List Row) × IsRead db OLDER_OFFICE.now rows × AreOlderOffice days last rows

-- the tables have an older office, each value within its range
abbrev pub HasOlderOffice : Database → Type 0
HasOlderOffice db = (days : ℕ) × (last : ℕ) × ReadsOlder db days last

-- the schema is that of an older version, and the tables have its number and its office
abbrev pub IsOlder : Database → Type 0
IsOlder db =
    (version : OlderVersion) × (db.schema ≡ older_schema version)
    × HasVersion db (version_number version) × HasOlderOffice db

-- a statement that compiles fails over these rows, even without a limit on steps
pub record IsRefusedOverRows (db : Database) (text : List ℕ) : Type 0 where
  pub compiled : Compiled
  pub is : understood db.schema text ≡ Ok compiled
  pub source : Database
  pub from : IsSourceOf (reads_listing db.schema text) db source
  pub error : Error
  pub refuses : RefusesToRead None compiled.command source [] error

-- a statement fails over these tables: it does not compile, or it fails over their rows
abbrev pub IsRefusedText : Database → List ℕ → Type 0
IsRefusedText db text =
    ((error : CompileError) × (understood db.schema text ≡ Err error)) ⊎ IsRefusedOverRows db text

-- the tables have no version: the statement `VERSION` fails, or does not return one row with a number from 1 on
abbrev pub HasNoVersion : Database → Type 0
HasNoVersion db =
    IsRefusedText db VERSION.now
    ⊎ ((rows : List Row) × IsRead db VERSION.now rows × ((n : ℕ) → 1 ≤ n → ¬ AreVersionRows n rows))

-- the tables have no office: one of the two statements fails, or their rows are not `AreOfficeRows`
abbrev pub HasNoOfficeRow : Database → Type 0
HasNoOfficeRow db =
    (IsRefusedText db OFFICE.now ⊎ IsRefusedText db STEPS.now)
    ⊎ ((rows : List Row) × (steps : List Row) × IsRead db OFFICE.now rows × IsRead db STEPS.now steps
    × (¬ AreOfficeRows rows steps))

-- the tables have no older office: its statement fails, or its rows are not `AreOlderOffice`
abbrev pub HasNoOlderOffice : Database → Type 0
HasNoOlderOffice db =
    IsRefusedText db OLDER_OFFICE.now ⊎ ((rows : List Row) × IsRead db OLDER_OFFICE.now rows
    × ((days last : ℕ) → ¬ AreOlderOffice days last rows))

-- the tables have no register of any version: no version; or version 3, but no office; or an older version, but no older office
abbrev pub HasNoRegister : Database → Type 0
HasNoRegister db =
    HasNoVersion db ⊎ ((HasVersion db 3 × HasNoOfficeRow db)
    ⊎ ((version : OlderVersion) × HasVersion db (version_number version) × HasNoOlderOffice db))

-- the tables have a version up to the program's, but the schema is not that of this version
abbrev pub HasOtherSchema : Database → Type 0
HasOtherSchema db =
    (version : Option OlderVersion) × HasVersion db (version_of version) × (db.schema ≢ schema_of version)

-- the database has no register: its tables have none, or its schema is not that of their version
abbrev pub IsNoRegister : Database → Type 0
IsNoRegister db = HasNoRegister db ⊎ HasOtherSchema db

-- the tables have the office of a version, each value within its range
abbrev pub HasOfficeRowOf : Option OlderVersion → Database → Type 0
HasOfficeRowOf None db = HasOfficeRow db
HasOfficeRowOf (Some version) db = HasOlderOffice db

-- If there is no view (nor another object that the crate `sqlite` keeps as it is), and the tables have a version from 1 on, the version is at
-- most the program's, and its office is missing or the schema is not that of the version.
abbrev pub HoldsNoRegister : Database → Type 0
HoldsNoRegister db =
    db.schema.views ≡ [] → (n : ℕ) → 1 ≤ n → HasVersion db n → (version : Option OlderVersion)
    × (n ≡ version_of version) × ((¬ HasOfficeRowOf version db) ⊎ (db.schema ≢ schema_of version))

-- the issuer, the moments of the schedule, and the last accepted moment are within their ranges
pub record InRange (records : Records) : Type 0 where
  pub issuer : IsIssuer records.issuer
  pub moments : HaveMoments records.policy.schedule
  pub last : records.last < clock_end

-- a version; `None` is the program's
abbrev pub version_or_current : Option OlderVersion → Version
version_or_current None = version.Third
version_or_current (Some First) = version.First
version_or_current (Some Second) = version.Second

-- `tables` is the version whose schema this is; `None` if it is that of no version
abbrev pub SchemaHasVersion : Option Version → Schema → Type 0
SchemaHasVersion tables schema =
    (version : Option OlderVersion)
    → (tables ≡ Some (version_or_current version)) ↔ (schema ≡ schema_of version)
