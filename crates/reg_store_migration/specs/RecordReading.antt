-- The results of reading a register inside a transaction.
use Rattle.std.specs.Prelude.{◌≡◌, ◌≤◌, ℕ, List, length}
use Rattle.sqlite_value.specs.Order.{Row}
use Rattle.sqlite.specs.Effect.{Database, Reads}
use Rattle.sqlite.specs.Listing.{understood}
use Rattle.reg_core.specs.Records.{Records}
use Rattle.reg_store_tables.specs.DerivedRows.{DerivedRows}
use Rattle.reg_store_tables.specs.ReadStatements.{command_of}
use Rattle.reg_store_tables.specs.Schema.{register_schema}
use Rattle.reg_store_tables.specs.Shows.{AreRecordsAndDerived, IsShownBy}

-- if the schema is a register's, the rows are those that a text reads of the tables
abbrev pub AreAnswer : List ℕ → Row → List Row → Database → Type 0
AreAnswer text params rows db =
    db.schema ≡ register_schema → Reads (command_of (understood register_schema text)) db params rows

-- `Holds` is true of any records that the tables show
abbrev pub OfRecords : (Records → Type 0) → Database → Type 0
OfRecords Holds db = (records : Records) → IsShownBy db records → Holds records

-- `Holds` is true of the derived tables, if they have at most 1,000,000 letters
abbrev pub OfDerivedRows : (DerivedRows → Type 0) → Database → Type 0
OfDerivedRows Holds db =
    (records : Records) (columns : DerivedRows) → length columns.letters ≤ 1000000
    → AreRecordsAndDerived db records columns → Holds columns
