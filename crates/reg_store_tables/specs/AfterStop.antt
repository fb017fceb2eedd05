-- The rows that a stop may leave in a register's file.
use Rattle.sqlite_trees.specs.Tree.{Trees}
use Rattle.sqlite_catalog.specs.Listing.{IsSound}
use Rattle.reg_core.specs.Records.{Records}
use Rattle.reg_store_tables.specs.DerivedRows.{DerivedRows}
use Rattle.reg_store_tables.specs.Kept.{Kept}
use Rattle.reg_store_tables.specs.Schema.{register_schema}
use Rattle.reg_store_tables.specs.Shows.{AreRecordsAndDerived}

-- as the rows of a register's tables, these show the records, and the derived tables have these rows
abbrev pub AreRowsOf : Records → DerivedRows → Trees → Type 0
AreRowsOf records columns trees =
    AreRecordsAndDerived (record { schema = register_schema; trees = trees }) records columns

-- the rows include the list of a register's tables and indexes, and obey that schema
abbrev pub HaveRegisterSchema : Trees → Type 0
HaveRegisterSchema trees = IsSound register_schema trees

-- as the rows of a register's tables, these show the records, with derived tables that match them; they include the list of its tables
abbrev pub ShowsDerivedAfterStop : Records → Trees → Type 0
ShowsDerivedAfterStop records trees =
    (columns : DerivedRows) × AreRowsOf records columns trees × Kept columns records × HaveRegisterSchema trees
