-- Tables that have no rows, and the first rows of a register.
use Rattle.std.specs.Prelude.{[], ◌∷◌, pos}
use Rattle.sqlite_trees.specs.Tree.{Trees}
use Rattle.sqlite_schema.specs.declared.schema.Schema.{Schema}
use Rattle.sqlite_catalog.specs.Change.{created}
use Rattle.sqlite.specs.Effect.{Database, IsDatabase}
use Rattle.reg_core.specs.Issuer.{Issuer}
use Rattle.reg_core.specs.Policy.{Terms, IsPolicy}
use Rattle.reg_core.specs.Records.{no_records}
use Rattle.reg_core.specs.Schedule.{greatest_of}
use Rattle.reg_store_tables.specs.Rows.{stored_office}
use Rattle.reg_store_tables.specs.Schema.{no_schema, register_schema, office, subscriber, orders, cert}
use Rattle.reg_store_tables.specs.Shows.{AreRecordsAndDerived}
use Rattle.reg_store_migration.specs.NumberedRows.{HasRows, with_rows}
use Rattle.reg_store_migration.specs.Refilled.{no_derived_rows}

abbrev pub no_rows : Trees
no_rows = λ _. []

-- the tables of a schema, and none has a row
abbrev pub IsBlank : Schema → Database → Type 0
IsBlank tables db = HasRows tables no_rows db

-- the tables of the office, of subscribers, orders and certificates
abbrev pub entry_tables : Schema
entry_tables = created (created (created (created no_schema office) subscriber) orders) cert

-- if the tables of a schema have no rows, they become those of a later schema, without rows
abbrev pub Grows : Schema → Schema → Database → Database → Type 0
Grows tables later old new = IsBlank tables old → IsBlank later new

-- only the office's row, with the greatest days of the schedule and 0 as last accepted moment
abbrev pub office_alone : Issuer → Terms → Trees
office_alone issuer policy =
    with_rows 0 (stored_office (pos (greatest_of policy.schedule)) issuer policy 0 ∷ []) no_rows

-- the office's row is inserted into the empty tables of a register, and the policy is valid
abbrev pub PutsOffice : Issuer → Terms → Database → Database → Type 0
PutsOffice issuer policy old new =
    IsBlank register_schema old → IsPolicy policy × HasRows register_schema (office_alone issuer policy) new

-- if the tables of a schema have no rows, they become those of a register with no records, and obey their schema
abbrev pub CreatesRegister : Schema → Issuer → Terms → Database → Database → Type 0
CreatesRegister tables issuer policy old new =
    IsBlank tables old
    → AreRecordsAndDerived new (no_records issuer policy) (no_derived_rows policy.schedule) × IsDatabase new
