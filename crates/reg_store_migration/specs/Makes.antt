-- The SQL statements that make tables and indexes.
use Rattle.std.specs.Prelude.{◌≡◌, ℕ, false, List, [], slice_get, Some, Result, Ok, Err}
use Rattle.sqlite_schema.specs.declared.command.Command.TheVariants.{CreateTable, CreateIndex}
use Rattle.sqlite_schema.specs.declared.schema.Schema.{Schema}
use Rattle.sqlite_schema.specs.declared.schema.Table.{Table}
use Rattle.sqlite_schema.specs.declared.schema.Index.{Index}
use Rattle.sqlite_resolve.specs.Compile.{table_defined_by, index_defined_by}
use Rattle.sqlite_resolve.specs.declared.compiled.Compiled.{Compiled}
use Rattle.sqlite_resolve.specs.declared.error.CompileError.{CompileError}
use Rattle.sqlite_catalog.specs.Change.{created}
use Rattle.sqlite.specs.Does.{lacks_sequence}
use Rattle.sqlite.specs.Given.{IsPlain}
use Rattle.sqlite.specs.Listing.{understood}
use Rattle.sqlite.specs.State.{text_of}
use Rattle.reg_store_tables.specs.ReadStatements.{command_of}

-- the text of the first statement in a text; empty if it does not compile
abbrev pub statement_of : List ℕ → Result Compiled CompileError → List ℕ
statement_of text (Ok compiled) = text_of text compiled
statement_of text (Err error) = []

-- in a database with this schema, the text is one statement, which makes this table
pub record DefinesTable (schema : Schema) (text : List ℕ) (table : Table) : Type 0 where
  pub plain : IsPlain (understood schema text)
  pub is : command_of (understood schema text) ≡ CreateTable
  pub whole : statement_of text (understood schema text) ≡ text
  pub defined : table_defined_by text ≡ Ok table
  pub uncounted : lacks_sequence (created schema table) ≡ false

-- in a database with this schema, the text is one statement, which makes this index on the table with index `at`
pub record DefinesIndex (schema : Schema) (text : List ℕ) (at : ℕ) (table : Table)
    (index : Index) : Type 0 where
  pub plain : IsPlain (understood schema text)
  pub is : command_of (understood schema text) ≡ CreateIndex at
  pub whole : statement_of text (understood schema text) ≡ text
  pub there : slice_get schema.tables at ≡ Some table
  pub defined : index_defined_by table text ≡ Ok index
