-- The meaning of statements that only read.
use Rattle.std.specs.Prelude.{◌≡◌, ℕ, false, cond, IsTrue, List, [], ◌∷◌, None, Result, Ok, Err}
use Rattle.sqlite_value.specs.declared.value.Value.TheVariants.{Text}
use Rattle.sqlite_value.specs.Order.{Row}
use Rattle.sqlite_schema.specs.declared.schema.Schema.{Schema}
use Rattle.sqlite_schema.specs.declared.command.Command.{Command}
use Rattle.sqlite_schema.specs.declared.command.Command.TheVariants.{Nothing}
use Rattle.sqlite_resolve.specs.declared.compiled.Compiled.{Compiled}
use Rattle.sqlite_resolve.specs.declared.error.CompileError.{CompileError}
use Rattle.sqlite.specs.Effect.{Reads}
use Rattle.sqlite.specs.State.{State}
use Rattle.sqlite.specs.Given.{IsPlain}
use Rattle.sqlite.specs.Listing.{understood, reads_listing}
use Rattle.reg_core.specs.declared.rows.SubscriberRow.{SubscriberRow}
use Rattle.reg_core.specs.declared.rows.OrderRow.{OrderRow}
use Rattle.reg_core.specs.declared.rows.CertRow.{CertRow}
use Rattle.reg_core.specs.declared.rows.RequestRow.{RequestRow}
use Rattle.reg_core.specs.declared.rows.RevocationRow.{RevocationRow}
use Rattle.reg_core.specs.declared.rows.CrlRow.{CrlRow}
use Rattle.reg_core.specs.declared.rows.Entry.{Entry}
use Rattle.reg_store_tables.specs.Rows.{number, serial_value, ground_index}
use Rattle.reg_store_tables.specs.Schema.{register_schema}

-- the command that a text is compiled to; `Nothing` if it does not compile
abbrev pub command_of : Result Compiled CompileError → Command
command_of (Ok compiled) = compiled.command
command_of (Err error) = Nothing

-- whatever the schema is, the text has no RETURNING
pub record NeverReturns (text : List ℕ) : Type 0 where
  pub none : (schema : Schema) (compiled : Compiled) → understood schema text ≡ Ok compiled
      → compiled.returning ≡ None

-- over the tables of a register, the text is one statement, which reads neither the clock nor the list of tables; over any tables, it has
-- no RETURNING
pub record IsReading (text : List ℕ) : Type 0 where
  pub plain : IsPlain (understood register_schema text)
  pub unlisted : reads_listing register_schema text ≡ false
  pub never : NeverReturns text

-- the rows are what the text reads of the tables of an open connection
pub record Answers (s : State) (text : List ℕ) (params : Row) (rows : List Row) : Type 0 where
  pub is_open : IsTrue s.is_open
  pub reads : Reads (command_of (understood register_schema text)) s.now params rows

-- the columns that a statement returns for each kind of record, in order; an INTEGER PRIMARY KEY is its number
abbrev pub shown_subscriber : SubscriberRow → Row
shown_subscriber row = number row.id ∷ Text row.name ∷ []

abbrev pub shown_order : OrderRow → Row
shown_order row = number row.id ∷ number row.subscriber ∷ number row.days ∷ []

abbrev pub shown_certificate : CertRow → Row
shown_certificate row =
    serial_value row.serial ∷ number row.order ∷ number row.not_before ∷ number row.not_after ∷ []

abbrev pub shown_request : RequestRow → Row
shown_request row =
    number row.id ∷ serial_value row.serial ∷ number (ground_index row.ground) ∷ number row.received
    ∷ number (cond row.declined 1 0) ∷ []

abbrev pub shown_revocation : RevocationRow → Row
shown_revocation row =
    serial_value row.serial ∷ number row.at ∷ number row.reason ∷ number row.request ∷ number row.first ∷ []

abbrev pub shown_crl : CrlRow → Row
shown_crl row = number row.number ∷ number row.this_update ∷ []

abbrev pub shown_entry : Entry → Row
shown_entry entry = serial_value entry.serial ∷ number entry.at ∷ number entry.reason ∷ []

abbrev pub shown_step : ℕ × ℕ → Row
shown_step step = number step.0 ∷ number step.1 ∷ []
