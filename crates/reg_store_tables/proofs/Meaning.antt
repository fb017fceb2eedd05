-- What a text that writes means over the tables of a register.
use Rattle.std.proofs.Common.{◌≡◌, ℕ, List, [], ◌∷◌, refl}
use Rattle.sqlite_value.specs.declared.value.Value.TheVariants.{Null}
use Rattle.sqlite_sql.specs.Term.{Term, lit, col}
use Rattle.sqlite_schema.specs.declared.command.Command.{Command}
use Rattle.sqlite_schema.specs.declared.command.Command.TheVariants.{Insert, Update, Delete}
use Rattle.sqlite_schema.specs.declared.command.Source.TheVariants.{Values}
use Rattle.sqlite.specs.Given.{IsPlain}
use Rattle.sqlite.specs.Listing.{understood}
use Rattle.sqlite_tied.specs.Compute.{everything}
use Rattle.reg_store_tables.specs.Schema.{register_schema}
use Rattle.reg_store_tables.specs.ReadStatements.{command_of}
use Rattle.reg_store_tables.proofs.Queries.{selects, no_limit}
use Rattle.reg_store_tables.specs.declared.sql.TheConstants.{SET_COUNTS, PUT_STEP}

-- an UPDATE of a table: which rows, and what it makes of their columns
abbrev pub updates : ℕ → ℕ → List Term → List Term → Command
updates place tree filter columns =
    Update place (record { lets = []; body = selects tree filter (col 1 0 ∷ col 1 0 ∷ columns) [] no_limit })

-- an INSERT of one row: its rowid or NULL, and its columns
abbrev pub inserts : ℕ → List Term → ℕ → Command
inserts place terms width = Insert place (Values terms width)

-- a DELETE of all rows of a table
abbrev pub deletes : ℕ → ℕ → Command
deletes place tree = Delete place (record { lets = []; body = selects tree [] (col 1 0 ∷ []) [] no_limit })

-- a text that writes means one statement
pub record IsWriting (text : List ℕ) (command : Command) : Type 0 where
  pub plain : IsPlain (understood register_schema text)
  pub is : command_of (understood register_schema text) ≡ command

pub set_counts_means : IsWriting SET_COUNTS.now (updates 8 14 [] (lit Null ∷ col 0 0 ∷ col 0 1 ∷ col 0 2 ∷ []))
unfolding understood everything register_schema
set_counts_means = record { plain = (refl, refl); is = refl }

pub put_step_means : IsWriting PUT_STEP.now (inserts 10 (col 0 0 ∷ lit Null ∷ col 0 1 ∷ []) 3)
unfolding understood everything register_schema
put_step_means = record { plain = (refl, refl); is = refl }
