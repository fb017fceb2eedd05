-- Statements that read the first rows of a table after a number.
use Rattle.std.specs.Prelude.{◌≡◌, ℕ, List, [], ◌∷◌, map, take, drop}
use Rattle.std.specs.List.{AllByRecursion}
use Rattle.sqlite_value.specs.Order.{Row}
use Rattle.sqlite.specs.Effect.{Database, Reads}
use Rattle.sqlite.specs.Listing.{understood}
use Rattle.reg_core.specs.Records.{Records}
use Rattle.reg_core.specs.Sound.{SoundRows}
use Rattle.reg_store_tables.specs.Failing.{FailsOnlyByLimit}
use Rattle.reg_store_tables.specs.ReadStatements.{IsReading, command_of}
use Rattle.reg_store_tables.specs.RecordValues.{HasValues}
use Rattle.reg_store_tables.specs.Rows.{number}
use Rattle.reg_store_tables.specs.Schema.{register_schema}
use Rattle.reg_store_tables.specs.Shows.{IsShownBy}

-- Given two numbers, `after` and `most`, the statement returns the rows of the page that the records have for these. The serial numbers of the page
-- are valid, and for records that a register writes so are its other fields.
pub record ReadsPage {A : Type 0} (has_valid_serial has_values : A → Type 0) (shown : A → Row)
    (page : Records → ℕ → ℕ → List A) (text : List ℕ) : Type 0 where
  pub reading : IsReading text
  pub asked : (after most : ℕ) → FailsOnlyByLimit text (number after ∷ number most ∷ [])
  pub rows : (records : Records) (db : Database) → IsShownBy db records → (after most : ℕ) (rows : List Row)
      → Reads (command_of (understood register_schema text)) db (number after ∷ number most ∷ []) rows
      → rows ≡ map shown (page records after most)
  pub serials : (records : Records) (db : Database) → IsShownBy db records → (after most : ℕ)
      → AllByRecursion has_valid_serial (page records after most)
  pub values : (records : Records) → SoundRows records → HasValues records → (after most : ℕ)
      → AllByRecursion has_values (page records after most)

-- the first rows after so many, in the order of entry
abbrev pub entered_page : {A : Type 0} → (Records → List A) → Records → ℕ → ℕ → List A
entered_page entered records after most = take most (drop after (entered records))
