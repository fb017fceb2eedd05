-- How many letters of a kind there are.
use Rattle.std.proofs.Common.{◌≡◌, ◌≤◌, ◌&&◌, ℕ, Bool, true, List, [], ◌∷◌, length, codes, refl, ◌∙◌}
use Rattle.std.specs.Prelude.{bytes_eq}
use Rattle.sqlite_value.specs.Order.{Row}
use Rattle.sqlite_value.specs.declared.keys.Collation.TheVariants.{Binary}
use Rattle.sqlite_value.specs.declared.value.Value.TheVariants.{Text}
use Rattle.sqlite_sql.specs.Aggregate.{count}
use Rattle.sqlite_sql.specs.Term.{Term, col, op2}
use Rattle.sqlite_sql.specs.declared.ops.BinaryOp.TheVariants.{Compare}
use Rattle.sqlite_sql.specs.declared.ops.CompareOp.TheVariants.{Eq}
use Rattle.sqlite.specs.Effect.{Database, Reads}
use Rattle.sqlite.specs.Listing.{understood}
use Rattle.sqlite_resolve.specs.Compile.{first}
use Rattle.sqlite_tied.specs.Compute.{everything}
use Rattle.reg_core.specs.Records.{Records}
use Rattle.reg_store_tables.specs.DerivedRows.{Letter, letter_text, Standing, DerivedRows, with_letter}
use Rattle.reg_store_tables.specs.ReadStatements.{IsReading, command_of}
use Rattle.reg_store_tables.specs.Rows.{number}
use Rattle.reg_store_tables.specs.Schema.{register_schema}
use Rattle.reg_store_tables.specs.Shows.{AreRecordsAndDerived}
use Rattle.reg_store_tables.proofs.PublicLaws.{and_true, as_command, compares, counts_of, eq_text, letters_counted, select_never}
use Rattle.reg_store_migration.specs.declared.sql.TheConstants.{COUNT_LETTER}

abbrev letter_terms : List Term
letter_terms = op2 (Compare Eq Binary) (col 1 3) (col 0 0) ∷ []

letter_means : command_of (understood register_schema COUNT_LETTER.now) ≡ as_command (counts_of 12 letter_terms) (codes "count(*)" ∷ [])
unfolding understood everything register_schema
letter_means = refl

pub reading_letter : IsReading COUNT_LETTER.now
unfolding understood everything register_schema first
reading_letter = record { plain = (refl, refl); unlisted = refl; never = select_never COUNT_LETTER.now _ _ refl refl refl }

letter_test : (text : List ℕ) (test : Letter → Bool) → ((of : Letter) → bytes_eq (letter_text of) text ≡ test of) → (row : Standing) → (compares Eq (Text (letter_text row.letter)) (Text text) && true) ≡ test row.letter
letter_test text test is row = and_true (compares Eq (Text (letter_text row.letter)) (Text text)) ∙ eq_text (letter_text row.letter) text ∙ is row.letter

pub letters_shown : (text : List ℕ) (test : Letter → Bool) → ((of : Letter) → bytes_eq (letter_text of) text ≡ test of) → (db : Database) (records : Records) (kept : DerivedRows) → AreRecordsAndDerived db records kept
    → (rows : List Row) → Reads (command_of (understood register_schema COUNT_LETTER.now)) db (Text text ∷ []) rows → length kept.letters ≤ 1000000 → rows ≡ (number (with_letter test kept.letters) ∷ []) ∷ []
letters_shown text test is db records kept both rows =
    letters_counted COUNT_LETTER.now letter_terms (Text text ∷ []) (λ row. test row.letter) (λ id row. letter_test text test is row) letter_means db records kept both rows
