-- What CRLs list of a revocation, put in.
use Rattle.std.proofs.Common.{◌≡◌, ℕ, Option, None, Some, [], ◌∷◌, ◌++◌, map, refl, ap, ◌∙◌}
use Rattle.sqlite_value.specs.declared.value.Value.TheVariants.{Null}
use Rattle.sqlite_trees.specs.Tree.{put_row}
use Rattle.sqlite_sql.specs.Term.{lit, col, eval_all}
use Rattle.sqlite_schema.specs.declared.schema.Kind.TheVariants.{Integer}
use Rattle.sqlite_rules.specs.declared.error.Rowids.TheVariants.{Chosen}
use Rattle.sqlite_rules.specs.Edit.{with_rowid}
use Rattle.sqlite_rules.specs.Cast.{cast, cast_row}
use Rattle.sqlite_tied.specs.Compute.{everything}
use Rattle.sqlite.specs.Listing.{understood}
use Rattle.sqlite.specs.State.{State}
use Rattle.reg_core.specs.Serial.{IsSerial}
use Rattle.reg_store_tables.specs.Schema.{register_schema, listed}
use Rattle.reg_store_tables.specs.Rows.{number, serial_value, counted_rows}
use Rattle.reg_store_tables.specs.DerivedRows.{Listed, stored_listed, number_or_null}
use Rattle.reg_store_tables.specs.Stays.{Ran}
use Rattle.reg_store_tables.specs.Steps.{Turns}
use Rattle.reg_store_tables.proofs.PublicLaws.{cast_int, cast_null, inserts, IsWriting, counted_put, mapped_push, pushed, puts_row, puts_spares, both_after}
use Rattle.reg_store_migration.specs.Refilled.{with_listed}
use Rattle.reg_store_migration.specs.declared.sql.TheConstants.{PUT_LISTING}

pub put_listing_means : IsWriting PUT_LISTING.now (inserts 9 (lit Null ∷ col 0 0 ∷ col 0 1 ∷ col 0 2 ∷ col 0 3 ∷ col 0 4 ∷ col 0 5 ∷ []) 7)
unfolding understood everything register_schema
put_listing_means = record { plain = (refl, refl); is = refl }

cast_last : (last : Option ℕ) → cast Integer (number_or_null last) ≡ number_or_null last
cast_last None = cast_null
cast_last (Some n) = cast_int _

pub puts_listing : (old new : State) (row : Listed) (count : ℕ)
    → Ran PUT_LISTING.now (serial_value row.serial ∷ number row.at ∷ number row.reason ∷ number row.first ∷ number row.not_after ∷ number_or_null row.last ∷ []) old new count → IsSerial row.serial
    → Turns (λ records. records) (with_listed row) old.now new.now
unfolding register_schema
puts_listing old new row count ran its records columns both =
    let params = serial_value row.serial ∷ number row.at ∷ number row.reason ∷ number row.first ∷ number row.not_after ∷ number_or_null row.last ∷ [] in
    let terms = lit Null ∷ col 0 0 ∷ col 0 1 ∷ col 0 2 ∷ col 0 3 ∷ col 0 4 ∷ col 0 5 ∷ [] in
    let was = both.kept.listed in
    let puts = puts_row PUT_LISTING.now params old new count ran both.shown.schema 9 listed refl terms 7 put_listing_means refl refl refl in
    let rows : new.now.trees 15 ≡ counted_rows (map stored_listed (columns.listed ++ row ∷ [])) =
    puts.rows ∙ ap (λ row. put_row (with_rowid Chosen (old.now.trees 15) row) (old.now.trees 15)) (let made : cast_row listed (eval_all terms (params ∷ [])) ≡ Null ∷ stored_listed row = simp (cast_int, cast_null, cast_last) in made)
    ∙ ap (λ rows. put_row (with_rowid Chosen rows (Null ∷ stored_listed row)) rows) was ∙ counted_put (stored_listed row) (map stored_listed columns.listed) ∙ ap counted_rows (mapped_push stored_listed row columns.listed) in
    both_after 15 old.now new.now records records columns (with_listed row columns) both puts.keeps_schema (puts_spares listed _ old.now.trees new.now puts)
    (refl, refl, refl, refl, refl, refl, refl, refl) both.shown.rows.policy (refl, refl, (rows, pushed (λ (row : Listed). IsSerial row.serial) columns.listed row both.kept.listed_serials its), refl)
