-- What the first rows make of a register's tables.
use Rattle.std.proofs.Common.{◌≡◌, ℕ, pos, List, [], ◌∷◌, refl, ap, ◌∙◌}
use Rattle.std.proofs.lemmas.List.Sorted.{IsPermutation-refl}
use Rattle.sqlite_value.specs.declared.value.Value.TheVariants.{Null, Int, Blob}
use Rattle.sqlite_value.specs.Order.{Row}
use Rattle.sqlite_trees.specs.Tree.{Trees, put_row}
use Rattle.sqlite_sql.specs.Term.{Term, lit, col, eval_all}
use Rattle.sqlite_rules.specs.declared.error.Rowids.TheVariants.{Chosen}
use Rattle.sqlite_rules.specs.Edit.{with_rowid}
use Rattle.sqlite_rules.specs.Cast.{cast_row}
use Rattle.sqlite_tied.specs.Compute.{everything}
use Rattle.sqlite.specs.Effect.{Database}
use Rattle.sqlite.specs.Listing.{understood}
use Rattle.sqlite.specs.State.{State}
use Rattle.reg_core.specs.Issuer.{Issuer}
use Rattle.reg_core.specs.Policy.{Terms, IsPolicy}
use Rattle.reg_core.specs.Records.{no_records}
use Rattle.reg_core.specs.Schedule.{greatest_of}
use Rattle.reg_store_tables.specs.Schema.{register_schema, office}
use Rattle.reg_store_tables.specs.Rows.{number, stored_office}
use Rattle.reg_store_tables.specs.DerivedRows.{stored_counts, office_days}
use Rattle.reg_store_tables.specs.Kept.{Kept}
use Rattle.reg_store_tables.specs.Shows.{AreRows, AreDerivedRows, AreRecordsAndDerived}
use Rattle.reg_store_tables.specs.Stays.{Ran}
use Rattle.reg_store_tables.specs.Staged.{IsStaged}
use Rattle.reg_store_tables.proofs.PublicLaws.{cast_int, cast_null, inserts, IsWriting, puts_row}
use Rattle.reg_store_migration.specs.NumberedRows.{HasRows, with_rows}
use Rattle.reg_store_migration.specs.Refilled.{no_derived_rows, no_counts}
use Rattle.reg_store_migration.proofs.PublicLaws.{with_other, rows_at}
use Rattle.reg_store_opening.specs.Blank.{IsBlank, no_rows, office_alone}
use Rattle.reg_store_opening.specs.declared.sql.TheConstants.{PUT_OFFICE}

abbrev office_terms : List Term
office_terms = lit (Int (pos 1)) ∷ lit Null ∷ lit (Int (pos 3)) ∷ col 0 0 ∷ col 0 1 ∷ col 0 2 ∷ col 0 3 ∷ col 0 4 ∷ col 0 5 ∷ lit (Int (pos 0)) ∷ []

put_office_means : IsWriting PUT_OFFICE.now (inserts 0 office_terms 10)
unfolding understood everything register_schema
put_office_means = record { plain = (refl, refl); is = refl }

pub puts_office : (issuer : Issuer) (policy : Terms) (old new : State) (count : ℕ)
    → Ran PUT_OFFICE.now (Blob issuer.name ∷ Blob issuer.key ∷ number (greatest_of policy.schedule) ∷ number policy.crl_life ∷ number policy.ocsp_life ∷ number policy.cap ∷ []) old new count
    → IsBlank register_schema old.now → HasRows register_schema (office_alone issuer policy) new.now
unfolding register_schema
puts_office issuer policy old new count ran was =
    let params = Blob issuer.name ∷ Blob issuer.key ∷ number (greatest_of policy.schedule) ∷ number policy.crl_life ∷ number policy.ocsp_life ∷ number policy.cap ∷ [] in
    let none : old.now.trees 0 ≡ [] = rows_at old.now no_rows was 0 refl in
    let puts = puts_row PUT_OFFICE.now params old new count ran was.schema 0 office refl office_terms 10 put_office_means refl refl refl in
    let row : Row = stored_office (pos (greatest_of policy.schedule)) issuer policy 0 in
    let rows : new.now.trees 0 ≡ row ∷ [] =
    puts.rows ∙ ap (λ r. put_row (with_rowid Chosen (old.now.trees 0) r) (old.now.trees 0)) (let made : cast_row office (eval_all office_terms (params ∷ [])) ≡ row = simp (cast_int, cast_null) in made)
    ∙ ap (λ t. put_row (with_rowid Chosen t row) t) none in
    record { schema = puts.keeps_schema; rows = with_other register_schema.tables 0 _ no_rows old.now.trees new.now.trees rows puts.others was.rows }

-- the rows of the office and of the counts
abbrev pub first_rows : Issuer → Terms → Trees
first_rows issuer policy = with_rows 14 (stored_counts no_counts ∷ []) (office_alone issuer policy)

-- the schedule is to be written
pub staged_first : (issuer : Issuer) (policy : Terms) (db : Database) → HasRows register_schema (first_rows issuer policy) db → IsStaged (first_rows issuer policy) [] db
staged_first issuer policy db has = record {
  schema = has.schema;
  others = λ n known apart. rows_at db (first_rows issuer policy) has n known;
  rows = rows_at db (first_rows issuer policy) has 17 refl;
}

-- and once it is, no record is shown
pub filled : (issuer : Issuer) (policy : Terms) (db : Database) → IsPolicy policy → IsStaged (first_rows issuer policy) policy.schedule db → AreRecordsAndDerived db (no_records issuer policy) (no_derived_rows policy.schedule)
filled issuer policy db is staged =
    let rows : AreRows db.trees (no_records issuer policy) = record {
      days = pos (greatest_of policy.schedule);
      office = staged.others 0 refl refl;
      subscribers = staged.others 1 refl refl;
      orders = staged.others 3 refl refl;
      certificates = staged.others 4 refl refl;
      requests = staged.others 7 refl refl;
      revocations = staged.others 8 refl refl;
      crls = staged.others 11 refl refl;
      schedule = staged.rows;
      policy = is;
      subscribers_numbered = tt;
      orders_numbered = tt;
      requests_numbered = tt;
      crls_numbered = tt;
      certificate_serials = tt;
      request_serials = tt;
      revocation_serials = tt;
    } in
    let kept : AreDerivedRows db.trees (no_derived_rows policy.schedule) = record {
      days = ap office_days (staged.others 0 refl refl);
      letters = staged.others 12 refl refl;
      counts = staged.others 14 refl refl;
      listed = staged.others 15 refl refl;
      letter_serials = tt;
      listed_serials = tt;
    } in
    record { shown = record { schema = staged.schema; rows = rows }; kept = kept }

-- what is kept beside no records stands for them
pub none_kept : (issuer : Issuer) (policy : Terms) → Kept (no_derived_rows policy.schedule) (no_records issuer policy)
none_kept issuer policy = record { letters = IsPermutation-refl []; counts = refl; listed = IsPermutation-refl [] }
