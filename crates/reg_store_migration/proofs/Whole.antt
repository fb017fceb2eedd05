-- What is kept beside the records, whether or not the connection can still be asked.
use Rattle.std.proofs.Common.{◌≡◌, ◌==◌, ℕ, pos, true, false, map, refl, inl, inr, arith}
use Rattle.std.proofs.lemmas.Bool.{cases_Bool}
use Rattle.std.proofs.lemmas.Bool.Decides.{nat_tests}
use Rattle.std.proofs.lemmas.List.Sorted.{IsPermutation-refl}
use Rattle.sqlite_trees.specs.Tree.{Trees}
use Rattle.sqlite_trees.specs.View.{doubt}
use Rattle.sqlite_trees.specs.declared.store.Store.{Ghosts}
use Rattle.sqlite.specs.Effect.{Database, IsDatabase}
use Rattle.sqlite.specs.Held.{Held, state}
use Rattle.sqlite.specs.State.{HasCleanDisk}
use Rattle.reg_core.specs.Records.{Records}
use Rattle.reg_core.specs.Schedule.{greatest_of}
use Rattle.reg_core.specs.Status.{counts}
use Rattle.reg_store_tables.specs.DerivedRows.{DerivedRows}
use Rattle.reg_store_tables.specs.Kept.{Kept, ShowsKept, standing_of, listed_of}
use Rattle.reg_store_tables.specs.Shows.{HasOfficeDays, Holds}
use Rattle.reg_store_tables.specs.AfterStop.{ShowsDerivedAfterStop}
use Rattle.reg_store_tables.proofs.PublicLaws.{resting, rests_sound}
use Rattle.reg_store_migration.specs.Refilled.{HasKept}

abbrev columns_of : Records → DerivedRows
columns_of records = record {
  letters = map (standing_of records) records.certificates;
  counts = counts records records.last;
  listed = map (listed_of records) records.revocations;
  days = pos (greatest_of records.policy.schedule);
}

columns_stand : (records : Records) → Kept (columns_of records) records
columns_stand records =
    record { letters = IsPermutation-refl (map (standing_of records) records.certificates); counts = refl; listed = IsPermutation-refl (map (listed_of records) records.revocations) }

is_zero : (n : ℕ) → (n == 0) ≡ true → n ≡ 0
is_zero n e = grind (arith, nat_tests)

not_zero : (n : ℕ) → (n == 0) ≡ false → n ≡ 0 → ⊥
not_zero n e is = absurd (let t : (n == 0) ≡ true = grind (arith, nat_tests) in cc)

-- where it can, these columns are those of its tables, and else any that stand for the records
pub kept_whole : {S : Type 0} (g : Ghosts S) (h : Held S) (records : Records) → Holds g h (λ db. HasKept db records) → ShowsKept g h records
kept_whole g h records holds = elim (cases_Bool (doubt (state g h).is_clean == 0)) [
  | inl clean ↦ elim (cases_Bool (state g h).is_open) [
    | inl up ↦ let had = holds.tables (is_zero (doubt (state g h).is_clean) clean) up in (had.0, record { saved = holds.saved; tables = λ c u. had.1 }, had.2)
    | inr shut ↦ (columns_of records, record { saved = holds.saved; tables = λ c u. absurd (let open_too : (state g h).is_open ≡ true = u in cc) }, columns_stand records)
  ]
  | inr doubtful ↦ (columns_of records, record { saved = holds.saved; tables = λ c u. absurd (not_zero (doubt (state g h).is_clean) doubtful c) }, columns_stand records)
]

-- where nothing can be known, anything is
pub any_kept : {S : Type 0} (g : Ghosts S) (h : Held S) (records : Records) → (HasCleanDisk (state g h) → ⊥) → ShowsKept g h records
any_kept g h records none = (columns_of records, record { saved = λ clean up. absurd (none clean); tables = λ clean up. absurd (none clean) }, columns_stand records)

pub any_days : {S : Type 0} (g : Ghosts S) (h : Held S) (days : ℕ) → (HasCleanDisk (state g h) → ⊥) → HasOfficeDays g h days
any_days g h days none = record { saved = λ clean up. absurd (none clean); tables = λ clean up. absurd (none clean) }

-- what a database shows and keeps its rows show and keep, and what it obeys they obey
pub kept_rests : (db : Database) (trees : Trees) (records : Records) → trees ≡ db.trees → HasKept db records → IsDatabase db → ShowsDerivedAfterStop records trees
kept_rests db trees records is had sound = (had.0, resting db trees records had.0 is had.1, had.2, rests_sound db trees is had.1.shown.schema sound)
