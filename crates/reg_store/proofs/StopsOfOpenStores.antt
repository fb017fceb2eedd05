-- What was shown, at rest.
use Rattle.std.proofs.Common.{◌≡◌, ◌⊎◌, inl, inr, None, IsTrue, sym, ap, ◌∙◌, arith}
use Rattle.sqlite_value.specs.Order.{column}
use Rattle.sqlite_trees.specs.Tree.{Trees}
use Rattle.sqlite_trees.specs.declared.store.Store.{Ghosts}
use Rattle.sqlite.specs.Effect.{Database}
use Rattle.sqlite.specs.Held.{Held, state}
use Rattle.sqlite.specs.State.{HasCleanDisk, IsLive}
use Rattle.reg_core.specs.Records.{Records}
use Rattle.reg_store_tables.specs.Kept.{ShowsKept}
use Rattle.reg_store_tables.specs.Shows.{IsShownBy, Shows}
use Rattle.reg_store_tables.proofs.PublicLaws.{kept_shows, resting, rests_sound}
use Rattle.reg_store_tables.specs.AfterStop.{HaveRegisterSchema, ShowsDerivedAfterStop}
use Rattle.reg_store_migration.specs.Older.{version_number}
use Rattle.reg_store_migration.specs.declared.version.OlderVersion.{OlderVersion}
use Rattle.reg_store_migration.specs.declared.version.OlderVersion.TheVariants.{First, Second}
use Rattle.reg_store_opening.specs.AfterStoppedOpening.{IsOpened}
use Rattle.reg_store_opening.specs.VersionAndOffice.{IsOlder}
use Rattle.reg_store_opening.proofs.PublicLaws.{register_of, version_read, number_one, only_row}

-- the rows are those that were committed last
abbrev pub IsUntouched : {S : Type 0} → Ghosts S → Held S → Trees → Type 0
IsUntouched g old trees = trees ≡ (state g old).committed.trees

-- what is committed of shown records obeys a register's schema
pub at_rest_sound : {S : Type 0} (g : Ghosts S) (held : Held S) (records : Records) (trees : Trees) → HasCleanDisk (state g held) → IsTrue (state g held).is_open → Shows g held records → IsLive (state g held) → IsUntouched g held trees
    → HaveRegisterSchema trees
at_rest_sound g held records trees clean up shows live is =
    let db = (state g held).now in
    let same : trees ≡ db.trees = is ∙ ap (λ (d : Database). d.trees) (sym (shows.saved clean up)) in
    rests_sound db trees same (shows.tables clean up).schema (live up).0

-- and are rows of the records
pub at_rest : {S : Type 0} (g : Ghosts S) (held : Held S) (records : Records) (trees : Trees) → HasCleanDisk (state g held) → IsTrue (state g held).is_open → ShowsKept g held records → HaveRegisterSchema trees → IsUntouched g held trees
    → ShowsDerivedAfterStop records trees
at_rest g held records trees clean up kept sound is =
    let db = (state g held).now in
    let same : trees ≡ db.trees = is ∙ ap (λ (d : Database). d.trees) (sym (kept.1.saved clean up)) in
    (kept.0, resting db trees records kept.0 same (kept.1.tables clean up), kept.2, sound)

-- the same of a connection that obeys its schema
pub live_at_rest : {S : Type 0} (g : Ghosts S) (held : Held S) (records : Records) (trees : Trees) → HasCleanDisk (state g held) → IsTrue (state g held).is_open → ShowsKept g held records → IsLive (state g held) → IsUntouched g held trees
    → ShowsDerivedAfterStop records trees
live_at_rest g held records trees clean up kept live is = at_rest g held records trees clean up kept (at_rest_sound g held records trees clean up (kept_shows g held records kept) live is) is

-- ---- tables of the program's version say no older one

never_three : (version : OlderVersion) → 3 ≡ version_number version → ⊥
never_three First e = absurd (omega arith)
never_three Second e = absurd (omega arith)

never_older : (db : Database) (records : Records) → IsShownBy db records → IsOlder db → ⊥
never_older db records shown (version, schema, has, says) =
    let three = version_read None db has.0 (register_of db records shown) has.1 in
    let row : three.0 ≡ has.2.0 = only_row has.0 three.0 has.2.0 three.1 has.2.1 in
    never_three version (number_one 3 (version_number version) (sym three.2 ∙ ap (λ r. column r 0) row ∙ has.2.2))

-- ---- what an opening may leave

pub opened_rests : {S : Type 0} (g : Ghosts S) (held : Held S) (records : Records) (trees : Trees) → HasCleanDisk (state g held) → IsTrue (state g held).is_open → Shows g held records
    → IsUntouched g held trees ⊎ IsOpened g held trees → IsUntouched g held trees
opened_rests g held records trees clean up shows (inl is) = is
opened_rests g held records trees clean up shows (inr opened) = absurd (never_older (state g held).now records (shows.tables clean up) opened.0)
