-- An opened register stays as it was opened over the look-ups that choose the signer.
use Rattle.std.proofs.Common.{◌≡◌, ◌≤◌, ◌⊎◌, ℕ, List, inl, inr, sym, subst}
use Rattle.sqlite.specs.Held.{Held, state}
use Rattle.sqlite.specs.State.{HasCleanDisk, Survives}
use Rattle.sqlite.proofs.StateLemmas.{survives_then}
use Rattle.sqlite_trees.specs.Tree.{Trees}
use Rattle.sqlite_trees.specs.View.{doubt}
use Rattle.sqlite_trees.specs.declared.store.Store.{Ghosts}
use Rattle.reg_core.specs.Records.{Records}
use Rattle.reg_core.specs.Sound.{SoundRows}
use Rattle.reg_store_migration.specs.Older.{ShowsOlder}
use Rattle.reg_store_migration.specs.declared.version.OlderVersion.{OlderVersion}
use Rattle.reg_store_tables.proofs.PublicLaws.{after_look, kept_shows}
use Rattle.reg_store_tables.specs.Kept.{ShowsKept}
use Rattle.reg_store_tables.specs.Shows.{Shows}
use Rattle.reg_store_tables.specs.Stays.{IsRegister, LeavesNothing, Stays}
use Rattle.reg_desk_program.specs.Files.{Showed}

-- The connection, the store that was opened, that store after the look-ups, and the store of the office.
module _ {C : Type 0} (g : Ghosts C) (connection opened after held : Held C) (is : held ≡ after) where
  -- the tables still show what they showed
  pub holds : (records : Records) → doubt (state g opened).is_clean ≤ doubt (state g after).is_clean
      → (IsRegister (state g opened) → Stays (state g opened) (state g after))
      → ShowsKept g opened records → ShowsKept g held records
  holds records forgets same shown =
      let P : Held C → Type 0 = λ v. ShowsKept g v records in
      subst P (sym is) (after_look g opened after records forgets same shown)

  -- if the disk is clean for the office, it was clean after the look-ups
  pub was_clean : HasCleanDisk (state g held) → HasCleanDisk (state g after)
  was_clean clean =
      let P : Held C → Type 0 = λ v. HasCleanDisk (state g v) in
      subst P is clean

  -- a stop leaves what the opening left
  pub survives : (Made : Trees → Type 0) → Survives (state g connection) (state g opened) Made
      → LeavesNothing (state g opened) (state g after) → Survives (state g connection) (state g held) Made
  survives Made first second =
      let P : Held C → Type 0 = λ v. Survives (state g connection) (state g v) Made in
      subst P (sym is)
      (survives_then (state g connection) (state g opened) (state g after) Made (λ _. ⊥) Made (λ clean trees made. made) (λ clean trees none. absurd none) first second)

  -- what the connection showed, the store shows, with derived tables that match it
  pub shown_kept : (records : Records) → (ShowsKept g connection records → ShowsKept g opened records)
      → ((version : OlderVersion) → ShowsOlder version g connection records → SoundRows records → ShowsKept g opened records)
      → Showed g connection records → ShowsKept g opened records
  shown_kept records kept migrated (inl now) = kept now
  shown_kept records kept migrated (inr (version, older, sound)) = migrated version older sound

  -- what the connection showed, the store shows
  pub shown : (records : Records) → (ShowsKept g connection records → ShowsKept g opened records)
      → ((version : OlderVersion) → ShowsOlder version g connection records → SoundRows records → ShowsKept g opened records)
      → Showed g connection records → Shows g opened records
  shown records kept migrated (inl now) = kept_shows g opened records (kept now)
  shown records kept migrated (inr (version, older, sound)) = kept_shows g opened records (migrated version older sound)
