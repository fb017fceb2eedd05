-- Commands that run inside a transaction.
use Rattle.std.specs.Prelude.{IfOk}
use Rattle.std.proofs.Common.{◌≡◌, ◌<◌, true, ℕ, List, [], ◌∷◌, ◌++◌, Option, Result, Ok, Err, IsTrue, refl, sym, ap, subst, ◌∙◌}
use Rattle.std.proofs.lemmas.Bool.{false≢true}
use Rattle.sqlite_trees.specs.declared.store.Store.{Ghosts}
use Rattle.sqlite.specs.Effect.{Database}
use Rattle.sqlite.specs.Held.{Held, state}
use Rattle.sqlite.specs.State.{HasCleanDisk}
use Rattle.reg_core.specs.Calendar.{clock_end}
use Rattle.reg_core.specs.Changes.{changed_by}
use Rattle.reg_core.specs.Records.{Records}
use Rattle.reg_core.specs.Sound.{SoundRows}
use Rattle.reg_core.specs.declared.change.Change.{Change}
use Rattle.reg_core.specs.declared.command.Command.{Command}
use Rattle.reg_core.specs.declared.command.Reply.{Reply}
use Rattle.reg_core.specs.declared.refusal.Fault.{Fault}
use Rattle.reg_core_laws.specs.Run.{Happens, Run}
use Rattle.reg_crl.specs.Signing.{Identity, signed_by}
use Rattle.reg_store_changes.specs.ChangeEffects.{derived_after}
use Rattle.reg_store_changes.specs.ChangeSteps.{Enters}
use Rattle.reg_store_changes.specs.WithinTransactions.{IsInTransaction, StepsWithin}
use Rattle.reg_store_changes.proofs.PublicLaws.{kept_change, looked_step, steps_clean}
use Rattle.reg_store_tables.specs.Kept.{ShowsKeptUntil}
use Rattle.reg_store_tables.specs.Shows.{AreRecordsAndDerived}
use Rattle.reg_store_tables.specs.Stays.{Looked, Moves}
use Rattle.reg_store_tables.proofs.PublicLaws.{was_clean}
use Rattle.reg_office.specs.Batches.{HappensWithin, RunsWithin, StandsWithin}
use Rattle.reg_office.proofs.CommandsRun.{MayChange}
use Rattle.reg_office.proofs.Following.{step_keeps_sound_for}

module _ {C : Type 0} (g : Ghosts C) (signs : Identity → List ℕ → List ℕ → Type 0) (identity : Identity) where
  -- what stands in a transaction that is still under way after a look-up is shown until its end
  pub until_end : (old mid : Held C) (records : Records) → mid.in_transaction ≡ true → StandsWithin signs identity (state g old) records → ShowsKeptUntil g old mid records
  until_end old mid records under stands =
      (stands.columns, record { saved = λ idle. absurd (false≢true (sym idle ∙ under)); tables = λ clean up. stands.both }, stands.kept)

  -- a command that is accepted
  pub accepted_within : (old mid new : Held C) (now : ℕ) (command : Command) (reply : Reply) (change : Change) → Looked g old mid → mid.in_transaction ≡ true → StepsWithin g mid new
      → (IsInTransaction (state g mid) → HasCleanDisk (state g new) → Moves (state g mid) (state g new) (Enters now change (state g mid).now))
      → ((records : Records) → ShowsKeptUntil g old mid records → SoundRows records → HasCleanDisk (state g mid) → MayChange (signed_by signs identity) records now command reply change)
      → HappensWithin g signs identity old new now command (Ok reply)
  accepted_within old mid new now command reply change looked under stepped moves may within clean records stands =
      let clean_mid : HasCleanDisk (state g mid) = steps_clean stepped clean in
      let it = may records (until_end old mid records under stands) stands.sound.rows clean_mid in
      let moved = moves ((looked_step {g = g} {a = old} {b = mid} looked).within within) clean in
      let same = looked.within (λ whole up. within.register.now whole up) clean_mid moved.was_open under in
      let entered : Enters now change (state g old).now (state g new).now = subst (λ (db : Database). Enters now change db (state g new).now) same.now moved.tables in
      let turned = entered.turns records stands.columns stands.sound.rows it.fits stands.both in
      let after = changed_by records now change in (
        after,
        it.happens,
        record {
          under_way = (moved.is_open, moved.under_way);
          columns = derived_after now change stands.columns;
          both = turned.0;
          kept = kept_change records stands.columns now stands.sound.rows it.not_back stands.kept change it.fits;
          sound = step_keeps_sound_for signs identity records now command (Ok reply) after stands.sound it.happens;
        },
      )

  -- or refused, or comes to a fault
  pub failed_within : (old new : Held C) (now : ℕ) (command : Command) (fault : Fault) → Looked g old new → new.in_transaction ≡ true
      → ((records : Records) → ShowsKeptUntil g old new records → SoundRows records → HasCleanDisk (state g new) → Happens (signed_by signs identity) records now command (Err fault) records)
      → HappensWithin g signs identity old new now command (Err fault)
  failed_within old new now command fault looked under happens within clean records stands =
      let up : IsTrue (state g new).is_open = looked.live clean under stands.under_way.0 in
      let same = looked.within (λ whole up. within.register.now whole up) clean up under in (
        records,
        happens records (until_end old new records under stands) stands.sound.rows clean,
        record {
          under_way = (up, under);
          columns = stands.columns;
          both = subst (λ (db : Database). AreRecordsAndDerived db records stands.columns) (sym same.now) stands.both;
          kept = stands.kept;
          sound = stands.sound;
        },
      )

  -- a command after others
  run_more : (records : Records) (commands : List (ℕ × Command)) (outcomes : List (Result Reply Fault)) (middle after : Records) (timed : ℕ × Command) (outcome : Result Reply Fault)
      → Run (signed_by signs identity) records commands outcomes middle → Happens (signed_by signs identity) middle timed.0 timed.1 outcome after
      → Run (signed_by signs identity) records (commands ++ timed ∷ []) (outcomes ++ outcome ∷ []) after
  run_more records [] [] middle after timed outcome same happens = (after, subst (λ (r : Records). Happens (signed_by signs identity) r timed.0 timed.1 outcome after) same happens, refl)
  run_more records [] (first ∷ outcomes) middle after timed outcome run happens = absurd run
  run_more records (first ∷ commands) [] middle after timed outcome run happens = absurd run
  run_more records (first ∷ commands) (first_outcome ∷ outcomes) middle after timed outcome (next, here, rest) happens = (next, here, run_more next commands outcomes middle after timed outcome rest happens)

  pub one_more_within : (old mid new : Held C) (commands : List (ℕ × Command)) (outcomes : List (Result Reply Fault)) (timed : ℕ × Command) (outcome : Result Reply Fault)
      → StepsWithin g old mid → StepsWithin g mid new → RunsWithin g signs identity old mid commands outcomes → HappensWithin g signs identity mid new timed.0 timed.1 outcome
      → RunsWithin g signs identity old new (commands ++ timed ∷ []) (outcomes ++ outcome ∷ [])
  one_more_within old mid new commands outcomes timed outcome first second ran happens within clean records stands =
      let (middle, run, standing) = ran within (steps_clean second clean) records stands in
      let (after, one, standing_now) = happens (first.within within) clean middle standing in
      (after, run_more records commands outcomes middle after timed outcome run one, standing_now)

  pub none_within : (held : Held C) → RunsWithin g signs identity held held [] []
  none_within held within clean records stands = (records, refl, stands)
