-- What a stop found before the call is what was committed; the rest is what the call may commit, and that only of older tables.
use Rattle.std.proofs.Common.{◌≡◌, ◌⊎◌, inl, inr}
use Rattle.std.proofs.Math.Logic.{∥∥₁_elim, ∥∥₁_map}
use Rattle.sqlite_trees.specs.Props.{Trees-set}
use Rattle.sqlite.specs.Effect.{Database}
use Rattle.reg_core.specs.Records.{Records}
use Rattle.sqlite.specs.Held.{state}
use Rattle.sqlite.specs.State.{HasCleanDisk}
use Rattle.reg_store_tables.proofs.PublicLaws.{moving-was_clean as was_clean, kept_shows}
use Rattle.reg_store_migration.specs.Older.{IsShownByOlder, ShowsOlder}
use Rattle.reg_store_opening.specs.AfterStoppedOpening.{IsOpened}
use Rattle.reg_store_tables.specs.Kept.{ShowsKept}
use Rattle.reg_store_tables.specs.Shows.{Shows}
use Rattle.reg_store.proofs.OpenedAgain.{holds_again, keeps_again, same_again, shows_again}
use Rattle.reg_store.proofs.StopsOfOpenStores.{IsUntouched, opened_rests}
use Rattle.reg_store.proofs.laws.a_register_opened_after_a_stop_during_a_migration_shows_the_same_records.Goals as goal

pub returns : goal.returns
returns g c = λ old new again up live survives opened.
    let s = g.S.Store in
    let trees = (state s again).committed.trees in
    let first : HasCleanDisk (state s old) = was_clean (state s old) (state s new) survives.clean opened.honest in
    let found : (state s new).may_leave trees → IsUntouched s old trees ⊎ IsOpened s old trees = λ may. elim (survives.crash opened.honest trees may) [
      | inl before ↦ inl (g.met.S.Store.settled old.store trees up before)
      | inr newer ↦ inr newer
    ] in
    let untouched : (records : Records) → Shows s old records → IsUntouched s old trees = λ records shows.
    ∥∥₁_elim opened.found (Trees-set _ _) (λ may. opened_rests s old records trees first up shows (found may)) in (
      λ records shows. same_again s again opened.opens opened.live old up live (untouched records shows),
      λ records kept. keeps_again s again opened.opens opened.live old up live (untouched records (kept_shows s old records kept)) records first kept,
      λ version records shows sound. ∥∥₁_map opened.found (λ may.
          let shown : ShowsOlder version s again records ⊎ ShowsKept s again records = elim (found may) [
            | inl is ↦ inl (holds_again s again opened.opens opened.live old up live is (λ (db : Database). IsShownByOlder version db records) first shows)
            | inr newer ↦ inr (shows_again s again opened.opens opened.live records (newer.1 version records shows sound))
          ] in shown),
    )
