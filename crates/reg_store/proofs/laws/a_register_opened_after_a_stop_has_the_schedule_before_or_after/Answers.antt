-- What a stop found before the call is what was committed, and so the records that were shown; the rest is what the call may commit.
use Rattle.std.proofs.Common.{◌⊎◌, inl, inr}
use Rattle.std.proofs.Math.Logic.{∥∥₁_map}
use Rattle.sqlite.specs.Held.{state}
use Rattle.sqlite.specs.State.{HasCleanDisk}
use Rattle.reg_core.specs.Changes.{with_schedule}
use Rattle.reg_store_tables.proofs.PublicLaws.{moving-was_clean as was_clean}
use Rattle.reg_store_tables.specs.Kept.{ShowsKept}
use Rattle.reg_store.proofs.OpenedAgain.{keeps_again, shows_again}
use Rattle.reg_store.proofs.laws.a_register_opened_after_a_stop_has_the_schedule_before_or_after.Goals as goal

pub returns : goal.returns
returns g c = λ old new again records steps kept up live survives opened.
    let s = g.S.Store in
    let trees = (state s again).committed.trees in
    let first : HasCleanDisk (state s old) = was_clean (state s old) (state s new) survives.clean opened.honest in
    ∥∥₁_map opened.found (λ may.
    let shown : ShowsKept s again records ⊎ ShowsKept s again (with_schedule records steps) = elim (survives.crash opened.honest trees may) [
      | inl before ↦ inl (keeps_again s again opened.opens opened.live old up live (g.met.S.Store.settled old.store trees up before) records first kept)
      | inr made ↦ inr (shows_again s again opened.opens opened.live (with_schedule records steps) (made records kept))
    ] in shown)
