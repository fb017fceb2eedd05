-- What a stop found before the call is what was committed, and so the records that stood; the rest is what the call may commit.
use Rattle.std.proofs.Common.{◌⊎◌, inl, inr}
use Rattle.std.proofs.Math.Logic.{∥∥₁_map}
use Rattle.sqlite.specs.Held.{state}
use Rattle.sqlite.specs.State.{HasCleanDisk}
use Rattle.reg_store.proofs.PublicLaws.{keeps_again}
use Rattle.reg_store_tables.proofs.PublicLaws.{was_clean}
use Rattle.reg_office.specs.OpenedAgain.{ShowsAccepted}
use Rattle.reg_office.specs.Stands.{Stands}
use Rattle.reg_office.proofs.OpenedAgain.{stands_done}
use Rattle.reg_office.proofs.laws.a_register_opened_after_a_stop_stands_before_or_after.Goals as goal

pub returns : goal.returns
returns g c = λ old new again identity records now command stands up live survives opened.
    let s = g.C.Store in
    let signs = g.S.Signer.signs in
    let trees = (state s again).committed.trees in
    let first : HasCleanDisk (state s old) = was_clean (state s old) (state s new) survives.clean opened.honest in
    ∥∥₁_map opened.found (λ may.
    let shown : Stands s signs again identity records ⊎ ShowsAccepted s signs again identity records now command = elim (survives.crash opened.honest trees may) [
      | inl before ↦ inl (record {
        shown = keeps_again s again opened.opens opened.live old up live (g.met.C.Store.settled old.store trees up before) records first stands.shown;
        sound = stands.sound;
      })
      | inr does ↦ inr (stands_done s signs again identity opened.opens opened.live records now command (does records stands))
    ] in shown)
