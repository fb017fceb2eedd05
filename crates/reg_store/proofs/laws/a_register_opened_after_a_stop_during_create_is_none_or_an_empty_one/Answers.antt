-- What a stop found before the call is what was committed; the rest is what the call may commit.
use Rattle.std.proofs.Common.{◌≡◌, ◌⊎◌, inl, inr}
use Rattle.std.proofs.Math.Logic.{∥∥₁_map}
use Rattle.sqlite.specs.Held.{state}
use Rattle.reg_core.specs.Records.{no_records}
use Rattle.reg_store_tables.specs.Kept.{ShowsKept}
use Rattle.reg_store_tables.specs.Schema.{no_schema}
use Rattle.reg_store.proofs.OpenedAgain.{same_again, shows_again}
use Rattle.reg_store.proofs.laws.a_register_opened_after_a_stop_during_create_is_none_or_an_empty_one.Goals as goal

pub returns : goal.returns
returns g c = λ old new again issuer policy up live survives opened.
    let s = g.S.Store in
    let trees = (state s again).committed.trees in
    ∥∥₁_map opened.found (λ may.
    let shown : ((state s again).now ≡ (state s old).committed) ⊎ ((old.schema ≡ no_schema) × ShowsKept s again (no_records issuer policy)) = elim (survives.crash opened.honest trees may) [
      | inl before ↦ inl (same_again s again opened.opens opened.live old up live (g.met.S.Store.settled old.store trees up before))
      | inr made ↦ inr (made.0, shows_again s again opened.opens opened.live (no_records issuer policy) made.1)
    ] in shown)
