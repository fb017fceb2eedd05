use Rattle.std.proofs.Common.{sym, subst, ◌∙◌}
use Rattle.sqlite.specs.Effect.{Database}
use Rattle.sqlite.specs.Held.{state}
use Rattle.sqlite.proofs.Callers.{unchanged_then}
use Rattle.reg_store_tables.specs.Shows.{IsShownBy}
use Rattle.reg_store_tables.specs.Stays.{Moves}
use Rattle.reg_store_tables.specs.Steps.{KeepsRows}
use Rattle.reg_store_tables.proofs.PublicLaws.{asked_moves, stays_here, stepped_clean, under_way}
use Rattle.reg_store_migration.specs.Refilled.{HasRelisted}
use Rattle.reg_store_migration.proofs.derived_listings.rebuild_listed.Goals as goal

pub returns-clause-made : goal.returns-clause-made
returns-clause-made g c under clean =
    let s0 = state g.S.Store c.args.tx.now.conn.now in
    let s2 = state g.S.Store c.revocations.new.tx.conn.now in
    let new = (state g.S.Store c.rebuild_listed_rows.new.tx.conn.now).now in
    let clean2 = stepped_clean c.rebuild_listed_rows.ensures.stepped clean in
    let first = c.in_ok-crls.ensures.asked (stepped_clean c.revocations.ensures.stepped clean2) in
    let second = c.in_ok-revocations.ensures.asked clean2 in
    let same = unchanged_then s0 _ s2 first.0 second.0 in
    let still : Moves s0 s2 (λ _. Unit {0}) = stays_here under same tt in
    asked_moves _ _ _ _ _ c.rebuild_listed_rows.result same (c.rebuild_listed_rows.ensures.made (under_way still) clean) (λ _ relists. (
      λ records sound had.
          let all = second.1 records (subst (λ (d : Database). IsShownBy d records) (sym first.0.0.now_is) had.1.shown) in
          relists.0 records sound (c.deref.ensures.value ∙ all) (c.deref-2.ensures.value ∙ first.1 records had.1.shown) (subst (λ (d : Database). HasRelisted d records 0) (sym same.0.now_is) had),
      subst (λ (d : Database). KeepsRows d new) same.0.now_is relists.1,
    ))
