use Rattle.std.proofs.Common.{[], ◌∷◌, refl, subst}
use Rattle.sqlite.specs.Held.{state}
use Rattle.reg_store_tables.specs.Stays.{Ran}
use Rattle.reg_store_changes.specs.declared.sql.TheConstants.{SET_COUNTS}
use Rattle.reg_store_tables.proofs.PublicLaws.{moves, number_is, set_counts_means, sets_counts, updates_rows}
use Rattle.reg_store_changes.proofs.Within.{writing}
use Rattle.reg_store_changes.proofs.statements.set_counts.Goals as goal

pub returns-clause-made : goal.returns-clause-made
returns-clause-made g c within clean =
    let old = state g.S.Store c.args.conn.now in
    let new = state g.S.Store c.write.new.conn in
    let ran = subst (λ params. Ran SET_COUNTS.now params old new c.in_ok-write.field-0)
    (λ i. (number_is _ _ c.in_ok-good.ensures.value) i ∷ (number_is _ _ c.in_ok-revoked.ensures.value) i ∷ (number_is _ _ c.in_ok-expired.ensures.value) i ∷ []) (c.in_ok-write.ensures.ran (writing set_counts_means refl) within clean) in
    moves ran (sets_counts old new c.args.counts c.in_ok-write.field-0 ran, updates_rows ran set_counts_means.plain set_counts_means.is)

pub returns-clause-stepped : goal.returns-clause-stepped
returns-clause-stepped g c = c.write.ensures.stepped (writing set_counts_means refl)

pub returns-in_err-write-clause-stepped : goal.returns-in_err-write-clause-stepped
returns-in_err-write-clause-stepped g c = c.write.ensures.stepped (writing set_counts_means refl)
