use Rattle.std.proofs.Common.{[], ◌∷◌, subst}
use Rattle.sqlite.specs.Held.{state}
use Rattle.reg_store_tables.specs.Stays.{Ran}
use Rattle.reg_store_tables.specs.declared.sql.TheConstants.{SET_COUNTS}
use Rattle.reg_store_tables.proofs.Keeping.{updates_rows}
use Rattle.reg_store_tables.proofs.Meaning.{set_counts_means}
use Rattle.reg_store_tables.proofs.Moving.{moves}
use Rattle.reg_store_tables.proofs.Params.{number_is}
use Rattle.reg_store_tables.proofs.Stages.{sets_counts}
use Rattle.reg_store_tables.proofs.write_statements.set_counts.Goals as goal

pub returns-clause-made : goal.returns-clause-made
returns-clause-made g c clean =
    let old = state g.S.Store c.args.tx.now.conn.now in
    let new = state g.S.Store c.write.new.tx.conn.now in
    let ran = subst (λ params. Ran SET_COUNTS.now params old new c.in_ok-write.field-0)
    (λ i. (number_is _ _ c.in_ok-good.ensures.value) i ∷ (number_is _ _ c.in_ok-revoked.ensures.value) i ∷ (number_is _ _ c.in_ok-expired.ensures.value) i ∷ []) (c.in_ok-write.ensures.ran clean) in
    moves ran (sets_counts old new c.args.counts c.in_ok-write.field-0 ran, updates_rows ran set_counts_means.plain set_counts_means.is)
