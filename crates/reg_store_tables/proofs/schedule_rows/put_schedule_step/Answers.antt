use Rattle.std.proofs.Common.{[], ◌∷◌, subst}
use Rattle.sqlite.specs.Held.{state}
use Rattle.reg_store_tables.specs.Stays.{Ran}
use Rattle.reg_store_tables.specs.declared.sql.TheConstants.{PUT_STEP}
use Rattle.reg_store_tables.proofs.Keeping.{inserts_rows}
use Rattle.reg_store_tables.proofs.Meaning.{put_step_means}
use Rattle.reg_store_tables.proofs.Moving.{moves}
use Rattle.reg_store_tables.proofs.Params.{number_is, moment_is}
use Rattle.reg_store_tables.proofs.Stages.{puts_step}
use Rattle.reg_store_tables.proofs.schedule_rows.put_schedule_step.Goals as goal

pub returns-clause-made : goal.returns-clause-made
returns-clause-made g c clean =
    let old = state g.S.Store c.args.tx.now.conn.now in
    let new = state g.S.Store c.write.new.tx.conn.now in
    let ran = subst (λ params. Ran PUT_STEP.now params old new c.in_ok-write.field-0) (λ i. (moment_is _ _ c.sql_moment-from.ensures) i ∷ (number_is _ _ c.in_ok-days.ensures.value) i ∷ []) (c.in_ok-write.ensures.ran clean) in
    moves ran (puts_step c.args.from c.args.days old new c.in_ok-write.field-0 ran, inserts_rows ran put_step_means.plain put_step_means.is)
