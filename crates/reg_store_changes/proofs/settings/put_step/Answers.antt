use Rattle.std.proofs.Common.{[], ◌∷◌, refl, subst}
use Rattle.sqlite.specs.Held.{state}
use Rattle.reg_store_tables.specs.Stays.{Ran}
use Rattle.reg_store_changes.specs.declared.sql.TheConstants.{PUT_STEP}
use Rattle.reg_store_tables.proofs.PublicLaws.{inserts_rows, moment_is, moves, number_is, put_step_means, puts_step}
use Rattle.reg_store_changes.proofs.Within.{writing}
use Rattle.reg_store_changes.proofs.settings.put_step.Goals as goal

pub returns-clause-made : goal.returns-clause-made
returns-clause-made g c within clean =
    let old = state g.S.Store c.args.conn.now in
    let new = state g.S.Store c.write.new.conn in
    let ran = subst (λ params. Ran PUT_STEP.now params old new c.in_ok-write.field-0)
    (λ i. (moment_is _ _ c.sql_moment-from.ensures) i ∷ (number_is _ _ c.in_ok-days.ensures.value) i ∷ []) (c.in_ok-write.ensures.ran (writing put_step_means refl) within clean) in
    moves ran (puts_step c.args.from c.args.days old new c.in_ok-write.field-0 ran, inserts_rows ran put_step_means.plain put_step_means.is)

pub returns-clause-stepped : goal.returns-clause-stepped
returns-clause-stepped g c = c.write.ensures.stepped (writing put_step_means refl)

pub returns-in_err-write-clause-stepped : goal.returns-in_err-write-clause-stepped
returns-in_err-write-clause-stepped g c = c.write.ensures.stepped (writing put_step_means refl)
