use Rattle.std.proofs.Common.{[], ◌∷◌, subst}
use Rattle.sqlite.specs.Held.{state}
use Rattle.reg_store_tables.specs.Stays.{Ran}
use Rattle.reg_store_tables.proofs.PublicLaws.{inserts_rows, moves, moment_is}
use Rattle.reg_store_migration.specs.declared.sql.TheConstants.{FILL_LETTERS}
use Rattle.reg_store_migration.proofs.Lettering.{fills_letters, fill_means, fill_plain}
use Rattle.reg_store_migration.proofs.derived_tables.fill_letters.Goals as goal

pub returns-clause-made : goal.returns-clause-made
returns-clause-made g c clean =
    let old = state g.S.Store c.args.tx.now.conn.now in
    let new = state g.S.Store c.write.new.tx.conn.now in
    let ran = subst (λ params. Ran FILL_LETTERS.now params old new c.in_ok-write.field-0) (λ i. (moment_is _ _ c.sql_moment.ensures) i ∷ []) (c.in_ok-write.ensures.ran clean) in
    moves ran (fills_letters old new c.args.last c.in_ok-write.field-0 ran, inserts_rows ran fill_plain fill_means)
