use Rattle.std.proofs.Common.{sym, subst}
use Rattle.sqlite.specs.Held.{state}
use Rattle.reg_store_tables.specs.Schema.{record_tables}
use Rattle.reg_store_tables.proofs.PublicLaws.{moves_as}
use Rattle.reg_store_migration.specs.Older.{with_derived_tables}
use Rattle.reg_store_migration.specs.Rebuilds.{Rebuilds}
use Rattle.reg_store_migration.proofs.Defining.{has_own}
use Rattle.reg_store_migration.proofs.missing_tables.make_or_clear_derived_tables.Goals as goal

pub returns-in-First-clause-made : goal.returns-in-First-clause-made
returns-in-First-clause-made g c clean =
    let old = (state g.S.Store c.args.tx.now.conn.now).now in
    let new = (state g.S.Store c.make_derived_tables.new.tx.conn.now).now in
    moves_as _ _ _ _ c.make_derived_tables.result (c.make_derived_tables.ensures.made clean) (λ _ added.
    subst (λ version. Rebuilds version with_derived_tables old new) (sym c.in-First.is) (record { rows = λ rows beside had. added rows had; schema = λ has. (added old.trees (has_own record_tables old has)).schema }))
