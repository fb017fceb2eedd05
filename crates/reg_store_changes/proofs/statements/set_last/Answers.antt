use Rattle.std.proofs.Common.{refl}
use Rattle.reg_store_tables.proofs.PublicLaws.{updates_rows, moves}
use Rattle.reg_store_changes.proofs.Meaning.{set_last_means}
use Rattle.reg_store_changes.proofs.Sweeping.{sets_last}
use Rattle.reg_store_changes.proofs.Within.{writing}
use Rattle.reg_store_changes.proofs.statements.set_last.Goals as goal

pub returns-clause-made : goal.returns-clause-made
returns-clause-made g c within clean =
    let ran = c.in_ok-write.ensures.ran (writing set_last_means refl) within clean in
    moves ran (sets_last _ _ _ c.args.now ran c.sql_moment.ensures, updates_rows ran set_last_means.plain set_last_means.is)

pub returns-clause-stepped : goal.returns-clause-stepped
returns-clause-stepped g c = c.write.ensures.stepped (writing set_last_means refl)

pub returns-in_err-write-clause-stepped : goal.returns-in_err-write-clause-stepped
returns-in_err-write-clause-stepped g c = c.write.ensures.stepped (writing set_last_means refl)
