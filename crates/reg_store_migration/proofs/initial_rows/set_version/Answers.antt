use Rattle.reg_store_tables.proofs.PublicLaws.{updates_rows, moves}
use Rattle.reg_store_migration.proofs.FirstRows.{sets_version, set_version_means}
use Rattle.reg_store_migration.proofs.initial_rows.set_version.Goals as goal

pub returns-clause-made : goal.returns-clause-made
returns-clause-made g c clean =
    let ran = c.in_ok-write.ensures.ran clean in
    moves ran (sets_version _ _ _ ran, updates_rows ran set_version_means.plain set_version_means.is)
