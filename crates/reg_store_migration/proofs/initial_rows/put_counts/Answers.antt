use Rattle.reg_store_tables.proofs.PublicLaws.{inserts_rows, moves}
use Rattle.reg_store_migration.proofs.FirstRows.{puts_counts, put_counts_means}
use Rattle.reg_store_migration.proofs.initial_rows.put_counts.Goals as goal

pub returns-clause-made : goal.returns-clause-made
returns-clause-made g c clean =
    let ran = c.in_ok-write.ensures.ran clean in
    moves ran (puts_counts _ _ _ ran, inserts_rows ran put_counts_means.plain put_counts_means.is)
