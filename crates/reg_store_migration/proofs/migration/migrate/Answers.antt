use Rattle.std.proofs.Common.{rules}
use Rattle.reg_store_tables.proofs.PublicLaws.{commits}
use Rattle.reg_store_migration.specs.Rebuilds.{MigratesTables}
use Rattle.reg_store_migration.proofs.migration.migrate.Goals as goal

pub returns-clause-commits : goal.returns-clause-commits
returns-clause-commits g c =
    commits g.S.Store c.args.conn.now _ _ _ c.transaction-tx.ensures.begun c.migrate_tables.ensures.stepped (MigratesTables c.args.version c.args.days c.args.last) c.in_ok-migrate_tables.ensures.made _ c.commit.result c.commit.ensures
    (search rules)
